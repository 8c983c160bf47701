-- Paths whose parts are cut off one after another.
use Rattle.std.proofs.Common.{◌≡◌, ◌∙◌, ℕ, suc, ◌+◌, ◌-◌, ◌<◌, List, [], ◌∷◌, length, take, drop, Bool, true, false, cond, not, refl, ap, arith}
use Rattle.std.specs.List.{onto_first, position_or_len, slice_range}
use Rattle.std.proofs.lemmas.List.Splits.{join_with_byte-slice_split, slice_split_first}
use Rattle.hx_object.specs.Names.{slash}
use Rattle.hx_api.specs.Paths.{cluster_object, collection, collection_in, is_slash, object_in, parts_of}
use Rattle.hx_api.specs.InsideRoutes.{path_of_parts, resource_behind}
use Rattle.hx_api.specs.declared.routes.Form.TheVariants.{Collection, Object, CollectionIn, ObjectIn}

-- a path without a slash is one part
pub uncut : (path : List ℕ) → position_or_len is_slash path ≡ length path → parts_of path ≡ path ∷ []
uncut [] none = refl
uncut (byte ∷ path) none = by (is_slash byte) none (uncut path)
  where
    by : (b : Bool) → cond (not b) (1 + position_or_len is_slash path) 0 ≡ suc (length path) → (position_or_len is_slash path ≡ length path → parts_of path ≡ path ∷ [])
        → cond b ([] ∷ parts_of path) (onto_first byte (parts_of path)) ≡ (byte ∷ path) ∷ []
    by true e ih = absurd (omega arith)
    by false e ih = rw (ih (omega arith)) refl

-- a path with one is cut at the first
pub cut_at : (path : List ℕ) (k : ℕ) → position_or_len is_slash path ≡ k → k < length path → parts_of path ≡ slice_range path 0 k ∷ parts_of (drop (k + 1) path)
cut_at path k at less =
    let none : k ≡ k - 0 = omega arith in
    slice_split_first is_slash path 0 (omega (arith, at, less)) ∙ (λ i. take (at i) path ∷ parts_of (drop (at i + 1) path)) ∙ ap (λ n. take n path ∷ parts_of (drop (k + 1) path)) none

-- there is always a part
pub some_parts : (path : List ℕ) → 0 < length (parts_of path)
some_parts [] = omega arith
some_parts (byte ∷ path) = by (is_slash byte) (parts_of path)
  where
    by : (b : Bool) (parts : List (List ℕ)) → 0 < length (cond b ([] ∷ parts) (onto_first byte parts))
    by true parts = omega arith
    by false [] = omega arith
    by false (part ∷ parts) = omega arith

-- the parts of a path stand for it
whole : (path : List ℕ) → path_of_parts (parts_of path) ≡ path
whole path = join_with_byte-slice_split slash path

-- what is left behind the last slash that counts
pub whole_object : (version : List (List ℕ)) (plural path : List ℕ) → resource_behind version Object (plural ∷ parts_of path) ≡ cluster_object version plural path
whole_object version plural path = by (parts_of path) (some_parts path) (whole path)
  where
    by : (parts : List (List ℕ)) → 0 < length parts → path_of_parts parts ≡ path → resource_behind version Object (plural ∷ parts) ≡ cluster_object version plural path
    by [] some is = absurd (omega arith)
    by (name ∷ parts) some is = rw is refl

pub whole_collection_in : (version : List (List ℕ)) (word ns path : List ℕ) → resource_behind version CollectionIn (word ∷ ns ∷ parts_of path) ≡ collection_in version ns path
whole_collection_in version word ns path = by (parts_of path) (some_parts path) (whole path)
  where
    by : (parts : List (List ℕ)) → 0 < length parts → path_of_parts parts ≡ path → resource_behind version CollectionIn (word ∷ ns ∷ parts) ≡ collection_in version ns path
    by [] some is = absurd (omega arith)
    by (plural ∷ parts) some is = rw is refl

pub whole_object_in : (version : List (List ℕ)) (word ns plural path : List ℕ) → resource_behind version ObjectIn (word ∷ ns ∷ plural ∷ parts_of path) ≡ object_in version ns plural path
whole_object_in version word ns plural path = by (parts_of path) (some_parts path) (whole path)
  where
    by : (parts : List (List ℕ)) → 0 < length parts → path_of_parts parts ≡ path → resource_behind version ObjectIn (word ∷ ns ∷ plural ∷ parts) ≡ object_in version ns plural path
    by [] some is = absurd (omega arith)
    by (name ∷ parts) some is = rw is refl

pub whole_collection : (version : List (List ℕ)) (path : List ℕ) → resource_behind version Collection (parts_of path) ≡ collection version path
whole_collection version path = ap (collection version) (whole path)
