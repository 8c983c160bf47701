-- What is listed by kind and name.
use Rattle.std.proofs.Common.{◌≡◌, ℕ, zero, suc, ◌+◌, ◌-◌, ◌≤◌, ◌==◌, Bool, true, false, cond, ◌&&◌, ◌||◌, not, Option, Some, None, List, [], ◌∷◌, ◌++◌, drop, length, filter, refl, sym, ap, subst, ◌∙◌, add-one, true≢false, eqb-true}
use Rattle.std.specs.Prelude.{is_some, option_and_then, slice_get}
use Rattle.std.specs.Option.{option_map, option_map_or}
use Rattle.std.specs.List.{AllByRecursion, IsDistinct, flat_map}
use Rattle.std.specs.List.Sorted.{IsPermutation, IsSortedByKey}
use Rattle.std.specs.Map.{keys_of, values_of}
use Rattle.std.specs.Str.{bytes_eq}
use Rattle.std.proofs.lemmas.Bool.{and_parts}
use Rattle.std.proofs.lemmas.List.{append-nil, append_assoc}
use Rattle.std.proofs.lemmas.List.Elements.{filter_agree}
use Rattle.std.proofs.lemmas.Map.Entries.{option_filter}
use Rattle.std.proofs.lemmas.Slice.Eq.{bytes_eq-Decides}
use Rattle.std.proofs.Math.ListN.{drop_of_length-le}
use Rattle.hx_object.specs.Kinds.{number_of, is_anchor, can_be_copied}
use Rattle.hx_object.specs.Order.{id_cmp}
use Rattle.hx_object.specs.declared.kind.Kind.{Kind}
use Rattle.hx_object.specs.declared.kind.Kind.TheVariants.{SubnamespaceAnchor}
use Rattle.hx_object.specs.declared.object.Id.{Id}
use Rattle.hx_object.specs.declared.object.Object.{Object}
use Rattle.hx_model.specs.State.{same_id, object_at}
use Rattle.hx_model.specs.Limits.{is_copy}
use Rattle.hx_model.proofs.Objects.{ascends-objects_from, same_kind}
use Rattle.hx_store.specs.ObjectTable.{entries_of, Place, IsSound, found, kind_at, place_in, place_of, place_at, name_map_in, of_place, all_objects, objects_at}
use Rattle.hx_store.specs.Sources.{is_source, is_source_of, is_indexed, is_indexed_of, indexed_in}
use Rattle.hx_store.specs.ByName.{IsIndex, entries_at, indexed_among, indexed_at, turned_places}
use Rattle.hx_store.specs.declared.name_map.NameMap.{NameMap}
use Rattle.hx_store.specs.declared.kind_table.KindTable.{KindTable}
use Rattle.hx_store.specs.declared.object_table.ObjectTable.{ObjectTable}
use Rattle.hx_store.specs.declared.by_name.ByName.{ByName}
use Rattle.hx_store.proofs.Edits.{none_from}
use Rattle.hx_store.proofs.Finding.{and_false, and_true, each, found_at, id_of, level, text_itself}
use Rattle.hx_store.proofs.Apart.{AreApart, flat_apart}
use Rattle.hx_store.proofs.Least.{Entry, place_among}
use Rattle.hx_store.proofs.Listing.{flip_eqb, listed, same_then}

-- an identity is of the kind and the name
abbrev is_named : Kind → List ℕ → Id → Bool
is_named kind name q = (number_of q.kind == number_of kind) && bytes_eq q.name name

none_either : (b : Bool) → None ≡ cond {A = Option Object} b None None
none_either true = refl
none_either false = refl

-- ---- entries whose objects are of one kind and name, each in the namespace that its entry names

module _ (kind : Kind) (name : List ℕ) (es : List Entry) (distinct : IsDistinct bytes_eq (keys_of es)) (own : (m : List ℕ) (x : Object) → found (place_among es m) ≡ Some x → x.id ≡ id_of kind m name) where
  apart_named : (q : Id) (m : List ℕ) (v : Option Object) → place_among es m ≡ Some v → bytes_eq q.ns m ≡ false → object_at (of_place v) q ≡ None
  apart_named q m None e other = refl
  apart_named q m (Some x) e other =
      ap (λ i. cond (same_id q i) (Some x) None) (own m x (ap found e))
      ∙ ap (λ b. cond {A = Option Object} (number_of q.kind == number_of kind && b && bytes_eq q.name name) (Some x) None) other
      ∙ ap (λ b. cond {A = Option Object} (b && bytes_eq q.name name) (Some x) None) (and_false (number_of q.kind == number_of kind))

  found_named : (q : Id) → object_at (flat_map of_place (values_of es)) q ≡ cond (is_named kind name q) (found (place_among es q.ns)) None
  found_named q = level of_place q q.ns es distinct (each (λ m v. bytes_eq q.ns m ≡ false → object_at (of_place v) q ≡ None) es distinct (apart_named q)) ∙ by (place_among es q.ns) refl
    where
      by : (p : Place) → place_among es q.ns ≡ p → option_and_then (λ v. object_at (of_place v) q) p ≡ cond (is_named kind name q) (found p) None
      by None e = none_either (is_named kind name q)
      by (Some None) e = none_either (is_named kind name q)
      by (Some (Some x)) e =
          ap (λ i. cond (same_id q i) (Some x) None) (own q.ns x (ap found e))
          ∙ ap (λ b. cond {A = Option Object} (number_of q.kind == number_of kind && b && bytes_eq q.name name) (Some x) None) (text_itself q.ns)
          ∙ ap (λ b. cond {A = Option Object} (b && bytes_eq q.name name) (Some x) None) (and_true (number_of q.kind == number_of kind))

  named_apart : AreApart (flat_map of_place (values_of es))
  named_apart = flat_apart of_place (λ i. i.ns) es distinct
      (each (λ m v. AreApart (of_place v)) es distinct (λ m v e. one v))
      (each (λ m v. AllByRecursion (λ x. x.id.ns ≡ m) (of_place v)) es distinct lies)
      (λ q. each (λ m v. bytes_eq q.ns m ≡ false → object_at (of_place v) q ≡ None) es distinct (apart_named q))
    where
      one : (v : Option Object) → AreApart (of_place v)
      one None = tt
      one (Some x) = (refl, tt)

      lies : (m : List ℕ) (v : Option Object) → place_among es m ≡ Some v → AllByRecursion (λ x. x.id.ns ≡ m) (of_place v)
      lies m None e = tt
      lies m (Some x) e = (ap (λ (i : Id). i.ns) (own m x (ap found e)), tt)

-- ---- entries, each with what is found at its name in place of what it holds

module _ (at : List ℕ → Option Object) where
  abbrev looked_up : List Entry → List Entry
  looked_up [] = []
  looked_up (e ∷ es) = (e.0, at e.0) ∷ looked_up es

  names_stay : (es : List Entry) → keys_of (looked_up es) ≡ keys_of es
  names_stay [] = refl
  names_stay (e ∷ es) = ap (λ ks. e.0 ∷ ks) (names_stay es)

  objects_looked : (es : List Entry) → flat_map of_place (values_of (looked_up es)) ≡ flat_map (λ e. of_place (at e.0)) es
  objects_looked [] = refl
  objects_looked (e ∷ es) = ap (λ xs. of_place (at e.0) ++ xs) (objects_looked es)

  among : (m : List ℕ) (es : List Entry) → found (place_among (looked_up es) m) ≡ cond (is_some (place_among es m)) (at m) None
  among m [] = refl
  among m (e ∷ es) = by (bytes_eq m e.0) refl (among m es)
    where
      by : (b : Bool) → bytes_eq m e.0 ≡ b → found (place_among (looked_up es) m) ≡ cond (is_some (place_among es m)) (at m) None
          → found (cond b (Some (at e.0)) (place_among (looked_up es) m)) ≡ cond (is_some (cond b (Some e.1) (place_among es m))) (at m) None
      by true same rest = ap at (sym ((bytes_eq-Decides m e.0).0 same))
      by false other rest = rest

-- one entry after another
next_entry : (f : List ℕ → List Object) (es : List Entry) (i : ℕ) → flat_map (λ e. f e.0) (drop i es) ≡ option_map_or f (option_map (λ e. e.0) (slice_get es i)) [] ++ flat_map (λ e. f e.0) (drop (suc i) es)
next_entry f [] zero = refl
next_entry f [] (suc i) = refl
next_entry f (e ∷ es) zero = refl
next_entry f (e ∷ es) (suc i) = next_entry f es i

pub more_listed : (f : List ℕ → List Object) (es : List Entry) (i : ℕ) (name : Option (List ℕ)) (old new all : List Object) → name ≡ option_map (λ e. e.0) (slice_get es i) → new ≡ old ++ option_map_or f name []
    → old ++ flat_map (λ e. f e.0) (drop i es) ≡ all → new ++ flat_map (λ e. f e.0) (drop (i + 1) es) ≡ all
more_listed f es i name old new all is_name is_new before =
    (λ j. is_new j ++ flat_map (λ e. f e.0) (drop (add-one i j) es))
    ∙ append_assoc old (option_map_or f name []) (flat_map (λ e. f e.0) (drop (suc i) es))
    ∙ ap (λ o. old ++ (option_map_or f o [] ++ flat_map (λ e. f e.0) (drop (suc i) es))) is_name
    ∙ ap (λ xs. old ++ xs) (sym (next_entry f es i)) ∙ before

pub all_listed : (f : List ℕ → List Object) (es : List Entry) (i : ℕ) (now all : List Object) → length es ≤ i → now ++ flat_map (λ e. f e.0) (drop i es) ≡ all → now ≡ all
all_listed f es i now all past before = sym (append-nil now) ∙ ap (λ ds. now ++ flat_map (λ e. f e.0) ds) (sym (drop_of_length-le es past)) ∙ before

-- ---- the sources and the anchors of a kind and a name

from_indexed : (o : Option Object) (x : Object) → indexed_in o ≡ Some x → o ≡ Some x
from_indexed None x e = e
from_indexed (Some y) x e = by (is_indexed y) e
  where
    by : (b : Bool) → cond b (Some y) None ≡ Some x → Some y ≡ Some x
    by true h = h
    by false h = absurd (true≢false (ap is_some (sym h)))

both_then : (a b : Bool) (x : Object) → cond a (cond b (Some x) None) None ≡ cond (a && b) (Some x) None
both_then true b x = refl
both_then false b x = refl

no_names : IsDistinct bytes_eq []
unfolding IsDistinct
no_names = tt

module _ (places : ObjectTable) (by_name : ByName) (sound : IsSound places) (index : IsIndex by_name places) (kind : Kind) (name : List ℕ) where
  entries_distinct : (o : Option KindTable) → kind_at (turned_places by_name) kind ≡ o → IsDistinct bytes_eq (keys_of (option_map_or entries_of (option_and_then (λ s. name_map_in s name) o) []))
  entries_distinct None e = no_names
  entries_distinct (Some s) e = by (name_map_in s name) refl
    where
      by : (o : Option NameMap) → name_map_in s name ≡ o → IsDistinct bytes_eq (keys_of (option_map_or entries_of o []))
      by None at = no_names
      by (Some name_map) at = ((index.distinct.1 (number_of kind - 1) s e).1 name name_map at).0.0

  -- the entries are the places of the index
  lies : (o : Option KindTable) (m : List ℕ) → option_and_then (λ s. place_of s name m) o ≡ place_among (option_map_or entries_of (option_and_then (λ s. name_map_in s name) o) []) m
  lies None m = refl
  lies (Some s) m = by (name_map_in s name)
    where
      by : (o : Option NameMap) → option_and_then (λ name_map. place_in name_map m) o ≡ place_among (option_map_or entries_of o []) m
      by None = refl
      by (Some name_map) = refl

  abbrev entries : List Entry
  entries = looked_up (indexed_at places kind name) (entries_at by_name kind name)

  distinct : IsDistinct bytes_eq (keys_of entries)
  distinct = subst (IsDistinct bytes_eq) (sym (names_stay (indexed_at places kind name) (entries_at by_name kind name))) (entries_distinct (kind_at (turned_places by_name) kind) refl)

  -- what is found there is what is found by a look-up
  stands : (m : List ℕ) → found (place_among entries m) ≡ indexed_at places kind name m
  stands m = among (indexed_at places kind name) m (entries_at by_name kind name) ∙ by (is_some (indexed_at places kind name m)) refl
    where
      by : (b : Bool) → is_some (indexed_at places kind name m) ≡ b → cond (is_some (place_among (entries_at by_name kind name) m)) (indexed_at places kind name m) None ≡ indexed_at places kind name m
      by true some = ap (λ b. cond b (indexed_at places kind name m) None) (ap is_some (sym (lies (kind_at (turned_places by_name) kind) m)) ∙ index.all (id_of kind m name) some)
      by false none =
          let is : indexed_at places kind name m ≡ None = none_from (indexed_at places kind name m) none in
          ap (λ o. cond (is_some (place_among (entries_at by_name kind name) m)) o None) is ∙ sym (none_either (is_some (place_among (entries_at by_name kind name) m))) ∙ sym is

  own_entry : (m : List ℕ) (x : Object) → found (place_among entries m) ≡ Some x → x.id ≡ id_of kind m name
  own_entry m x there = sound.own (id_of kind m name) x (from_indexed (found (place_at places (id_of kind m name))) x (sym (stands m) ∙ there))

  is_this : (q : Id) → is_named kind name q ≡ true → id_of kind q.ns name ≡ q
  is_this q t =
      let parts = and_parts (number_of q.kind == number_of kind) (bytes_eq q.name name) t in
      let of_kind : q.kind ≡ kind = same_kind q.kind kind (eqb-true (number_of q.kind) (number_of kind) parts.0) in
      let of_name : q.name ≡ name = (bytes_eq-Decides q.name name).0 parts.1 in
      λ i. record { kind = sym of_kind i; ns = q.ns; name = sym of_name i }

  finds : (q : Id) → object_at (flat_map of_place (values_of entries)) q ≡ cond (is_named kind name q) (indexed_in (found (place_at places q))) None
  finds q =
      found_named kind name entries distinct own_entry q
      ∙ same_then (is_named kind name q) (found (place_among entries q.ns)) (indexed_in (found (place_at places q))) (λ t. stands q.ns ∙ ap (λ (i : Id). indexed_in (found (place_at places i))) (is_this q t))

  -- what the index has of the kind and the name is what a filter keeps
  kept : (q : Id) (o : Option Object) → found (place_at places q) ≡ o → cond (is_named kind name q) (indexed_in o) None ≡ option_filter (is_indexed_of kind name) o
  kept q None e = sym (none_either (is_named kind name q))
  kept q (Some x) e =
      both_then (is_named kind name q) (is_indexed x) x
      ∙ ap (λ b. cond {A = Option Object} (b && is_indexed x) (Some x) None)
      (ap (λ b. b && bytes_eq q.name name) (flip_eqb (number_of q.kind) (number_of kind)) ∙ ap (λ (i : Id). (number_of kind == number_of i.kind) && bytes_eq i.name name) (sym (sound.own q x e)))

  pub indexed_listed : (ys : List Object) → IsPermutation (indexed_among places kind name (entries_at by_name kind name)) ys → IsSortedByKey (λ x. x.id) id_cmp ys → ys ≡ filter (is_indexed_of kind name) (objects_at places)
  indexed_listed ys moved sorted =
      listed (is_indexed_of kind name) (objects_at places) (flat_map of_place (values_of entries)) ys (ascends-objects_from (all_objects places)) (named_apart kind name entries distinct own_entry)
      (subst (λ xs. IsPermutation xs ys) (sym (objects_looked (indexed_at places kind name) (entries_at by_name kind name))) moved) sorted
      (λ q. finds q ∙ kept q (found (place_at places q)) refl ∙ ap (option_filter (is_indexed_of kind name)) (sym (found_at places sound q)))

-- ---- of which sources alone, or anchors alone

-- kinds that can be copied have no anchors
copied_or : (k : Kind) (b : Bool) → can_be_copied k ≡ true → (b || is_anchor k) ≡ b
copied_or SubnamespaceAnchor b e = absurd (true≢false (sym e))
copied_or _ true e = refl
copied_or _ false e = refl

and_at : (b t p r : Bool) → (b ≡ true → p ≡ r) → (b && t && p) ≡ (b && t && r)
and_at true t p r same = ap (λ c. t && c) (same refl)
and_at false t p r same = refl

same_at : (kind k : Kind) → (number_of kind == number_of k) ≡ true → kind ≡ k
same_at kind k e = same_kind kind k (eqb-true (number_of kind) (number_of k) e)

pub sources_alone : (kind : Kind) (name : List ℕ) (objects : List Object) → can_be_copied kind ≡ true → filter (is_indexed_of kind name) objects ≡ filter (is_source_of kind name) objects
sources_alone kind name objects copied = filter_agree (is_indexed_of kind name) (is_source_of kind name)
    (λ x. and_at (number_of kind == number_of x.id.kind) (bytes_eq x.id.name name) (is_indexed x) (is_source x)
    (λ e. copied_or x.id.kind (is_source x) (ap can_be_copied (sym (same_at kind x.id.kind e)) ∙ copied))) objects

-- a kind that can't be copied has no sources
pub no_sources : (kind : Kind) (name : List ℕ) (objects : List Object) → can_be_copied kind ≡ false → [] ≡ filter (is_source_of kind name) objects
no_sources kind name [] uncopied = refl
no_sources kind name (x ∷ xs) uncopied = no_sources kind name xs uncopied ∙ ap (λ b. cond b (x ∷ filter (is_source_of kind name) xs) (filter (is_source_of kind name) xs)) (sym none)
  where
    none : is_source_of kind name x ≡ false
    none =
        and_at (number_of kind == number_of x.id.kind) (bytes_eq x.id.name name) (is_source x) false
        (λ e. ap (λ b. b && not (is_copy x)) (ap can_be_copied (sym (same_at kind x.id.kind e)) ∙ uncopied))
        ∙ and_false (number_of kind == number_of x.id.kind && bytes_eq x.id.name name)

anchor_kind : (k : Kind) → (number_of SubnamespaceAnchor == number_of k) ≡ is_anchor k
anchor_kind SubnamespaceAnchor = refl
anchor_kind _ = refl

or_true : (b : Bool) → (b || true) ≡ true
or_true true = refl
or_true false = refl
