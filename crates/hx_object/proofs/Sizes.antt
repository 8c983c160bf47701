-- Sums that are counted up to a cap, and the lengths of texts.
use Rattle.std.proofs.Common.{◌≡◌, ℕ, ◌+◌, List, [], ◌∷◌, ◌++◌, length, fold, sum_by, max, refl, ap, ◌∙◌, arith, codes, length-append, Some, None, true, false}
use Rattle.std.proofs.lemmas.List.Concat.{length-flat_map}
use Rattle.std.proofs.lemmas.List.Sums.{sum_by-cons}
use Rattle.json.specs.Print.{quoted, escape, escape_byte}
use Rattle.serde_json.specs.Written.{compact_text, items_text, members_text}
use Rattle.hx_object.specs.Sizes.{pair_size, counted, config_size, hierarchy_size, quota_size, specified_size, size_of}
use Rattle.hx_object.specs.CappedSizes.{capped, capped_sum, entry_size, limit_size}
use Rattle.hx_object.specs.Json.{entry_data, entries_items, limits_members, mode_text}
use Rattle.hx_object.specs.declared.object.ModeEntry.{ModeEntry}
use Rattle.hx_object.specs.declared.object.Limit.{Limit}
use Rattle.hx_object.specs.declared.object.Mode.{Mode}
use Rattle.hx_object.specs.declared.object.Object.{Object}
use Rattle.hx_object.specs.declared.object.Mode.TheVariants.{Propagate, AllowPropagate, Remove, Ignore}

-- ---- capped sums

capped_fold : {X : Type 0} (size : X → ℕ) (a : ℕ) (xs : List X) → fold (λ sum x. capped (sum + capped (size x))) (capped a) xs ≡ capped (a + sum_by size xs)
capped_fold size a [] = omega arith
capped_fold size a (x ∷ xs) =
    let e : capped (capped a + capped (size x)) ≡ capped (a + size x) = omega arith in
    let rest = capped_fold size (a + size x) xs in
    let f : capped (a + size x + sum_by size xs) ≡ capped (a + sum_by size (x ∷ xs)) = omega (arith, sum_by-cons size x xs) in
    ap (λ b. fold (λ sum y. capped (sum + capped (size y))) b xs) e ∙ rest ∙ f

-- the sum, where each size is capped too
pub capped_sum-is : {X : Type 0} (size : X → ℕ) (xs : List X) → capped_sum (λ x. capped (size x)) xs ≡ capped (sum_by size xs)
capped_sum-is size xs = capped_fold size 0 xs ∙ omega arith

capped_fold_exact : {X : Type 0} (size : X → ℕ) (a : ℕ) (xs : List X) → fold (λ sum x. capped (sum + size x)) (capped a) xs ≡ capped (a + sum_by size xs)
capped_fold_exact size a [] = omega arith
capped_fold_exact size a (x ∷ xs) =
    let e : capped (capped a + size x) ≡ capped (a + size x) = omega arith in
    let rest = capped_fold_exact size (a + size x) xs in
    let f : capped (a + size x + sum_by size xs) ≡ capped (a + sum_by size (x ∷ xs)) = omega (arith, sum_by-cons size x xs) in
    ap (λ b. fold (λ sum y. capped (sum + size y)) b xs) e ∙ rest ∙ f

pub capped_sum-exact : {X : Type 0} (size : X → ℕ) (xs : List X) → capped_sum size xs ≡ capped (sum_by size xs)
capped_sum-exact size xs = capped_fold_exact size 0 xs ∙ omega arith

-- ---- texts

pub length-quoted : (text : List ℕ) → length (quoted text) ≡ 2 + sum_by (λ byte. length (escape_byte byte)) text
length-quoted text = simp length-append (omega (arith, length-flat_map escape_byte text))

pub quoted_size_from : (text : List ℕ) → capped (2 + capped_sum (λ byte. length (escape_byte byte)) text) ≡ capped (length (quoted text))
quoted_size_from text = omega (arith, length-quoted text, capped_sum-exact (λ byte. length (escape_byte byte)) text)

-- ---- entries of a configuration

-- the names of modes have nothing to escape
length-escape_mode : (mode : Mode) → length (escape (mode_text mode)) ≡ length (mode_text mode)
unfolding escape_byte
length-escape_mode Propagate = refl
length-escape_mode AllowPropagate = refl
length-escape_mode Remove = refl
length-escape_mode Ignore = refl

entry_text : (entry : ModeEntry) → compact_text (entry_data entry) ≡
    codes "{\"group\":" ++ (quoted entry.group ++ (codes ",\"mode\":" ++ (quoted (mode_text entry.mode) ++ (codes ",\"resource\":" ++ (quoted entry.resource ++ codes "}")))))
unfolding escape_byte
entry_text entry = refl

length-entry : (entry : ModeEntry) → entry_size entry ≡ length (quoted entry.group) + length (quoted entry.resource) + (33 + length (mode_text entry.mode))
unfolding entry_size
length-entry entry =
    ap (λ text. length text + 1) (entry_text entry) ∙ simp length-append (omega (arith, length-append {A = ℕ}, length-escape_mode entry.mode))

pub entry_size_from : (entry : ModeEntry) → capped (capped (capped (length (quoted entry.group)) + capped (length (quoted entry.resource))) + (33 + length (mode_text entry.mode))) ≡ capped (entry_size entry)
entry_size_from entry = omega (arith, length-entry entry)

entry_size-is : (entry : ModeEntry) → entry_size entry ≡ length (compact_text (entry_data entry)) + 1
unfolding entry_size
entry_size-is entry = refl

limit_size-is : (limit : Limit) → limit_size limit ≡ length (quoted limit.resource) + (length (quoted limit.written) + 2)
unfolding limit_size
limit_size-is limit = refl

pub limit_size_from : (limit : Limit) → capped (capped (capped (length (quoted limit.resource)) + capped (length (quoted limit.written))) + 2) ≡ capped (limit_size limit)
unfolding limit_size
limit_size_from limit = omega arith

-- ---- hierarchies

pub hierarchy_size-none_cascade : capped (hierarchy_size None true) ≡ 40
unfolding hierarchy_size escape_byte
hierarchy_size-none_cascade = refl

pub hierarchy_size-none : capped (hierarchy_size None false) ≡ 11
unfolding hierarchy_size escape_byte
hierarchy_size-none = refl

pub hierarchy_size-some_cascade : (parent : List ℕ) → capped (50 + capped (length (quoted parent))) ≡ capped (hierarchy_size (Some parent) true)
unfolding hierarchy_size escape_byte
hierarchy_size-some_cascade parent = simp length-append (omega (arith, length-append {A = ℕ}))

pub hierarchy_size-some : (parent : List ℕ) → capped (20 + capped (length (quoted parent))) ≡ capped (hierarchy_size (Some parent) false)
unfolding hierarchy_size escape_byte
hierarchy_size-some parent = simp length-append (omega (arith, length-append {A = ℕ}))

pub ruleset hierarchy_sizes = (hierarchy_size-none_cascade, hierarchy_size-none, hierarchy_size-some_cascade, hierarchy_size-some)

-- ---- lists of entries and of limits

length-later : (text rest : List ℕ) → length (44 ∷ (text ++ rest)) ≡ length text + 1 + length rest
length-later text rest = simp length-append (omega arith)

-- behind another item
length-items_later : (entries : List ModeEntry) → length (items_text true (entries_items entries)) ≡ sum_by entry_size entries + 1
length-items_later [] = refl
length-items_later (entry ∷ entries) =
    length-later (compact_text (entry_data entry)) (items_text true (entries_items entries))
    ∙ omega (arith, length-items_later entries, sum_by-cons entry_size entry entries, entry_size-is entry)

length-items : (entries : List ModeEntry) → length (items_text false (entries_items entries)) ≡ max (sum_by entry_size entries) 1
length-items [] = refl
length-items (entry ∷ entries) =
    length-append (compact_text (entry_data entry)) (items_text true (entries_items entries))
    ∙ omega (arith, length-items_later entries, sum_by-cons entry_size entry entries, entry_size-is entry)

pub config_size_from : (entries : List ModeEntry) → capped (24 + max (capped_sum (λ entry. capped (entry_size entry)) entries) 1) ≡ capped (config_size entries)
unfolding config_size escape_byte
config_size_from entries = simp length-append (omega (arith, length-items entries, capped_sum-is entry_size entries))

length-limits_later : (limits : List Limit) → length (members_text true (limits_members limits)) ≡ sum_by limit_size limits + 1
length-limits_later [] = refl
length-limits_later (limit ∷ limits) =
    simp length-append (omega (arith, length-append {A = ℕ}, length-limits_later limits, sum_by-cons limit_size limit limits, limit_size-is limit))

length-limits : (limits : List Limit) → length (members_text false (limits_members limits)) ≡ max (sum_by limit_size limits) 1
length-limits [] = refl
length-limits (limit ∷ limits) =
    simp length-append (omega (arith, length-append {A = ℕ}, length-limits_later limits, sum_by-cons limit_size limit limits, limit_size-is limit))

pub quota_size_from : (hard : List Limit) → capped (19 + max (capped_sum (λ limit. capped (limit_size limit)) hard) 1) ≡ capped (quota_size hard)
unfolding quota_size escape_byte
quota_size_from hard = simp length-append (omega (arith, length-append {A = ℕ}, length-limits hard, capped_sum-is limit_size hard))

-- ---- objects

pub size_from : (x : Object) → capped (capped (capped_sum (λ pair. capped (pair_size pair)) (counted x.labels) + capped_sum (λ pair. capped (pair_size pair)) x.annotations) + capped (specified_size x.payload)) ≡ capped (size_of x)
unfolding size_of
size_from x = omega (arith, capped_sum-is pair_size (counted x.labels), capped_sum-is pair_size x.annotations)
