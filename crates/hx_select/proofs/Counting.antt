-- How many labels have a key that has to be there, against how many keys have to be.
--     each                what lies at a key is found there
--     found-all           where as many are found as are wanted, no wanted key is missing
--     all-found           where none is missing, as many are found
use Rattle.std.proofs.Common.{◌≡◌, ℕ, ◌+◌, ◌≤◌, Bool, true, false, cond, not, ◌&&◌, List, [], ◌∷◌, refl, sym, ap, ◌∙◌, arith, is_some, true≢false}
use Rattle.std.specs.Prelude.{Option, Some, None, ⊤}
use Rattle.std.specs.declared.cmp.Ordering.{Ordering}
use Rattle.std.specs.declared.cmp.Ordering.TheVariants.{Less, Equal, Greater}
use Rattle.std.specs.List.{AllByRecursion}
use Rattle.std.specs.List.Sorted.{IsStrictlySortedBy}
use Rattle.std.specs.Map.{keys_of, lookup, values_of}
use Rattle.std.specs.Ordering.{is_eq, is_lt}
use Rattle.std.specs.Str.{bytes_eq}
use Rattle.std.specs.Cmp.Lexicographic.{nat_list_cmp_total}
use Rattle.std.proofs.lemmas.Bool.{and_parts}
use Rattle.std.proofs.lemmas.Map.{lookup-none}
use Rattle.std.proofs.lemmas.Map.Text.{is_eq-slice_cmp}
use Rattle.std.proofs.lemmas.Slice.Eq.{bytes_eq-Decides}
use Rattle.hx_object.specs.Pairs.{has_ascending_keys, value_of}
use Rattle.hx_object.specs.Texts.{bytes_cmp}
use Rattle.hx_select.specs.declared.demand.Demand.{Demand}
use Rattle.hx_select.specs.Matching.{AreOrdered, found, meets_by, one, wanted, wants}
use Rattle.hx_select.proofs.Members.{itself, turned}

-- ---- keys that stand once

-- no entry has the key
abbrev IsNoKey : {X : Type 0} → List ℕ → List (List ℕ × X) → Type 0
IsNoKey key entries = AllByRecursion (λ entry. bytes_eq key entry.0 ≡ false) entries

-- no key stands twice
abbrev pub AreApart : {X : Type 0} → List (List ℕ × X) → Type 0
AreApart [] = ⊤
AreApart (entry ∷ entries) = IsNoKey entry.0 entries × AreApart entries

less-other : (a b : List ℕ) → bytes_cmp a b ≡ Less → bytes_eq a b ≡ false
less-other a b less = sym (is_eq-slice_cmp a b) ∙ ap is_eq less

no_key-below : {X : Type 0} (key : List ℕ) (entries : List (List ℕ × X)) → AllByRecursion (λ other. bytes_cmp key other ≡ Less) (keys_of entries) → IsNoKey key entries
no_key-below key [] below = tt
no_key-below key (entry ∷ entries) below = (less-other key entry.0 below.0, no_key-below key entries below.1)

apart-sorted : {X : Type 0} (entries : List (List ℕ × X)) → IsStrictlySortedBy bytes_cmp (keys_of entries) → AreApart entries
unfolding IsStrictlySortedBy
apart-sorted [] order = tt
apart-sorted (entry ∷ entries) order = (no_key-below entry.0 entries order.0, apart-sorted entries order.1)

pub apart-demands : (demands : List (List ℕ × Demand)) → AreOrdered demands → AreApart demands
apart-demands demands order = apart-sorted demands order

less_is : (o : Ordering) → is_lt o ≡ true → o ≡ Less
less_is Less e = refl
less_is Equal e = absurd (true≢false (sym e))
less_is Greater e = absurd (true≢false (sym e))

below_all : (a b : List ℕ) (keys : List (List ℕ)) → bytes_cmp a b ≡ Less → AllByRecursion (λ other. bytes_cmp b other ≡ Less) keys → AllByRecursion (λ other. bytes_cmp a other ≡ Less) keys
below_all a b [] less all = tt
below_all a b (key ∷ keys) less all = (nat_list_cmp_total.trans a b key less all.0, below_all a b keys less all.1)

sorted-ascending : (labels : List (List ℕ × List ℕ)) → has_ascending_keys labels ≡ true → IsStrictlySortedBy bytes_cmp (keys_of labels)
unfolding IsStrictlySortedBy
sorted-ascending [] e = tt
sorted-ascending (label ∷ []) e = (tt, tt)
sorted-ascending (label ∷ next ∷ labels) e =
    let parts = and_parts (is_lt (bytes_cmp label.0 next.0)) (has_ascending_keys (next ∷ labels)) e in
    let less = less_is _ parts.0 in
    let rest = sorted-ascending (next ∷ labels) parts.1 in
    ((less, below_all label.0 next.0 (keys_of labels) less rest.0), rest)

pub apart-labels : (labels : List (List ℕ × List ℕ)) → has_ascending_keys labels ≡ true → AreApart labels
apart-labels labels e = apart-sorted labels (sorted-ascending labels e)

pub missing : {X : Type 0} (key : List ℕ) (entries : List (List ℕ × X)) → IsNoKey key entries → lookup (bytes_eq key) entries ≡ None
missing key entries none = lookup-none (bytes_eq key) entries none

-- what is found behind another key
behind : {X : Type 0} (entry : List ℕ × X) (entries others : List (List ℕ × X)) → IsNoKey entry.0 others → AllByRecursion (λ other. lookup (bytes_eq other.0) entries ≡ Some other.1) others
    → AllByRecursion (λ other. lookup (bytes_eq other.0) (entry ∷ entries) ≡ Some other.1) others
behind entry entries [] none all = tt
behind entry entries (other ∷ others) none all =
    (ap (λ same. cond same (Some entry.1) (lookup (bytes_eq other.0) entries)) (turned other.0 entry.0 ∙ none.0) ∙ all.0, behind entry entries others none.1 all.1)

-- what lies at a key is found there
pub each : {X : Type 0} (entries : List (List ℕ × X)) → AreApart entries → AllByRecursion (λ entry. lookup (bytes_eq entry.0) entries ≡ Some entry.1) entries
each [] apart = tt
each (entry ∷ entries) apart =
    (ap (λ same. cond same (Some entry.1) (lookup (bytes_eq entry.0) entries)) (itself entry.0), behind entry entries entries apart.0 (each entries apart.1))

-- ---- counts

-- how many keys have to be there, and are
abbrev common : List (List ℕ × Demand) → List (List ℕ × List ℕ) → ℕ
common [] labels = 0
common (entry ∷ demands) labels = one (entry.1.is_wanted && is_some (value_of labels entry.0)) + common demands labels

one-none : (a : Bool) → one (a && false) ≡ 0
one-none true = refl
one-none false = refl

one-all : (a : Bool) → one (a && true) ≡ one a
one-all true = refl
one-all false = refl

common-none : (demands : List (List ℕ × Demand)) → common demands [] ≡ 0
common-none [] = refl
common-none (entry ∷ demands) = λ i. one-none entry.1.is_wanted i + common-none demands i

none-more : (n : ℕ) → 0 + n ≡ n
none-more n = omega arith

swapped : (a b c : ℕ) → a + (b + c) ≡ b + (a + c)
swapped a b c = omega arith

-- one label more
common-more : (label : List ℕ × List ℕ) (labels : List (List ℕ × List ℕ)) → value_of labels label.0 ≡ None
    → (demands : List (List ℕ × Demand)) → AreApart demands
    → common demands (label ∷ labels) ≡ one (wants (lookup (bytes_eq label.0) demands)) + common demands labels
common-more label labels fresh [] apart = refl
common-more label labels fresh (entry ∷ demands) apart = by (bytes_eq entry.0 label.0) refl (common-more label labels fresh demands apart.1)
  where
    by : (same : Bool) → bytes_eq entry.0 label.0 ≡ same → common demands (label ∷ labels) ≡ one (wants (lookup (bytes_eq label.0) demands)) + common demands labels
        → one (entry.1.is_wanted && is_some (cond same (Some label.1) (value_of labels entry.0))) + common demands (label ∷ labels)
        ≡ one (wants (cond (bytes_eq label.0 entry.0) (Some entry.1) (lookup (bytes_eq label.0) demands))) + (one (entry.1.is_wanted && is_some (value_of labels entry.0)) + common demands labels)
    by true e ih =
        let is : entry.0 ≡ label.0 = (bytes_eq-Decides entry.0 label.0).0 e in
        let here : bytes_eq label.0 entry.0 ≡ true = turned label.0 entry.0 ∙ e in
        let no : lookup (bytes_eq label.0) demands ≡ None = ap (λ key. lookup (bytes_eq key) demands) (sym is) ∙ missing entry.0 demands apart.0 in
        let rest : common demands (label ∷ labels) ≡ common demands labels = ih ∙ ap (λ o. one (wants o) + common demands labels) no ∙ none-more (common demands labels) in
        let other : one (entry.1.is_wanted && is_some (value_of labels entry.0)) ≡ 0 = ap (λ key. one (entry.1.is_wanted && is_some (value_of labels key))) is ∙ ap (λ o. one (entry.1.is_wanted && is_some o)) fresh ∙ one-none entry.1.is_wanted in
        (λ i. one-all entry.1.is_wanted i + rest i)
        ∙ ap (λ n. one entry.1.is_wanted + n) (sym (none-more (common demands labels)))
        ∙ (λ i. one (wants (cond (sym here i) (Some entry.1) (lookup (bytes_eq label.0) demands))) + (sym other i + common demands labels))
    by false e ih =
        let here : bytes_eq label.0 entry.0 ≡ false = turned label.0 entry.0 ∙ e in
        ap (λ n. one (entry.1.is_wanted && is_some (value_of labels entry.0)) + n) ih
        ∙ swapped (one (entry.1.is_wanted && is_some (value_of labels entry.0))) (one (wants (lookup (bytes_eq label.0) demands))) (common demands labels)
        ∙ ap (λ same. one (wants (cond same (Some entry.1) (lookup (bytes_eq label.0) demands))) + (one (entry.1.is_wanted && is_some (value_of labels entry.0)) + common demands labels)) (sym here)

-- as many labels have wanted keys as wanted keys are there
found-common : (demands : List (List ℕ × Demand)) (labels : List (List ℕ × List ℕ)) → AreApart demands → AreApart labels → found demands labels ≡ common demands labels
found-common demands [] apart labels_apart = sym (common-none demands)
found-common demands (label ∷ labels) apart labels_apart =
    ap (λ n. one (wants (lookup (bytes_eq label.0) demands)) + n) (found-common demands labels apart labels_apart.1)
    ∙ sym (common-more label labels (missing label.0 labels labels_apart.0) demands apart)

one-most : (a b : Bool) → one (a && b) ≤ one a
one-most true true = omega arith
one-most true false = omega arith
one-most false b = omega arith

common-most : (demands : List (List ℕ × Demand)) (labels : List (List ℕ × List ℕ)) → common demands labels ≤ wanted (values_of demands)
common-most [] labels = omega arith
common-most (entry ∷ demands) labels = omega (arith, one-most entry.1.is_wanted (is_some (value_of labels entry.0)), common-most demands labels)

unwanted : (a : Bool) → one a ≡ 0 → not a ≡ true
unwanted true e = absurd (omega (arith, e))
unwanted false e = refl

-- where as many are there as are wanted, none that is missing is wanted
none_missing : (demands : List (List ℕ × Demand)) (labels : List (List ℕ × List ℕ)) → common demands labels ≡ wanted (values_of demands)
    → (key : List ℕ) → value_of labels key ≡ None → meets_by (lookup (bytes_eq key) demands) None ≡ true
none_missing [] labels all key none = refl
none_missing (entry ∷ demands) labels all key none =
    by (bytes_eq key entry.0) refl (none_missing demands labels (omega (arith, all, one-most entry.1.is_wanted (is_some (value_of labels entry.0)), common-most demands labels)) key none)
  where
    by : (same : Bool) → bytes_eq key entry.0 ≡ same → meets_by (lookup (bytes_eq key) demands) None ≡ true
        → meets_by (cond same (Some entry.1) (lookup (bytes_eq key) demands)) None ≡ true
    by true e rest =
        let is : key ≡ entry.0 = (bytes_eq-Decides key entry.0).0 e in
        let no : one (entry.1.is_wanted && is_some (value_of labels entry.0)) ≡ 0 =
        ap (λ k. one (entry.1.is_wanted && is_some (value_of labels k))) (sym is) ∙ ap (λ o. one (entry.1.is_wanted && is_some o)) none ∙ one-none entry.1.is_wanted in
        unwanted entry.1.is_wanted (omega (arith, all, no, common-most demands labels))
    by false e rest = rest

is_there : (a : Bool) (o : Option (List ℕ)) → (o ≡ None → not a ≡ true) → one (a && is_some o) ≡ one a
is_there a (Some value) unless = one-all a
is_there true None unless = absurd (true≢false (sym (unless refl)))
is_there false None unless = refl

-- where none that is missing is wanted, as many are there as are wanted
all_there : (demands : List (List ℕ × Demand)) (labels : List (List ℕ × List ℕ)) → AllByRecursion (λ entry. value_of labels entry.0 ≡ None → not entry.1.is_wanted ≡ true) demands
    → common demands labels ≡ wanted (values_of demands)
all_there [] labels none = refl
all_there (entry ∷ demands) labels none = λ i. is_there entry.1.is_wanted (value_of labels entry.0) none.0 i + all_there demands labels none.1 i

-- what is asked of each key is asked by its entry
at_each : (all demands : List (List ℕ × Demand)) (labels : List (List ℕ × List ℕ)) → AllByRecursion (λ entry. lookup (bytes_eq entry.0) all ≡ Some entry.1) demands
    → ((key : List ℕ) → value_of labels key ≡ None → meets_by (lookup (bytes_eq key) all) None ≡ true)
    → AllByRecursion (λ entry. value_of labels entry.0 ≡ None → not entry.1.is_wanted ≡ true) demands
at_each all [] labels there none = tt
at_each all (entry ∷ demands) labels there none =
    (λ is. sym (ap (λ o. meets_by o None) there.0) ∙ none entry.0 is, at_each all demands labels there.1 none)

module _ (demands : List (List ℕ × Demand)) (labels : List (List ℕ × List ℕ)) (order : AreOrdered demands) (ascends : has_ascending_keys labels ≡ true) where
  counted : found demands labels ≡ common demands labels
  counted = found-common demands labels (apart-demands demands order) (apart-labels labels ascends)

  -- where as many are found as are wanted, no wanted key is missing
  pub found-all : found demands labels ≡ wanted (values_of demands) → (key : List ℕ) → value_of labels key ≡ None → meets_by (lookup (bytes_eq key) demands) None ≡ true
  found-all all = none_missing demands labels (sym counted ∙ all)

  -- where none is missing, as many are found
  pub all-found : ((key : List ℕ) → value_of labels key ≡ None → meets_by (lookup (bytes_eq key) demands) None ≡ true) → found demands labels ≡ wanted (values_of demands)
  all-found none = counted ∙ all_there demands labels (at_each demands demands labels (each demands (apart-demands demands order)) none)
