-- What is counted over the labels tells whether the selector holds.
--     as-counted      where each label is as asked, it holds exactly if as many wanted keys are found as there are
--     as-unmet        where one isn't, it doesn't
--     tree-selects    the requirements on tree labels say what the tree selector says
use Rattle.std.proofs.Common.{◌≡◌, ℕ, ◌==◌, Bool, true, false, cond, not, ◌&&◌, ◌||◌, List, [], ◌∷◌, ◌++◌, refl, sym, ap, ◌∙◌, true≢false, is_some}
use Rattle.std.specs.Prelude.{Option, Some, None}
use Rattle.std.specs.Bool.{one_answer}
use Rattle.std.specs.List.{AllByRecursion, list_all}
use Rattle.std.specs.Map.{lookup}
use Rattle.std.specs.Str.{bytes_eq}
use Rattle.std.proofs.lemmas.Bool.{and_from, and_parts, false_from_ne_true}
use Rattle.std.proofs.lemmas.Bool.Decides.{Decides-eqb}
use Rattle.std.proofs.lemmas.Slice.Eq.{bytes_eq-Decides}
use Rattle.hx_object.specs.Pairs.{has_ascending_keys, value_of}
use Rattle.hx_select.specs.declared.demand.Demand.{Demand}
use Rattle.hx_select.specs.declared.selector.Requirement.{Requirement}
use Rattle.hx_select.specs.Matching.{IsReady, are_met, asked, asks, found, meets_at, meets_by}
use Rattle.hx_select.specs.Selectors.{holds_for, selects}
use Rattle.hx_select.specs.TreeLabels.{absent_needs, plain_needs}
use Rattle.hx_select.specs.TreeSelects.{in_tree, is_under, is_under_plain}
use Rattle.hx_select.specs.declared.tree_select.TreeSelect.{TreeSelect}
use Rattle.hx_select.proofs.Counting.{all-found, apart-labels, each, found-all}
use Rattle.hx_select.proofs.Members.{itself}

-- all requirements hold
abbrev all_hold : List Requirement → List (List ℕ × List ℕ) → Bool
all_hold needs labels = list_all (λ need. holds_for need.test (value_of labels need.key)) needs

-- ---- by keys

-- all hold where all of each key hold
hold-each : (needs : List Requirement) (labels : List (List ℕ × List ℕ)) → ((key : List ℕ) → asked needs key (value_of labels key) ≡ true) → all_hold needs labels ≡ true
hold-each [] labels all = refl
hold-each (need ∷ needs) labels all =
    let parts = and_parts (asks need need.key (value_of labels need.key)) (asked needs need.key (value_of labels need.key)) (all need.key) in
    let rest = hold-each needs labels (λ key. (and_parts (asks need key (value_of labels key)) (asked needs key (value_of labels key)) (all key)).1) in
    and_from (holds_for need.test (value_of labels need.key)) (all_hold needs labels)
    (sym (ap (λ same. not same || holds_for need.test (value_of labels need.key)) (itself need.key)) ∙ parts.0) rest

-- all of each key hold where all hold
each-holds : (needs : List Requirement) (labels : List (List ℕ × List ℕ)) → all_hold needs labels ≡ true → (key : List ℕ) → asked needs key (value_of labels key) ≡ true
each-holds [] labels all key = refl
each-holds (need ∷ needs) labels all key =
    let parts = and_parts (holds_for need.test (value_of labels need.key)) (all_hold needs labels) all in
    and_from (asks need key (value_of labels key)) (asked needs key (value_of labels key)) (by (bytes_eq need.key key) refl parts.0) (each-holds needs labels parts.1 key)
  where
    by : (same : Bool) → bytes_eq need.key key ≡ same → holds_for need.test (value_of labels need.key) ≡ true → (not same || holds_for need.test (value_of labels key)) ≡ true
    by true e holds = ap (λ k. holds_for need.test (value_of labels k)) (sym ((bytes_eq-Decides need.key key).0 e)) ∙ holds
    by false e holds = refl

-- ---- by labels

none-some : (v : List ℕ) → None ≡ Some v → ⊥
none-some v e = let no : false ≡ true = ap is_some e in absurd (true≢false (sym no))

-- a label that is found is as asked
met-found : (demands : List (List ℕ × Demand)) (labels : List (List ℕ × List ℕ)) → are_met demands labels ≡ true
    → (key v : List ℕ) → value_of labels key ≡ Some v → meets_at demands key (Some v) ≡ true
met-found demands [] met key v is = absurd (none-some v is)
met-found demands (label ∷ labels) met key v is =
    let parts = and_parts (meets_at demands label.0 (Some label.1)) (are_met demands labels) met in
    by (bytes_eq key label.0) refl is parts.0 (λ rest. met-found demands labels parts.1 key v rest)
  where
    by : (same : Bool) → bytes_eq key label.0 ≡ same → cond same (Some label.1) (value_of labels key) ≡ Some v → meets_at demands label.0 (Some label.1) ≡ true
        → (value_of labels key ≡ Some v → meets_at demands key (Some v) ≡ true) → meets_at demands key (Some v) ≡ true
    by true e is first rest = ap (meets_at demands key) (sym is) ∙ ap (λ k. meets_at demands k (Some label.1)) ((bytes_eq-Decides key label.0).0 e) ∙ first
    by false e is first rest = rest is

-- each key is as asked where each label is, and no wanted one is missing
met-keys : (demands : List (List ℕ × Demand)) (labels : List (List ℕ × List ℕ)) → are_met demands labels ≡ true
    → ((key : List ℕ) → value_of labels key ≡ None → meets_at demands key None ≡ true) → (key : List ℕ) → meets_at demands key (value_of labels key) ≡ true
met-keys demands labels met none key = by (value_of labels key) refl
  where
    by : (o : Option (List ℕ)) → value_of labels key ≡ o → meets_at demands key o ≡ true
    by None e = none key e
    by (Some v) e = met-found demands labels met key v e

-- each label is as asked where each key is
met-labels : (demands : List (List ℕ × Demand)) (all labels : List (List ℕ × List ℕ)) → ((key : List ℕ) → meets_at demands key (value_of all key) ≡ true)
    → AllByRecursion (λ label. value_of all label.0 ≡ Some label.1) labels → are_met demands labels ≡ true
met-labels demands all [] met there = refl
met-labels demands all (label ∷ labels) met there =
    and_from (meets_at demands label.0 (Some label.1)) (are_met demands labels) (sym (ap (meets_at demands label.0) there.0) ∙ met label.0) (met-labels demands all labels met there.1)

-- ---- the whole

module _ (needs : List Requirement) (demands : List (List ℕ × Demand)) (count : ℕ) (ready : IsReady needs demands count) (labels : List (List ℕ × List ℕ)) (ascends : has_ascending_keys labels ≡ true) where
  at-keys : all_hold needs labels ≡ true → (key : List ℕ) → meets_at demands key (value_of labels key) ≡ true
  at-keys all key = ready.same key (value_of labels key) ∙ each-holds needs labels all key

  at-none : all_hold needs labels ≡ true → (key : List ℕ) → value_of labels key ≡ None → meets_by (lookup (bytes_eq key) demands) None ≡ true
  at-none all key none = sym (ap (meets_at demands key) none) ∙ at-keys all key

  holds-counted : are_met demands labels ≡ true → found demands labels ≡ count → all_hold needs labels ≡ true
  holds-counted met same =
      hold-each needs labels (λ key. sym (ready.same key (value_of labels key))
      ∙ met-keys demands labels met (found-all demands labels ready.order ascends (same ∙ ready.number)) key)

  counted-holds : all_hold needs labels ≡ true → found demands labels ≡ count
  counted-holds all = all-found demands labels ready.order ascends (at-none all) ∙ sym ready.number

  -- where each label is as asked, it holds exactly if as many wanted keys are found as there are
  pub as-counted : are_met demands labels ≡ true → (n : ℕ) → n ≡ found demands labels → (n == count) ≡ all_hold needs labels
  as-counted met n is =
      ap (λ m. m == count) is
      ∙ one_answer {P = found demands labels ≡ count} _ _ (Decides-eqb (found demands labels) count) (counted-holds, holds-counted met)

  -- where one isn't, it doesn't hold
  pub as-unmet : are_met demands labels ≡ false → false ≡ all_hold needs labels
  as-unmet unmet = sym (false_from_ne_true (all_hold needs labels) (λ all.
      true≢false (sym (met-labels demands labels labels (at-keys all) (each labels (apart-labels labels ascends))) ∙ unmet)))

-- ---- tree selectors

absent-selects : (names : List (List ℕ)) (labels : List (List ℕ × List ℕ)) → all_hold (absent_needs names) labels ≡ list_all (λ name. not (is_under labels name)) names
absent-selects [] labels = refl
absent-selects (name ∷ names) labels = ap (λ b. not (is_under labels name) && b) (absent-selects names labels)

tree-holds : (plain : Option (List ℕ)) (names : List (List ℕ)) (labels : List (List ℕ × List ℕ))
    → all_hold (plain_needs plain ++ absent_needs names) labels ≡ (is_under_plain labels plain && list_all (λ name. not (is_under labels name)) names)
tree-holds None names labels = absent-selects names labels
tree-holds (Some name) names labels = ap (λ b. is_under labels name && b) (absent-selects names labels)

-- the requirements on tree labels say what the tree selector says
pub tree-selects : (select : TreeSelect) (needs : List Requirement) → needs ≡ plain_needs select.plain ++ absent_needs select.not
    → (labels : List (List ℕ × List ℕ)) → selects (record { needs = needs }) labels ≡ in_tree select labels
tree-selects select needs is labels = ap (λ ns. all_hold ns labels) is ∙ tree-holds select.plain select.not labels
