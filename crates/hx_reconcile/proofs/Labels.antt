-- Labels where one is put in its place, or some are kept.
--     all-with_pair, all-filter       what holds of each still does
--     same-with_pair                  a pair that a filter skips changes nothing of what it keeps
--     counted-own                     the tree's labels don't count
use Rattle.std.proofs.Common.{◌≡◌, ℕ, ◌≤◌, Bool, true, false, cond, not, ◌&&◌, List, [], ◌∷◌, filter, sum_by, refl, sym, ap, ◌∙◌, subst, arith}
use Rattle.std.specs.List.{list_all}
use Rattle.std.specs.declared.cmp.Ordering.TheVariants.{Less, Equal, Greater}
use Rattle.std.specs.FinMap.Entries.{by_order}
use Rattle.std.proofs.lemmas.Bool.{and_parts, and_from}
use Rattle.std.proofs.lemmas.List.Filters.{sum_by-filter_both}
use Rattle.hx_object.specs.Pairs.{with_pair}
use Rattle.hx_object.specs.Sizes.{is_tree_key, is_reconciled_key, is_counted}
use Rattle.hx_object.specs.Texts.{bytes_cmp}
use Rattle.hx_model.specs.TreeLabels.{own_labels}
use Rattle.hx_model.proofs.Storing.{same_bytes}

pub all-with_pair : (test : List ℕ × List ℕ → Bool) (key value : List ℕ) (ps : List (List ℕ × List ℕ)) → test (key, value) ≡ true → list_all test ps ≡ true → list_all test (with_pair key value ps) ≡ true
all-with_pair test key value [] new all = and_from (test (key, value)) true new refl
all-with_pair test key value (p ∷ ps) new all =
    let parts = and_parts (test p) (list_all test ps) all in
    elim (bytes_cmp key p.0) as (λ o. list_all test (by_order o ((key, value) ∷ p ∷ ps) ((key, value) ∷ ps) (p ∷ with_pair key value ps)) ≡ true) [
      | Less ↦ and_from (test (key, value)) (list_all test (p ∷ ps)) new all
      | Equal ↦ and_from (test (key, value)) (list_all test ps) new parts.1
      | Greater ↦ and_from (test p) (list_all test (with_pair key value ps)) parts.0 (all-with_pair test key value ps new parts.1)
    ]

pub all-filter : (test keeps : List ℕ × List ℕ → Bool) (ps : List (List ℕ × List ℕ)) → list_all test ps ≡ true → list_all test (filter keeps ps) ≡ true
all-filter test keeps [] all = refl
all-filter test keeps (p ∷ ps) all =
    let parts = and_parts (test p) (list_all test ps) all in
    elim (keeps p) as (λ b. list_all test (cond b (p ∷ filter keeps ps) (filter keeps ps)) ≡ true) [
      | true ↦ and_from (test p) (list_all test (filter keeps ps)) parts.0 (all-filter test keeps ps parts.1)
      | false ↦ all-filter test keeps ps parts.1
    ]

pub same-with_pair : (keeps : List ℕ × List ℕ → Bool) (key value : List ℕ) (ps : List (List ℕ × List ℕ)) → ((v : List ℕ) → keeps (key, v) ≡ false) → filter keeps (with_pair key value ps) ≡ filter keeps ps
same-with_pair keeps key value [] skips = ap (λ b. cond b ((key, value) ∷ []) []) (skips value)
same-with_pair keeps key value (p ∷ ps) skips =
    elim (bytes_cmp key p.0) as (λ o. bytes_cmp key p.0 ≡ o → filter keeps (by_order o ((key, value) ∷ p ∷ ps) ((key, value) ∷ ps) (p ∷ with_pair key value ps)) ≡ filter keeps (p ∷ ps)) [
      | Less ↦ λ e. ap (λ b. cond b ((key, value) ∷ filter keeps (p ∷ ps)) (filter keeps (p ∷ ps))) (skips value)
      | Equal ↦ λ e.
          ap (λ b. cond b ((key, value) ∷ filter keeps ps) (filter keeps ps)) (skips value)
          ∙ sym (ap (λ b. cond b (p ∷ filter keeps ps) (filter keeps ps)) (subst (λ (k : List ℕ). keeps (k, p.1) ≡ false) (same_bytes key p.0 e) (skips p.1)))
      | Greater ↦ λ e. ap (λ l. cond (keeps p) (p ∷ l) l) (same-with_pair keeps key value ps skips)
    ] refl

-- a label of the tree doesn't count
pub tree_uncounted : (key value : List ℕ) → is_tree_key key ≡ true → is_counted (key, value) ≡ false
unfolding is_counted
tree_uncounted key value e = ap (λ b. not b && not (is_reconciled_key key)) e

pub counted-own : (ps : List (List ℕ × List ℕ)) → filter is_counted (own_labels ps) ≡ filter is_counted ps
counted-own [] = refl
counted-own (p ∷ ps) =
    elim (is_tree_key p.0) as (λ b. is_tree_key p.0 ≡ b → filter is_counted (cond (not b) (p ∷ own_labels ps) (own_labels ps)) ≡ cond (is_counted p) (p ∷ filter is_counted ps) (filter is_counted ps)) [
      | true ↦ λ e. counted-own ps ∙ ap (λ b. cond b (p ∷ filter is_counted ps) (filter is_counted ps)) (sym (tree_uncounted p.0 p.1 e))
      | false ↦ λ e. ap (λ l. cond (is_counted p) (p ∷ l) l) (counted-own ps)
    ] refl

pub sum-filter : (f : List ℕ × List ℕ → ℕ) (keeps : List ℕ × List ℕ → Bool) (ps : List (List ℕ × List ℕ)) → sum_by f (filter keeps ps) ≤ sum_by f ps
sum-filter f keeps ps = omega (arith, sum_by-filter_both keeps (λ p. not (keeps p)) (λ p. refl) f ps)
