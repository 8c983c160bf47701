-- Sums over entries.
--     sum-with_entry, sum-entries      with an entry more, and of entries in any order
--     sum-without_entry                with an entry less
--     sum-same, part-le                where one is changed in what isn't added up, and of one alone
use Rattle.std.proofs.Common.{◌≡◌, ℕ, ◌+◌, ◌≤◌, Bool, true, false, cond, not, Option, Some, None, List, [], ◌∷◌, Less, Equal, Greater, is_eq, is_some, refl, sym, ap, ◌∙◌, arith, true≢false}
use Rattle.std.specs.Prelude.{sum_by}
use Rattle.std.specs.List.{IsDistinct}
use Rattle.std.specs.Map.{keys_of}
use Rattle.std.specs.Str.{bytes_eq}
use Rattle.std.specs.FinMap.Entries.{by_order}
use Rattle.std.proofs.lemmas.List.Sums.{sum_by-cons}
use Rattle.std.proofs.lemmas.Option.{same_Some}
use Rattle.std.proofs.lemmas.Map.Keys.{IsDistinct-head, IsDistinct-tail}
use Rattle.hx_object.specs.Texts.{bytes_cmp}
use Rattle.hx_forest.specs.Named.{with_changed}
use Rattle.hx_forest.proofs.Named.{same_name-cmp, lookup-values, none_among}
use Rattle.hx_quota.specs.Counters.{Entry}
use Rattle.hx_quota.specs.Counters.{Entries, entry_of, with_entry, without_entry}
use Rattle.hx_quota.specs.Inside.{entries_from}

abbrev pub Pair : Type 0
Pair = List ℕ × Entry

past : (b : Bool) (x : Option Entry) (e : Entry) → b ≡ false → cond b (Some e) x ≡ None → x ≡ None
past true x e is h = absurd (true≢false is)
past false x e is h = h

module _ (g : Pair → ℕ) where
  -- with an entry more
  pub sum-with_entry : (n : List ℕ) (entry : Entry) (es : Entries) → entry_of es n ≡ None → sum_by g (with_entry n entry es) ≡ sum_by g es + g (n, entry)
  sum-with_entry n entry [] none = omega (arith, sum_by-cons g (n, entry) [])
  sum-with_entry n entry (y ∷ es) none =
      elim (bytes_cmp n y.0) as (λ o. bytes_cmp n y.0 ≡ o → sum_by g (by_order o ((n, entry) ∷ y ∷ es) ((y.0, entry) ∷ es) (y ∷ with_entry n entry es)) ≡ sum_by g (y ∷ es) + g (n, entry)) [
        | Less ↦ λ e. omega (arith, sum_by-cons g (n, entry) (y ∷ es))
        | Equal ↦ λ e. absurd (true≢false (ap is_some (sym (ap (λ b. cond b (Some y.1) (entry_of es n)) (same_name-cmp n y.0 ∙ ap is_eq e)) ∙ none)))
        | Greater ↦ λ e.
            let rest = sum-with_entry n entry es (past (bytes_eq n y.0) (entry_of es n) y.1 (same_name-cmp n y.0 ∙ ap is_eq e) none) in
            omega (arith, rest, sum_by-cons g y (with_entry n entry es), sum_by-cons g y es)
      ] refl

  -- with one less there is no more
  pub sum-without_entry : (n : List ℕ) (es : Entries) → sum_by g (without_entry n es) ≤ sum_by g es
  sum-without_entry n [] = omega arith
  sum-without_entry n (y ∷ es) =
      elim (bytes_eq n y.0) as (λ b. sum_by g (cond (not b) (y ∷ without_entry n es) (without_entry n es)) ≤ sum_by g (y ∷ es)) [
        | true ↦ omega (arith, sum-without_entry n es, sum_by-cons g y es)
        | false ↦ omega (arith, sum-without_entry n es, sum_by-cons g y es, sum_by-cons g y (without_entry n es))
      ]

-- where one is changed in what isn't added up
pub sum-same : (g : Entry → ℕ) (n : List ℕ) (change : Entry → Entry) (es : Entries) → ((e : Entry) → g (change e) ≡ g e) → sum_by (λ (e : Pair). g e.1) (with_changed n change es) ≡ sum_by (λ (e : Pair). g e.1) es
sum-same g n change [] same = refl
sum-same g n change (y ∷ es) same =
    let here : g (cond (bytes_eq n y.0) (change y.1) y.1) ≡ g y.1 = either (bytes_eq n y.0) in
    let rest = sum-same g n change es same in
    omega (arith, here, rest, sum_by-cons (λ (e : Pair). g e.1) (y.0, cond (bytes_eq n y.0) (change y.1) y.1) (with_changed n change es), sum_by-cons (λ (e : Pair). g e.1) y es)
  where
    either : (b : Bool) → g (cond b (change y.1) y.1) ≡ g y.1
    either true = same y.1
    either false = refl

-- what one entry has is no more than what all have
pub part-le : (g : Entry → ℕ) (n : List ℕ) (entry : Entry) (es : Entries) → entry_of es n ≡ Some entry → g entry ≤ sum_by (λ (e : Pair). g e.1) es
part-le g n entry [] is = absurd (true≢false (sym (ap is_some is)))
part-le g n entry (y ∷ es) is =
    elim (bytes_eq n y.0) as (λ b. bytes_eq n y.0 ≡ b → cond b (Some y.1) (entry_of es n) ≡ Some entry → g entry ≤ sum_by (λ (e : Pair). g e.1) (y ∷ es)) [
      | true ↦ λ e h. let same : g entry ≡ g y.1 = ap g (sym (same_Some y.1 entry h)) in omega (arith, same, sum_by-cons (λ (e : Pair). g e.1) y es)
      | false ↦ λ e h. let rest = part-le g n entry es h in omega (arith, rest, sum_by-cons (λ (e : Pair). g e.1) y es)
    ] refl is

-- ---- entries in any order

pub sum-entries : (g : Pair → ℕ) (es : List Pair) → IsDistinct bytes_eq (keys_of es) → sum_by g (entries_from es) ≡ sum_by g es
sum-entries g [] distinct = refl
sum-entries g (e ∷ es) distinct =
    let none = none_among e.0 es (IsDistinct-head bytes_eq e.0 (keys_of es) distinct) in
    let more = sum-with_entry g e.0 e.1 (entries_from es) (lookup-values es e.0 ∙ none) in
    let rest = sum-entries g es (IsDistinct-tail bytes_eq e.0 (keys_of es) distinct) in
    omega (arith, more, rest, sum_by-cons g e es)
