-- Sums over entries in order, where one goes or is changed.
--     sum-cut         without one
--     sum-changed     with one changed
--     sum-alike       two sums over the same entries
--     sum-both        a sum of two, the second one where a test holds
use Rattle.std.proofs.Common.{◌≡◌, ℕ, ◌+◌, Bool, true, false, cond, not, Option, Some, None, List, [], ◌∷◌, is_some, refl, sym, ap, subst, ◌∙◌, arith, true≢false}
use Rattle.std.specs.Prelude.{sum_by}
use Rattle.std.specs.Option.{option_map_or}
use Rattle.std.specs.Str.{bytes_eq}
use Rattle.std.proofs.lemmas.Bool.{and_parts}
use Rattle.std.proofs.lemmas.List.Sums.{sum_by-cons}
use Rattle.std.proofs.lemmas.Option.{same_Some}
use Rattle.hx_model.proofs.Climbing.{is_same, same_itself}
use Rattle.hx_forest.specs.Named.{with_changed}
use Rattle.hx_forest.proofs.Named.{is_below_all, ascends, none_below}
use Rattle.hx_quota.specs.Counters.{Entry}
use Rattle.hx_quota.specs.Counters.{Entries, entry_of, without_entry}
use Rattle.hx_quota.proofs.Deltas.{unchanged}
use Rattle.hx_quota.proofs.Sums.{Pair}

absent_kept : (n : List ℕ) (es : Entries) → entry_of es n ≡ None → without_entry n es ≡ es
absent_kept n [] none = refl
absent_kept n (y ∷ es) none = at (bytes_eq n y.0) refl none (absent_kept n es)
  where
    at : (b : Bool) → bytes_eq n y.0 ≡ b → cond b (Some y.1) (entry_of es n) ≡ None → (entry_of es n ≡ None → without_entry n es ≡ es) → without_entry n (y ∷ es) ≡ y ∷ es
    at true same h rest = absurd (true≢false (ap is_some h))
    at false out h rest = ap (λ b. cond (not b) (y ∷ without_entry n es) (without_entry n es)) out ∙ ap (λ xs. y ∷ xs) (rest h)

-- what a sum has of an entry that may not be there
abbrev pub of_entry : (Pair → ℕ) → List ℕ → Option Entry → ℕ
of_entry g n o = option_map_or (λ e. g (n, e)) o 0

rest_absent : (n : List ℕ) (y : Pair) (es : Entries) → bytes_eq n y.0 ≡ true → ascends (y ∷ es) ≡ true → entry_of es n ≡ None
rest_absent n y es same up = subst (λ (k : List ℕ). entry_of es k ≡ None) (sym (is_same n y.0 same)) (none_below y.0 es (and_parts (is_below_all y.0 es) (ascends es) up).0)

pub sum-cut : (g : Pair → ℕ) (n : List ℕ) (es : Entries) → ascends es ≡ true → sum_by g (without_entry n es) + of_entry g n (entry_of es n) ≡ sum_by g es
sum-cut g n [] up = refl
sum-cut g n (y ∷ es) up =
    let rest : sum_by g (without_entry n es) + of_entry g n (entry_of es n) ≡ sum_by g es = sum-cut g n es (and_parts (is_below_all y.0 es) (ascends es) up).1 in
    elim (bytes_eq n y.0) as (λ b. bytes_eq n y.0 ≡ b → sum_by g (cond (not b) (y ∷ without_entry n es) (without_entry n es)) + of_entry g n (cond b (Some y.1) (entry_of es n)) ≡ sum_by g (y ∷ es)) [
      | true ↦ λ same.
          let whole : sum_by g (without_entry n es) ≡ sum_by g es = ap (sum_by g) (absent_kept n es (rest_absent n y es same up)) in
          let here : g (n, y.1) ≡ g y = ap (λ (k : List ℕ). g (k, y.1)) (is_same n y.0 same) in
          omega (arith, whole, here, sum_by-cons g y es)
      | false ↦ λ out. omega (arith, rest, sum_by-cons g y (without_entry n es), sum_by-cons g y es)
    ] refl

pub sum-changed : (g : Pair → ℕ) (n : List ℕ) (change : Entry → Entry) (entry : Entry) (es : Entries) → ascends es ≡ true → entry_of es n ≡ Some entry
    → sum_by g (with_changed n change es) + g (n, entry) ≡ sum_by g es + g (n, change entry)
sum-changed g n change entry [] up there = absurd (true≢false (sym (ap is_some there)))
sum-changed g n change entry (y ∷ es) up there =
    elim (bytes_eq n y.0) as (λ b. bytes_eq n y.0 ≡ b → cond b (Some y.1) (entry_of es n) ≡ Some entry → sum_by g ((y.0, cond b (change y.1) y.1) ∷ with_changed n change es) + g (n, entry) ≡ sum_by g (y ∷ es) + g (n, change entry)) [
      | true ↦ λ same h.
          let whole : sum_by g (with_changed n change es) ≡ sum_by g es = ap (sum_by g) (unchanged n change es (rest_absent n y es same up)) in
          let name = is_same n y.0 same in
          let is : y.1 ≡ entry = same_Some y.1 entry h in
          let was : g (n, entry) ≡ g y = λ i. g (name i, sym is i) in
          let now : g (n, change entry) ≡ g (y.0, change y.1) = λ i. g (name i, change (sym is i)) in
          omega (arith, whole, was, now, sum_by-cons g y es, sum_by-cons g (y.0, change y.1) (with_changed n change es))
      | false ↦ λ out h.
          let rest = sum-changed g n change entry es (and_parts (is_below_all y.0 es) (ascends es) up).1 h in
          omega (arith, rest, sum_by-cons g y es, sum_by-cons g (y.0, y.1) (with_changed n change es))
    ] refl there

-- two sums over entries that are there
pub sum-alike : (g h : Pair → ℕ) (es : Entries) → ((e : Pair) → is_some (entry_of es e.0) ≡ true → g e ≡ h e) → sum_by g es ≡ sum_by h es
sum-alike g h [] same = refl
sum-alike g h (y ∷ es) same =
    let here : g y ≡ h y = same y (ap (λ b. is_some (cond b (Some y.1) (entry_of es y.0))) (same_itself y.0)) in
    let rest : sum_by g es ≡ sum_by h es = sum-alike g h es (λ e there. same e (either (bytes_eq e.0 y.0) (entry_of es e.0) there)) in
    omega (arith, here, rest, sum_by-cons g y es, sum_by-cons h y es)
  where
    either : (b : Bool) (o : Option Entry) → is_some o ≡ true → is_some (cond b (Some y.1) o) ≡ true
    either true o there = refl
    either false o there = there

-- a sum of two, the second one where a test holds
pub sum-both : (f g h : Pair → ℕ) (b : Bool) (es : Entries) → ((e : Pair) → f e ≡ g e + cond b (h e) 0) → sum_by f es ≡ sum_by g es + cond b (sum_by h es) 0
sum-both f g h true [] each = refl
sum-both f g h false [] each = refl
sum-both f g h true (y ∷ es) each = omega (arith, each y, sum-both f g h true es each, sum_by-cons f y es, sum_by-cons g y es, sum_by-cons h y es)
sum-both f g h false (y ∷ es) each = omega (arith, each y, sum-both f g h false es each, sum_by-cons f y es, sum_by-cons g y es)
