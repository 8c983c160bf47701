-- Places that are put in order, each behind its parent.
--     none_yet       none is placed
--     one_placed     one more is
--     all_placed     all are: from the bottom up it is an order
use Rattle.std.proofs.Common.{◌≡◌, ℕ, zero, suc, ◌<◌, eqb, eqb-true, eq-eqb, Bool, true, false, ◌||◌, List, [], ◌∷◌, ◌++◌, length, reverse, Option, Some, None, refl, sym, ap, ◌∙◌, subst, arith, true≢false}
use Rattle.std.specs.Prelude.{replicate, slice_index_or, slice_set}
use Rattle.std.specs.List.{list_all}
use Rattle.std.proofs.lemmas.List.{get_or-set_same, get_or-set_other, length-set, length-replicate, length-reverse, reverse-append}
use Rattle.hx_survey.specs.Inside.{up_at}
use Rattle.hx_survey.specs.Sums.{IsBottomUp, IsOrder, IsPlacing, is_among, is_led, is_set_above}

unset_at : (n k : ℕ) → slice_index_or (replicate n false) k false ≡ false
unset_at zero k = refl
unset_at (suc n) zero = refl
unset_at (suc n) (suc k) = unset_at n k

-- none is placed
pub none_yet : (ups : List (Option ℕ)) (places : List ℕ) (placed : List Bool) → places ≡ [] → placed ≡ replicate (length ups) false → IsPlacing ups places placed
none_yet ups places placed empty unset =
    subst (λ (ps : List ℕ). IsPlacing ups ps placed) (sym empty)
    (subst (λ (ms : List Bool). IsPlacing ups [] ms) (sym unset)
    (record { order = tt; marks = unset_at (length ups); as_many = length-replicate (length ups) false }))

-- one more is
pub one_placed : (ups : List (Option ℕ)) (places : List ℕ) (placed : List Bool) (p : ℕ) → IsPlacing ups places placed → p < length placed → slice_index_or placed p false ≡ false → is_set_above placed (up_at ups p) ≡ true
    → IsPlacing ups (places ++ p ∷ []) (slice_set placed p true)
one_placed ups places placed p old fits fresh set =
    let turned : reverse (places ++ p ∷ []) ≡ p ∷ reverse places = reverse-append places (p ∷ []) in
    record {
      order = subst (IsBottomUp ups) (sym turned) (sym (old.marks p) ∙ fresh, led (up_at ups p) set, old.order);
      marks = λ k. marked k ∙ sym (ap (is_among k) turned);
      as_many = length-set placed p true ∙ old.as_many;
    }
  where
    led : (o : Option ℕ) → is_set_above placed o ≡ true → is_led o (reverse places) ≡ true
    led None h = refl
    led (Some u) h = sym (old.marks u) ∙ h

    marked : (k : ℕ) → slice_index_or (slice_set placed p true) k false ≡ (eqb p k || is_among k (reverse places))
    marked k = elim (eqb p k) as (λ b. eqb p k ≡ b → slice_index_or (slice_set placed p true) k false ≡ (b || is_among k (reverse places))) [
      | true ↦ λ same. subst (λ (j : ℕ). slice_index_or (slice_set placed p true) j false ≡ true) (eqb-true p k same) (get_or-set_same placed p true false fits)
      | false ↦ λ out. get_or-set_other placed p k true false (λ e. true≢false (sym (eq-eqb p k (sym e)) ∙ out)) ∙ old.marks k
    ] refl

all_at : (marks : List Bool) (k : ℕ) → list_all (λ is. is) marks ≡ true → k < length marks → slice_index_or marks k false ≡ true
all_at [] k all fits = absurd (omega (arith, fits))
all_at (false ∷ marks) k all fits = absurd (true≢false (sym all))
all_at (true ∷ marks) zero all fits = refl
all_at (true ∷ marks) (suc k) all fits = all_at marks k all (omega (arith, fits))

within : (marks : List Bool) (k : ℕ) → slice_index_or marks k false ≡ true → k < length marks
within [] k h = absurd (true≢false (sym h))
within (b ∷ marks) zero h = omega arith
within (b ∷ marks) (suc k) h = omega (arith, within marks k h)

-- all are: from the bottom up it is an order
pub all_placed : (ups : List (Option ℕ)) (places order : List ℕ) (placed : List Bool) → IsPlacing ups places placed → list_all (λ is. is) placed ≡ true → length places ≡ length ups → order ≡ reverse places → IsOrder ups order
all_placed ups places order placed old all many is = subst (IsOrder ups) (sym is) (record {
  order = old.order;
  all = λ k fits. sym (old.marks k) ∙ all_at placed k all (rw old.as_many fits);
  within = λ k among. rw (← old.as_many) (within placed k (old.marks k ∙ among));
  few = omega (arith, length-reverse places, many);
})
