-- The least key that is found is the first that wants a write.
--     same_wanted    what is wanted in a state is what is wanted in that of its rows
--     one_at_most, nothing_exactly    what is found is determined by the state;  nothing is found exactly where nothing is wanted
--     first_found    the least of those that are found is the first, in each state of the rows
--     told_first, told_all    so is what is found by a survey of the rows;  and what the call gives
use Rattle.std.proofs.Common.{◌≡◌, ℕ, true, Option, Some, None, List, refl, sym, ap, ◌∙◌, subst, true≢false}
use Rattle.std.specs.Prelude.{is_some, IfOk, Result, Ok, Err}
use Rattle.std.specs.Ordering.{ordering_reverse}
use Rattle.std.specs.declared.cmp.Ordering.{Ordering}
use Rattle.std.specs.declared.cmp.Ordering.TheVariants.{Less, Equal, Greater}
use Rattle.hx_audit.specs.Auditing.{HasRows, IsFirst, IsNothingExactly, IsOneAtMost}
use Rattle.hx_audit.specs.Candidates.{least_from, state_of, wanting, wanting_in}
use Rattle.hx_order.specs.KeyOrder.{key_cmp}
use Rattle.hx_audit.proofs.Finding.{wanting_found}
use Rattle.hx_audit.proofs.Keeping.{all_wanting}
use Rattle.hx_audit.proofs.Lowest.{first_is}
use Rattle.hx_order.proofs.Ordered.{key_cmp_total, key_cmp-IsAntisymmetric}
use Rattle.hx_model.specs.Forest.{Forest}
use Rattle.hx_model.specs.Quotas.{used}
use Rattle.hx_model.specs.State.{State, Objects}
use Rattle.hx_model.specs.Wanted.{wanted_write}
use Rattle.hx_model.specs.declared.key.Key.{Key}
use Rattle.hx_model.specs.declared.key.Key.TheVariants as key
use Rattle.hx_object.specs.declared.memory.NoMemory.{NoMemory}
use Rattle.hx_survey.specs.Surveyed.{Surveyed, tree_of}

-- what is wanted depends on the objects and on the excluded names alone
same_here : (s : State) (k : Key) → wanted_write (state_of (record { objects = s.objects; excluded = s.config.excluded })) k ≡ wanted_write s k
unfolding used
same_here s (key.Copy n kind name) = refl
same_here s (key.Tree n) = refl
same_here s (key.Report n) = refl
same_here s (key.Child n name) = refl
same_here s (key.Anchor n name) = refl
same_here s (key.Used n name) = refl
same_here s (key.Purge n) = refl

pub same_wanted : (v : Surveyed) (s : State) → HasRows v.objects v.excluded s → (k : Key) → wanted_write (state_of v) k ≡ wanted_write s k
same_wanted v s has k = (λ i. wanted_write (state_of (record { objects = sym has.objects i; excluded = sym has.excludes i })) k) ∙ same_here s k

-- it is the same one in each state where the same is wanted
first_same : (s t : State) → ((k : Key) → wanted_write s k ≡ wanted_write t k) → (found : Option Key) → IsFirst s found → IsFirst t found
first_same s t same None h = λ k. sym (same k) ∙ h k
first_same s t same (Some k) h = (sym (ap is_some (same k)) ∙ h.0, λ other less. sym (same other) ∙ h.1 other less)

pub first_found : (v : Surveyed) (s : State) → HasRows v.objects v.excluded s → IsFirst s (least_from None (wanting v))
first_found v s has = first_same (state_of v) s (same_wanted v s has) (least_from None (wanting v)) (first_is (state_of v) (wanting v) (all_wanting v) (wanting_found v))

-- ---- what is found

apart : (s : State) (k : Key) → is_some (wanted_write s k) ≡ true → wanted_write s k ≡ None → ⊥
apart s k wanting none = true≢false (sym wanting ∙ ap is_some none)

pub one_at_most : IsOneAtMost
one_at_most s None None h g = refl
one_at_most s None (Some k) h g = absurd (apart s k g.0 (h k))
one_at_most s (Some k) None h g = absurd (apart s k h.0 (g k))
one_at_most s (Some a) (Some b) h g = by (key_cmp a b) refl
  where
    by : (o : Ordering) → key_cmp a b ≡ o → Some a ≡ Some b
    by Less is = absurd (apart s a h.0 (g.1 a is))
    by Equal is = ap (λ k. Some k) (key_cmp-IsAntisymmetric a b is)
    by Greater is = absurd (apart s b g.0 (h.1 b (key_cmp_total.antisymm b a ∙ ap ordering_reverse is)))

pub nothing_exactly : IsNothingExactly
nothing_exactly s None h = (λ _. h, λ _. refl)
nothing_exactly s (Some k) h = (λ none. absurd (true≢false (ap is_some none)), λ none. absurd (apart s k h.0 (none k)))

-- ---- the call

-- where what is found is the least by a survey of these rows
pub told_first : (v : Surveyed) (rows : Objects) (excluded : List (List ℕ)) (found : Option Key) → v ≡ record { objects = rows; excluded = excluded } → found ≡ least_from None (wanting v)
    → (s : State) → HasRows rows excluded s → IsFirst s found
told_first v rows excluded found is least s has =
    let same : found ≡ least_from None (wanting (record { objects = rows; excluded = excluded })) = least ∙ ap (λ (w : Surveyed). least_from None (wanting w)) is in
    subst (λ (o : Option Key). IsFirst s o) (sym same) (first_found (record { objects = rows; excluded = excluded }) s has)

-- so it is with what the call gives
pub told_all : (v : Surveyed) (rows : Objects) (excluded : List (List ℕ)) (nodes : Forest) (result : Result (Option Key) NoMemory) → v ≡ record { objects = rows; excluded = excluded } → nodes ≡ tree_of v → IfOk result (λ found. found ≡ least_from None (wanting_in v nodes))
    → IfOk result (λ found. (s : State) → HasRows rows excluded s → IsFirst s found)
told_all v rows excluded nodes (Ok found) is are least = told_first v rows excluded found is (least ∙ ap (λ (f : Forest). least_from None (wanting_in v f)) are)
told_all v rows excluded nodes (Err error) is are least = tt
