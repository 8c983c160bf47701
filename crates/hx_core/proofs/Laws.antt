-- What marks and wanted writes keep.
--     stays_covered             no work is forgotten where what is marked waits
--     fresh_satisfies           a wanted write satisfies its key, if that is of no removal
--     wanted_may_be_written     it may be made
use Rattle.std.proofs.Common.{◌≡◌, ◌≢◌, true, List, None, sym, subst, inl, inr}
use Rattle.std.specs.Prelude.{◌⊎◌}
use Rattle.std.specs.List.{AllByRecursion}
use Rattle.std.proofs.lemmas.Bool.{cases_Bool}
use Rattle.hx_model.specs.Covered.{IsCovered, IsSameFor}
use Rattle.hx_model.specs.Hands.{Hand}
use Rattle.hx_model.specs.Keys.{is_among}
use Rattle.hx_model.specs.State.{State, state_after}
use Rattle.hx_model.specs.Wanted.{wanted_write}
use Rattle.hx_model.specs.declared.key.Key.{Key}
use Rattle.hx_model.specs.declared.key.Write.{Write}
use Rattle.hx_marks.specs.Halves.{Covers, IsRegular}
use Rattle.hx_marks.proofs.StayingCovered.{HaveTheirGuards, HasItsGuards, covered_next, taken_guards}
pub use Rattle.hx_marks.proofs.Making.{fresh_satisfies}
pub use Rattle.hx_marks.proofs.Permitting.{wanted_may_be_written}
use Rattle.hx_core.specs.Turns.{IsOf}
use Rattle.hx_queue.specs.Workers.{WorkersView}
use Rattle.hx_core.proofs.Holding.{All-of}

-- a hand that was taken in an earlier state rests on the identities of its key
its_guards : (s : State) (hand : Hand) → IsOf s hand → HasItsGuards hand
its_guards s hand of = subst HasItsGuards (sym of.is) (taken_guards of.then hand.worker hand.key)

their_guards : (s : State) (hands : List Hand) → AllByRecursion (IsOf s) hands → HaveTheirGuards hands
their_guards s hands all hand at = its_guards s hand (All-of (IsOf s) hand.worker hands hand all at)

pub stays_covered : (s : State) (writes : List Write) (marks : List Key) (old new : WorkersView) → Covers s writes marks → IsRegular s writes → AllByRecursion (IsOf s) old.hands → IsCovered s old.hands old.waiting old.again → new.hands ≡ old.hands
    → ((k : Key) → is_among k old.waiting ≡ true → is_among k new.waiting ≡ true) → ((k : Key) → is_among k old.again ≡ true → is_among k new.again ≡ true)
    → ((k : Key) → is_among k marks ≡ true → (is_among k new.waiting ≡ true) ⊎ (is_among k new.again ≡ true) ⊎ (wanted_write (state_after s writes) k ≡ None))
    → IsCovered (state_after s writes) new.hands new.waiting new.again
stays_covered s writes marks old new covers regular taken covered same wait_on mark_on marked =
    subst (λ hands. IsCovered (state_after s writes) hands new.waiting new.again) (sym same) (covered_next s (state_after s writes) old.hands old.waiting old.again new.waiting new.again (their_guards s old.hands taken) wait_on mark_on each covered)
  where
    each : (k : Key) → wanted_write (state_after s writes) k ≢ None → IsSameFor s (state_after s writes) k ⊎ (is_among k new.waiting ≡ true) ⊎ (is_among k new.again ≡ true)
    each k wants = elim (cases_Bool (is_among k marks)) [
      | inr out ↦ inl (covers regular k out)
      | inl among ↦ elim (marked k among) [
        | inl waits ↦ inr (inl waits)
        | inr (inl again) ↦ inr (inr again)
        | inr (inr none) ↦ absurd (wants none)
      ]
    ]
