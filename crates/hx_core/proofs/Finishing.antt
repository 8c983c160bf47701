-- What workers' ends do: their entries, and what they leave.
--     ends_empty, ends_nothing     a worker that holds nothing, and one whose key wants nothing
--     ends_tried                   one whose write was made, or wasn't
--     ends_lost                    one that drops its key for want of memory
--     held_is                      a worker's hand is that of its brief
--     done_nothing, done_tried     what is let go needs no turn more, or waits
use Rattle.std.proofs.Common.{◌≡◌, ◌+◌, ◌<◌, ℕ, Bool, true, false, not, [], ◌∷◌, Option, Some, None, IfSome, is_some, refl, sym, ap, ◌∙◌, subst, true≢false}
use Rattle.std.specs.Prelude.{IsSome}
use Rattle.hx_model.specs.Hands.{Hand, hand_of, is_writable, may_finish, may_write, writes_for, versioned}
use Rattle.hx_model.specs.Limits.{greatest_version}
use Rattle.hx_model.specs.Machine.{World, Finished, IsEnd, IsEndOf, broken_at, finished_by, given_back, written_by, writes_by}
use Rattle.hx_model.specs.State.{State, events_of, state_after}
use Rattle.hx_model.specs.declared.key.Finish.{Finish}
use Rattle.hx_model.specs.declared.key.Finish.TheVariants as ending
use Rattle.hx_model.specs.declared.key.Write.{Write}
use Rattle.hx_core.specs.Refinement.{ClusterView, Represents, HasWorld, Simulates}
use Rattle.hx_core.specs.Committing.{HasMarked}
use Rattle.hx_queue.specs.Workers.{WorkersView, IsLetGo}
use Rattle.hx_core.specs.Queued.{HasWritten, IsEnding, IsLet, IsReleased}
use Rattle.hx_core.specs.Working.{IsDone, IsFinish, IsTried, IsWritten, IsLost, is_written}
use Rattle.hx_core.proofs.Making.{Enters, enters_still, makes_still, makes_landed, makes_failed, stands_landed, stands_failed}
use Rattle.hx_core.proofs.Turning.{stands_back, stands_gone}

empties : (c : ClusterView) (worker : ℕ) → HasWorld c → hand_of worker c.workers.hands ≡ None → Simulates c (Finished worker ending.Empty ∷ []) c
empties c worker stood none = enters_still c c (Finished worker ending.Empty) stood refl refl (λ w stands. (subst (λ o. IsEnd w o ending.Empty) (sym (ap (hand_of worker) stands.hands ∙ none)) refl, refl)) (λ w stands. refl)

pub ends_empty : (c : ClusterView) (worker : ℕ) → HasWorld c → hand_of worker c.workers.hands ≡ None → IsFinish worker c ending.Empty c
ends_empty c worker stood none = record { simulates = empties c worker stood none; leaves = refl; empty = none }

-- what a worker that holds a hand does in a world, by what its hand does
enters_end : (old new : ClusterView) (worker : ℕ) (hand : Hand) (end : Finish) → hand_of worker old.workers.hands ≡ Some hand → ((w : World) → Represents old w → IsEndOf w hand end × Represents new (finished_by w (Some hand) worker end)) → Enters old (Finished worker end) new
enters_end old new worker hand end at step w stands =
    let here : hand_of worker w.hands ≡ Some hand = ap (hand_of worker) stands.hands ∙ at in
    let does = step w stands in
    (subst (λ o. IsEnd w o end) (sym here) does.0, subst (λ o. Represents new (finished_by w o worker end)) (sym here) does.1)

-- a hand is let go
is_let : (old new : ClusterView) (worker : ℕ) (hand : Hand) (waits : Bool) → IsReleased worker waits old new → hand_of worker old.workers.hands ≡ Some hand → IsLetGo worker hand.key waits old.workers new.workers
is_let old new worker hand waits released at = subst (λ o. IsLet worker waits o old.workers new.workers) at released.workers

nothing : (old new : ClusterView) (worker : ℕ) (hand : Hand) → HasWorld old → hand_of worker old.workers.hands ≡ Some hand → hand.write ≡ None → IsReleased worker false old new → Simulates old (Finished worker ending.Nothing ∷ []) new
nothing old new worker hand stood at none released =
    makes_still old new (Finished worker ending.Nothing) stood (enters_end old new worker hand ending.Nothing at (λ w stands. (none, stands_gone old new w worker hand stands released.same (is_let old new worker hand false released at)))) refl released.same.keeper (λ w stands. refl)

pub ends_nothing : (old new : ClusterView) (worker : ℕ) (hand : Hand) → HasWorld old → hand_of worker old.workers.hands ≡ Some hand → hand.write ≡ None → IsReleased worker false old new → hand_of worker new.workers.hands ≡ None → IsFinish worker old ending.Nothing new
ends_nothing old new worker hand stood at none released empty = record { simulates = nothing old new worker hand stood at none released; leaves = released; empty = empty }

ends_back : (old new : ClusterView) (worker : ℕ) (hand : Hand) → HasWorld old → hand_of worker old.workers.hands ≡ Some hand → IsReleased worker true old new → Simulates old (Finished worker ending.NoMemory ∷ []) new
ends_back old new worker hand stood at released =
    makes_still old new (Finished worker ending.NoMemory) stood (enters_end old new worker hand ending.NoMemory at (λ w stands. (tt, stands_back old new w worker hand stands released.same (is_let old new worker hand true released at)))) refl released.same.keeper (λ w stands. refl)

-- one that drops it for want of memory
pub ends_lost : (old new : ClusterView) (worker : ℕ) → HasWorld old → IsSome (hand_of worker old.workers.hands) → IsReleased worker true old new → hand_of worker new.workers.hands ≡ None → IsFinish worker old ending.NoMemory new
ends_lost old new worker stood some released empty = record { simulates = by (hand_of worker old.workers.hands) refl some; leaves = released; empty = empty }
  where
    by : (o : Option Hand) → hand_of worker old.workers.hands ≡ o → IsSome o → Simulates old (Finished worker ending.NoMemory ∷ []) new
    by None e none = absurd (true≢false (sym none))
    by (Some hand) e there = ends_back old new worker hand stood e released

-- ---- a hand with a write

module _ (c new : ClusterView) (worker : ℕ) (hand : Hand) (write : Write) (stood : HasWorld c) (at : hand_of worker c.workers.hands ≡ Some hand) (is : hand.write ≡ Some write) where
  -- whether it may be made, in a world of the state
  finishes : (w : World) (b : Bool) → Represents c w → may_write c.state hand write ≡ b → may_finish w.state hand ≡ b
  finishes w b stands may = ap (is_writable w.state hand) is ∙ (ap (λ s. may_write s hand write) stands.state ∙ may)

  made : (w : World) → Represents c w → writes_by w.state (Some hand) ≡ versioned (c.state.last + 1) write ∷ []
  made w stands = ap (writes_for w.state) is ∙ ap (λ s. writes_for s (Some write)) stands.state

  back : (mid : ClusterView) → mid ≡ c → IsReleased worker true mid new → (w : World) → Represents c w → Represents new (given_back w (Some hand) worker)
  back mid same released w stands =
      let here : IsReleased worker true c new = subst (λ m. IsReleased worker true m new) same released in
      stands_back c new w worker hand stands here.same (is_let c new worker hand true here at)

  kept : (mid : ClusterView) → mid ≡ c → IsReleased worker true mid new → new.keeper ≡ c.keeper
  kept mid same released = released.same.keeper ∙ ap (λ (m : ClusterView). m.keeper) same

  ends_conflict : (seen now : ℕ) (mid : ClusterView) → IsTried hand write c (ending.Conflict seen now) mid → IsReleased worker true mid new → Simulates c (Finished worker (ending.Conflict seen now) ∷ []) new
  ends_conflict seen now mid tried released =
      makes_still c new (Finished worker (ending.Conflict seen now)) stood (enters_end c new worker hand (ending.Conflict seen now) at (λ w stands. (
        (ap is_some is, finishes w false stands tried.0, tried.1, tried.2 ∙ ap (λ (s : State). s.last) (sym stands.state)),
        back mid tried.3 released w stands,
      ))) refl (kept mid tried.3 released) (λ w stands. refl)

  ends_spent : (mid : ClusterView) → IsTried hand write c ending.Spent mid → IsReleased worker true mid new → Simulates c (Finished worker ending.Spent ∷ []) new
  ends_spent mid tried released =
      makes_still c new (Finished worker ending.Spent) stood (enters_end c new worker hand ending.Spent at (λ w stands. (
        (finishes w true stands tried.0, ap (λ (s : State). s.last) stands.state ∙ tried.1),
        back mid tried.2 released w stands,
      ))) refl (kept mid tried.2 released) (λ w stands. refl)

  ends_lacking : (mid : ClusterView) → IsTried hand write c ending.NoMemory mid → IsReleased worker true mid new → Simulates c (Finished worker ending.NoMemory ∷ []) new
  ends_lacking mid same released =
      makes_still c new (Finished worker ending.NoMemory) stood (enters_end c new worker hand ending.NoMemory at (λ w stands. (tt, back mid same released w stands))) refl (kept mid same released) (λ w stands. refl)

  ends_written : (version : ℕ) (mid : ClusterView) → IsTried hand write c (ending.Written version) mid → IsReleased worker false mid new → Simulates c (Finished worker (ending.Written version) ∷ []) new
  ends_written version mid tried released =
      let done : IsWritten hand write c version mid = tried.1 in
      let still : hand_of worker mid.workers.hands ≡ Some hand = ap (hand_of worker) done.marked.marked.hands ∙ at in
      makes_landed c new (versioned (c.state.last + 1) write ∷ []) (Finished worker (ending.Written version)) mid.keeper mid.state stood done.landed released.same.keeper refl (enters_end c new worker hand (ending.Written version) at (λ w stands.
      let last : w.state.last ≡ c.state.last = ap (λ (s : State). s.last) stands.state in (
        (finishes w true stands tried.0, stands.broken ∙ done.landed.whole, done.version_is ∙ ap (λ n. n + 1) (sym last), subst (λ n. n < greatest_version) (sym last) done.fits),
        stands_gone mid new (written_by w (writes_by w.state (Some hand))) worker hand (stands_landed c mid (versioned (c.state.last + 1) write ∷ []) w (written_by w (writes_by w.state (Some hand))) done.landed done.marked stands (ap (written_by w) (made w stands))) released.same
            (is_let mid new worker hand false released still),
      ))) (λ w stands. ap (λ o. events_of w.state (writes_by w.state o)) (ap (hand_of worker) stands.hands ∙ at) ∙ ap (events_of w.state) (made w stands))

  ends_fault : (mid : ClusterView) → IsTried hand write c ending.Fault mid → IsReleased worker true mid new → Simulates c (Finished worker ending.Fault ∷ []) new
  ends_fault mid tried released =
      let lost : IsLost write c mid = tried.1 in
      let still : hand_of worker mid.workers.hands ≡ Some hand = ap (λ (v : WorkersView). hand_of worker v.hands) lost.workers ∙ at in
      makes_failed c new (versioned (c.state.last + 1) write ∷ []) (Finished worker ending.Fault) mid.keeper mid.state stood lost.failed released.same.keeper refl (enters_end c new worker hand ending.Fault at (λ w stands.
      let last : w.state.last ≡ c.state.last = ap (λ (s : State). s.last) stands.state in
      let torn : State = state_after w.state (writes_by w.state (Some hand)) in (
        (finishes w true stands tried.0, subst (λ n. n < greatest_version) (sym last) lost.fits),
        stands_back mid new (broken_at w torn) worker hand (stands_failed c mid (versioned (c.state.last + 1) write ∷ []) w (broken_at w torn) lost.failed lost.workers stands (ap (λ ws. broken_at w (state_after w.state ws)) (made w stands))) released.same
            (is_let mid new worker hand true released still),
      ))) (λ w stands. refl)

  enters_tried : (end : Finish) (mid : ClusterView) → IsTried hand write c end mid → IsReleased worker (not (is_written end)) mid new → Simulates c (Finished worker end ∷ []) new
  enters_tried ending.Empty mid never released = absurd never
  enters_tried ending.Nothing mid never released = absurd never
  enters_tried (ending.Conflict seen now) mid tried released = ends_conflict seen now mid tried released
  enters_tried ending.Spent mid tried released = ends_spent mid tried released
  enters_tried (ending.Written version) mid tried released = ends_written version mid tried released
  enters_tried ending.Fault mid tried released = ends_fault mid tried released
  enters_tried ending.NoMemory mid tried released = ends_lacking mid tried released

  -- what it leaves: the keys that its write marked, and its own
  leaves_written : (version : ℕ) (mid : ClusterView) → IsTried hand write c (ending.Written version) mid → IsReleased worker false mid new → HasWritten worker (hand_of worker c.workers.hands) c new
  leaves_written version mid tried released =
      let done : IsWritten hand write c version mid = tried.1 in
      let own : writes_by c.state (hand_of worker c.workers.hands) ≡ versioned (c.state.last + 1) write ∷ [] = ap (writes_by c.state) at ∙ ap (writes_for c.state) is in
      record {
        between = mid.workers;
        marked = subst (λ ws. HasMarked c.state ws c.workers mid.workers) (sym own) done.marked;
        gone = subst (λ hands. IsLet worker false (hand_of worker hands) mid.workers new.workers) done.marked.marked.hands released.workers;
      }

  leaves_fault : (mid : ClusterView) → IsTried hand write c ending.Fault mid → IsReleased worker true mid new → IsLet worker true (hand_of worker c.workers.hands) c.workers new.workers
  leaves_fault mid tried released = subst (λ (v : WorkersView). IsLet worker true (hand_of worker v.hands) v new.workers) tried.1.workers released.workers

  leaves_tried : (end : Finish) (mid : ClusterView) → IsTried hand write c end mid → IsReleased worker (not (is_written end)) mid new → IsEnding worker c end new
  leaves_tried ending.Empty mid never released = absurd never
  leaves_tried ending.Nothing mid never released = absurd never
  leaves_tried (ending.Conflict seen now) mid tried released = subst (λ m. IsReleased worker true m new) tried.3 released
  leaves_tried ending.Spent mid tried released = subst (λ m. IsReleased worker true m new) tried.2 released
  leaves_tried (ending.Written version) mid tried released = leaves_written version mid tried released
  leaves_tried ending.Fault mid tried released = leaves_fault mid tried released
  leaves_tried ending.NoMemory mid same released = subst (λ m. IsReleased worker true m new) same released

  pub ends_tried : (end : Finish) (mid : ClusterView) → IsTried hand write c end mid → IsReleased worker (not (is_written end)) mid new → hand_of worker new.workers.hands ≡ None → IsFinish worker c end new
  ends_tried end mid tried released empty = record { simulates = enters_tried end mid tried released; leaves = leaves_tried end mid tried released; empty = empty }

-- ---- what is let go

-- a worker's hand is that of its brief
pub held_is : (o : Option Hand) (found wanted : Hand) → o ≡ Some found → IfSome o (λ hand. hand ≡ wanted) → o ≡ Some wanted
held_is o found wanted at is = at ∙ ap Some (subst (λ p. IfSome p (λ hand. hand ≡ wanted)) at is)

-- a hand without a write needs no turn more
pub done_nothing : (s : State) (o : Option Hand) (hand : Hand) → o ≡ Some hand → hand.write ≡ None → IfSome o (IsDone s)
done_nothing s o hand at none = subst (λ p. IfSome p (IsDone s)) (sym at) (λ well. sym well.wanted ∙ none)

-- one whose write was made isn't up to date
pub done_tried : (c mid : ClusterView) (worker : ℕ) (hand : Hand) (write : Write) (end : Finish) → hand_of worker c.workers.hands ≡ Some hand → IsTried hand write c end mid → not (is_written end) ≡ false → IfSome (hand_of worker mid.workers.hands) (IsDone mid.state)
done_tried c mid worker hand write ending.Empty at never e = absurd never
done_tried c mid worker hand write ending.Nothing at never e = absurd never
done_tried c mid worker hand write (ending.Conflict seen now) at tried e = absurd (true≢false e)
done_tried c mid worker hand write ending.Spent at tried e = absurd (true≢false e)
done_tried c mid worker hand write (ending.Written version) at tried e =
    let done : IsWritten hand write c version mid = tried.1 in
    let still : hand_of worker mid.workers.hands ≡ Some hand = ap (hand_of worker) done.marked.marked.hands ∙ at in
    subst (λ p. IfSome p (IsDone mid.state)) (sym still) (λ well. absurd (true≢false (sym well.met ∙ done.past)))
done_tried c mid worker hand write ending.Fault at tried e = absurd (true≢false e)
done_tried c mid worker hand write ending.NoMemory at tried e = absurd (true≢false e)
