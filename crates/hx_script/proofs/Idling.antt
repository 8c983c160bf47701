-- A worker that holds nothing holds nothing after what others do.
use Rattle.std.proofs.Common.{◌≡◌, ℕ, suc, zero, ◌<◌, Bool, true, false, List, [], ◌∷◌, ◌++◌, None, Some, refl, sym, ap, ◌∙◌, find, filter, arith}
use Rattle.std.specs.Prelude.{◌==◌, not}
use Rattle.std.specs.declared.option.Option.{Option}
use Rattle.std.proofs.lemmas.Bool.Decides.{nat_tests}
use Rattle.hx_model.specs.declared.ask.Answer.{Answer}
use Rattle.hx_model.specs.declared.ask.Answer.TheVariants.{Refused as Refusing}
use Rattle.hx_model.specs.declared.ask.Ask.{Ask}
use Rattle.hx_model.specs.declared.refusal.Refusal.TheVariants.{StoreFailed, NoMemory as NoRoom}
use Rattle.hx_model.specs.declared.key.Finish.{Finish}
use Rattle.hx_model.specs.declared.key.Finish.TheVariants as ending
use Rattle.hx_model.specs.declared.key.Key.{Key}
use Rattle.hx_model.specs.Hands.{Hand, hand_at, hand_of, without_hand}
use Rattle.hx_model.specs.Machine.{World, Entry, Refused, Request, LostRequest, NoMemory, KeeperFault, Took, Idle, Already, HeldBy, LostTake, Finished, Dropped, Checked, world_after, finished_by, given_back}
use Rattle.hx_model.specs.Requests.{request_entry}
use Rattle.hx_core.specs.Refinement.{ClusterView, Simulates}
use Rattle.hx_core.specs.Turns.{take_entry, take_key_entry}
use Rattle.hx_core.specs.declared.turns.Take.{Take}
use Rattle.hx_core.specs.declared.turns.Take.TheVariants as take
use Rattle.hx_script.specs.Inside.{IsIdle}

-- worker 0 takes nothing by the entry
abbrev pub IsOfOther : Entry → Type 0
IsOfOther (Took worker k named) = 0 < worker
IsOfOther _ = Unit {0}

-- ---- hands

found_none : (test : Hand → Bool) (h : Hand) (hands : List Hand) → find test (h ∷ hands) ≡ None → (test h ≡ false) × (find test hands ≡ None)
found_none test h hands e = found (test h) refl
  where
    found : (b : Bool) → test h ≡ b → (test h ≡ false) × (find test hands ≡ None)
    found true is = absurd (cc (rw is at e))
    found false is = (is, rw is at e)

find_filter : (test kept : Hand → Bool) (hands : List Hand) → find test hands ≡ None → find test (filter kept hands) ≡ None
find_filter test kept [] e = refl
find_filter test kept (h ∷ hands) e =
    let parts = found_none test h hands e in
    let rest = find_filter test kept hands parts.1 in
    either (kept h) refl parts.0 rest
  where
    either : (b : Bool) → kept h ≡ b → test h ≡ false → find test (filter kept hands) ≡ None → find test (filter kept (h ∷ hands)) ≡ None
    either true is other rest = rw (is, other) rest
    either false is other rest = rw is rest

find_append : (test : Hand → Bool) (hands : List Hand) (h : Hand) → find test hands ≡ None → test h ≡ false → find test (hands ++ h ∷ []) ≡ None
find_append test [] h e is = rw is refl
find_append test (other ∷ hands) h e is =
    let parts = found_none test other hands e in
    let rest = find_append test hands h parts.1 is in
    rw parts.0 rest

other_worker : (worker : ℕ) → 0 < worker → (worker == 0) ≡ false
other_worker zero some = absurd (omega (arith, some))
other_worker (suc worker) some = grind (arith, nat_tests)

-- ---- entries

let_go_none : (w : World) (worker : ℕ) → hand_of 0 w.hands ≡ None → hand_of 0 (without_hand worker w.hands) ≡ None
let_go_none w worker e = find_filter (λ h. h.worker == 0) (λ h. not (h.worker == worker)) w.hands e

given_back_none : (w : World) (hand : Option Hand) (worker : ℕ) → hand_of 0 w.hands ≡ None → hand_of 0 (given_back w hand worker).hands ≡ None
given_back_none w None worker e = e
given_back_none w (Some hand) worker e = let_go_none w worker e

finished_none : (w : World) (hand : Option Hand) (worker : ℕ) (end : Finish) → hand_of 0 w.hands ≡ None → hand_of 0 (finished_by w hand worker end).hands ≡ None
finished_none w hand worker ending.Empty e = e
finished_none w hand worker ending.Nothing e = let_go_none w worker e
finished_none w hand worker (ending.Conflict seen now) e = given_back_none w hand worker e
finished_none w hand worker ending.Spent e = given_back_none w hand worker e
finished_none w hand worker (ending.Written version) e = let_go_none w worker e
finished_none w hand worker ending.Fault e = given_back_none w hand worker e
finished_none w hand worker ending.NoMemory e = given_back_none w hand worker e

after_none : (w : World) (e : Entry) → IsOfOther e → hand_of 0 w.hands ≡ None → hand_of 0 (world_after w e).hands ≡ None
after_none w (Refused refusal) other none = none
after_none w (Request ask answer) other none = none
after_none w (LostRequest ask NoMemory) other none = none
after_none w (LostRequest ask KeeperFault) other none = none
after_none w (Took worker k named) other none = find_append (λ h. h.worker == 0) w.hands (hand_at w.state worker k) none (other_worker worker other)
after_none w (Idle worker) other none = none
after_none w (Already worker k) other none = none
after_none w (HeldBy worker k holder) other none = none
after_none w (LostTake worker) other none = none
after_none w (Finished worker end) other none = finished_none w (hand_of worker w.hands) worker end none
after_none w (Dropped worker k) other none = given_back_none w (hand_of worker w.hands) worker none
after_none w (Checked waiting held) other none = none

pub idle_after : (a b : ClusterView) (e : Entry) → Simulates a (e ∷ []) b → IsOfOther e → IsIdle a → IsIdle b
idle_after a b e p other none =
    let w = p.stood.0 in
    let stands = p.stood.1 in
    let left = (p.steps w stands).1 in
    ap (hand_of 0) (sym left.hands) ∙ after_none w e other (ap (hand_of 0) stands.hands ∙ none)

-- ---- calls

pub request_other : (ask : Ask) (answer : Answer) → IsOfOther (request_entry ask answer)
request_other ask (Refusing StoreFailed) = tt
request_other ask (Refusing NoRoom) = tt
request_other ask answer = tt

pub take_other : (worker : ℕ) (t : Take) → 0 < worker → IsOfOther (take_entry worker t)
take_other worker (take.Job brief) some = some
take_other worker take.Idle some = tt
take_other worker (take.Already brief) some = tt
take_other worker (take.Other holder) some = tt
take_other worker take.NoMemory some = tt

pub take_key_other : (worker : ℕ) (k : Key) (t : Take) → 0 < worker → IsOfOther (take_key_entry worker k t)
take_key_other worker k (take.Job brief) some = some
take_key_other worker k take.Idle some = tt
take_key_other worker k (take.Already brief) some = tt
take_key_other worker k (take.Other holder) some = tt
take_key_other worker k take.NoMemory some = tt
