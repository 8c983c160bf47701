-- What serving links leaves, as `top` promises it.
--     of_serving         links were served over a cluster that was started
--     not_run, not_reading       what serves is no run and no report
--     ok_of, err_of, ends_of, calm_ok, rose_of, calm_of, serving_ends       how it ends, and what the door's count then is
--     listening          a door that listens
--     served_in_turn, served_shared, served_as       links were served by a service of the cluster;  over seats of it;  the same by other names
--     alone_as, beside_as    by one session that is alone, and by others, as the words ask
use Rattle.std.proofs.Common.{◌≡◌, ◌⊎◌, ◌∙◌, ℕ, Bool, Option, Ok, Err, None, Some, if◌then◌else◌, ap, inl, inr, refl, subst, sym, true, false, true≢false}
use Rattle.std.specs.Prelude.{IsErr, IsOk, IsSomeAnd, unwrap_or}
use Rattle.hx_ports.specs.Causes.{HasCause, Rose}
use Rattle.std.specs.declared.result.Result.{Result}
use Rattle.hx_ports.specs.Views.{KeeperView}
use Rattle.hx_core.specs.Refinement.{ClusterView}
use Rattle.hx_door.specs.Doors.{DoorView}
use Rattle.hx_door.specs.declared.door.DoorFault.{DoorFault}
use Rattle.hx_serve.specs.Visits.{Serves, visits_entries}
use Rattle.hx_shared.specs.Calls.{StandsAt, entries as called_entries}
use Rattle.hx_shared.specs.Seats.{IsLeftBy, SeatView}
use Rattle.hx_team.specs.Team.{HasStayed, IsServedOut, EndsServing as EndsSharing}
use Rattle.hx_words.specs.Words.{asked_if, is_reading, is_run, is_serving}
use Rattle.hx_words.specs.declared.command.Command.{Command}
use Rattle.hx_words.specs.declared.command.Serving.{Serving}
use Rattle.hx_words.specs.declared.command.Task.{Task}
use Rattle.hx_words.specs.declared.command.Task.TheVariants.{Serve}
use Rattle.hnc.proofs.Leaving.{Starts, carries}
use Rattle.hnc.specs.Headline.{LeavesLinks, LeavesServed, LeavesServedBy, LeavesShared, is_complete}
use Rattle.hnc.specs.declared.top.Status.{Status}
use Rattle.hnc.specs.declared.top.Status.TheVariants as ending
use Rattle.hnc.specs.Serving.{HasServed, HasServedAs, HasServedInTurn, HasServedShared, is_alone}

-- what serves, asked whether it is of another sort
asked_other : (is : Task → Bool) (words : Option Command) (command : Command) (serving : Serving) → words ≡ Some command → command.task ≡ Serve serving → is (Serve serving) ≡ false → asked_if is words ≡ None
asked_other is words command serving asked task other = ap (asked_if is) asked ∙ ap (λ (t : Task). if is t then Some command else None) task ∙ ap (λ b. if b then Some command else None) other

pub not_run : (words : Option Command) (command : Command) (serving : Serving) → words ≡ Some command → command.task ≡ Serve serving → asked_if is_run words ≡ None
not_run words command serving asked task = asked_other is_run words command serving asked task refl

pub not_reading : (words : Option Command) (command : Command) (serving : Serving) → words ≡ Some command → command.task ≡ Serve serving → asked_if is_reading words ≡ None
not_reading words command serving asked task = asked_other is_reading words command serving asked task refl

-- what the words ask for, where it serves
pub serves_of : (words : Option Command) (command : Command) (serving : Serving) → words ≡ Some command → command.task ≡ Serve serving → asked_if is_serving words ≡ Some command
serves_of words command serving asked task = ap (asked_if is_serving) asked ∙ ap (λ (t : Task). if is_serving t then Some command else None) task

-- links that were served one after the other
in_turn : (P : Result ℕ DoorFault → Type 0) (command : Command) (serving : Serving) (door door' : DoorView) (keeper keeper' : KeeperView) (a : ClusterView) → Starts command keeper a
    → (has : HasServedInTurn P serving.links a door door' keeper') → LeavesServed command has.result serving.links door door' keeper keeper'
in_turn P command serving door door' keeper keeper' a starts has = record {
  visits = has.serves.visits;
  each = has.serves.each;
  carries = carries command (visits_entries has.serves.visits) keeper keeper' a has.last starts has.keeper has.serves.simulates;
  between = has.serves.between;
  visited = has.serves.visited;
  few = has.serves.few;
  ends = has.serves.ends;
}

-- links that were served beside one another
beside : (P : Result ℕ DoorFault → Type 0) (command : Command) (serving : Serving) (door door' : DoorView) (keeper keeper' : KeeperView) (a : ClusterView) → Starts command keeper a
    → (has : HasServedShared P serving.links a door door' keeper') → LeavesShared command has.result serving.links door door' keeper keeper'
beside P command serving door door' keeper keeper' a starts has = record {
  calls = has.calls;
  carries = carries command (called_entries has.calls) keeper keeper' a has.last starts has.keeper (λ _. has.stands.simulates);
  orderly = has.stands.orderly;
  handed = has.served;
  ends = has.ends;
}

-- what the task that serves left
leaves_by : (P : Result ℕ DoorFault → Type 0) (command : Command) (serving : Serving) (door door' : DoorView) (keeper keeper' : KeeperView) (a : ClusterView) → Starts command keeper a
    → HasServedAs P serving a door door' keeper' → (result : Result ℕ DoorFault) × P result × LeavesServedBy command (Serve serving) result door door' keeper keeper'
leaves_by P command serving door door' keeper keeper' a starts (inl has) = (has.result, has.is, inl (in_turn P command serving door door' keeper keeper' a starts has))
leaves_by P command serving door door' keeper keeper' a starts (inr (others, has)) = (has.result, has.is, inr (others, beside P command serving door door' keeper keeper' a starts has))

-- links were served over a cluster that was started
pub of_serving : (P : Result ℕ DoorFault → Type 0) (served : Option Command) (command : Command) (serving : Serving) (door door' : DoorView) (keeper keeper' : KeeperView) (a : ClusterView) → served ≡ Some command → command.task ≡ Serve serving → Starts command keeper a
    → HasServedAs P serving a door door' keeper' → IsSomeAnd served (λ c. LeavesLinks c P door door' keeper keeper')
of_serving P served command serving door door' keeper keeper' a is task starts has =
    let Q : Option Command → Type 0 = λ o. IsSomeAnd o (λ c. LeavesLinks c P door door' keeper keeper') in
    let L : Task → Type 0 = λ t. (result : Result ℕ DoorFault) × P result × LeavesServedBy command t result door door' keeper keeper' in
    subst Q (sym is) (subst L (sym task) (leaves_by P command serving door door' keeper keeper' a starts has))

-- ---- how serving ends

-- the status of a door that served
abbrev EndsAs : Result ℕ DoorFault → Status → Type 0
EndsAs end status = (IsOk end × (status ≡ ending.Done)) ⊎ (IsErr end × (status ≡ ending.DoorFault))

pub ok_of : (end : Result ℕ DoorFault) (status : Status) → EndsAs end status → status ≡ ending.Done → IsOk end
ok_of end status (inl p) e = p.0
ok_of end status (inr p) e = let never : ending.Done ≡ ending.DoorFault = sym e ∙ p.1 in absurd cc

pub err_of : (end : Result ℕ DoorFault) (status : Status) → EndsAs end status → status ≡ ending.DoorFault → IsErr end
err_of end status (inl p) e = let never : ending.DoorFault ≡ ending.Done = sym e ∙ p.1 in absurd cc
err_of end status (inr p) e = p.0

pub ends_of : (end : Result ℕ DoorFault) (status told : Status) → EndsAs end status → told ≡ status → (told ≡ ending.Done) ⊎ (told ≡ ending.DoorFault)
ends_of end status told (inl p) e = inl (e ∙ p.1)
ends_of end status told (inr p) e = inr (e ∙ p.1)

-- a door that didn't fail
pub calm_ok : (end : Result ℕ DoorFault) (status : Status) → EndsAs end status → (status ≡ ending.DoorFault → ⊥) → IsOk end
calm_ok end status (inl p) other = p.0
calm_ok end status (inr p) other = absurd (other p.1)

pub rose_of : (before now : ℕ) (end : Result ℕ DoorFault) → HasCause before now end → IsErr end → Rose before now
rose_of before now (Err fault) cause is = cause.failed
rose_of before now (Ok links) cause is = absurd (true≢false (sym is))

pub calm_of : (before now : ℕ) (end : Result ℕ DoorFault) (status : Status) → HasCause before now end → EndsAs end status → (status ≡ ending.DoorFault → ⊥) → now ≡ before
calm_of before now (Ok links) status cause ends other = cause.still
calm_of before now (Err fault) status cause (inl p) other = absurd (true≢false (sym p.0))
calm_of before now (Err fault) status cause (inr p) other = absurd (other p.1)

-- a door that listens shows what it showed before
pub listening : (door mid : DoorView) → mid ≡ record door { faults = mid.faults } → mid.faults ≡ door.faults → mid ≡ door
listening door mid same calm = same ∙ ap (λ n. record door { faults = n }) calm

-- links were served one after the other, by a service of the cluster
pub served_in_turn : (P : Result ℕ DoorFault → Type 0) (links : ℕ) (c a b : ClusterView) (door mid door' : DoorView) (result : Result ℕ DoorFault) (keeper' : KeeperView) → a ≡ c
    → P result → Serves result (Some links) a b door mid → door' ≡ mid → keeper' ≡ b.keeper → HasServedInTurn P links c door door' keeper'
served_in_turn P links c a b door mid door' result keeper' started p serves given keeper = record {
  last = b;
  result = result;
  is = p;
  serves = subst (λ d. Serves result (Some links) c b door d) (sym given) (subst (λ v. Serves result (Some links) v b door mid) started serves);
  keeper = keeper;
}

-- links were served over seats of the cluster
pub served_shared : (P : Result ℕ DoorFault → Type 0) (links : ℕ) (c last : ClusterView) (before after : SeatView) (door mid door' : DoorView) (result : Result ℕ DoorFault) (keeper' : KeeperView) → before.opening ≡ Some c
    → HasStayed before after → IsLeftBy after last → P result → IsServedOut links door result mid → EndsSharing links result mid → door' ≡ mid → keeper' ≡ last.keeper → HasServed P links c door door' keeper'
served_shared P links c last before after door mid door' result keeper' is stayed left p served ends given keeper =
    let opened : left.opening ≡ c = ap (λ o. unwrap_or o left.opening) (sym left.opened ∙ stayed.0.opening ∙ is) in
    inr (record {
      last = last;
      result = result;
      is = p;
      calls = left.log;
      stands = subst (λ o. StandsAt o left.log last) opened left.stands;
      served = subst (IsServedOut links door result) (sym given) served;
      ends = subst (EndsSharing links result) (sym given) ends;
      keeper = keeper;
    })

-- the same of a cluster and a door that are known by other names
pub served_as : (P : Result ℕ DoorFault → Type 0) (links links' : ℕ) (c c' : ClusterView) (door mid door' : DoorView) (keeper' : KeeperView) → links ≡ links' → c ≡ c' → mid ≡ door → HasServed P links c mid door' keeper' → HasServed P links' c' door door' keeper'
served_as P links links' c c' door mid door' keeper' many same stood has =
    subst (λ n. HasServed P n c' door door' keeper') many (subst (λ v. HasServed P links v door door' keeper') same (subst (λ d. HasServed P links c d door' keeper') stood has))

-- one session that is alone served links of a door that listens
pub alone_as : (P : Result ℕ DoorFault → Type 0) (serving : Serving) (c : ClusterView) (door mid door' : DoorView) (keeper' : KeeperView) → mid ≡ door → HasServedInTurn P serving.links c mid door' keeper' → HasServedAs P serving c door door' keeper'
alone_as P serving c door mid door' keeper' stood has = inl (subst (λ d. HasServedInTurn P serving.links c d door' keeper') stood has)

-- others did
pub beside_as : (P : Result ℕ DoorFault → Type 0) (serving : Serving) (links : ℕ) (c : ClusterView) (door mid door' : DoorView) (keeper' : KeeperView) → is_alone serving ≡ false → links ≡ serving.links → mid ≡ door → HasServed P links c mid door' keeper' → HasServedAs P serving c door door' keeper'
beside_as P serving links c door mid door' keeper' others many stood (inl has) = inl (subst (λ n. HasServedInTurn P n c door door' keeper') many (subst (λ d. HasServedInTurn P links c d door' keeper') stood has))
beside_as P serving links c door mid door' keeper' others many stood (inr has) = inr (others, subst (λ n. HasServedShared P n c door door' keeper') many (subst (λ d. HasServedShared P links c d door' keeper') stood has))

-- where the door didn't fail, all was done
pub serving_ends : (status : Status) (P : Type 0) → (status ≡ ending.Done) ⊎ (status ≡ ending.DoorFault) → (status ≡ ending.DoorFault → P) → (P → ⊥) → is_complete status ≡ true
serving_ends status P (inl done) fails calm = ap is_complete done
serving_ends status P (inr failed) fails calm = absurd (calm (fails failed))
