-- What the top call promises.
--     EndsQuiet                  a history ends with a check that no key waits or is held
--     HoldsBetween s t           limits hold from one state to another
--     Runs opening entries last  a history of the machine leads from one world to another
--     Carries                    entries are one history of the machine, the keeper holds what it leaves, and its watchers were told what it tells
--     Leaves                     what a run of a script leaves: such a history of its lines, and what it writes
--     LeavesWhole, LeavesFront   the same of a run to the script's end;  of one that was cut short
--     LeavesRead                 of one whose source failed: each line that ended before has its answer
--     LeavesServed               what serving links one after the other leaves: such a history of their messages and of the settles behind them
--     LeavesShared               what serving them beside one another leaves: such a history of the calls of all sessions and workers
--     LeavesMade                 what making a cluster of a given size leaves: such a history of its asks and of the settle behind them, and what it writes
--     LeavesMadeInPart           the same where no memory was left on the way
--     OfRun words source P       there is a script with P, for the run that the words ask for: the one that the source tells, where it tells
--     IsCarriedOut, IsCutShort   a run reached its script's end, a report was printed, links were served, or a cluster was made;  the first part of what is written was
--     is_cut_short, has_not_begun      what a status says of a command
--     IsUnbegun                  nothing was begun
--     IsLeftByDoor               what a command leaves whose door failed
--     code_of_status             the number of a status
use Rattle.std.specs.Prelude.{◌≡◌, ◌≤◌, ◌⊎◌, ℕ, Bool, true, false, List, [], ◌∷◌, ◌++◌, IfSome, IsSome, IsOk, IsErr, IsSomeAnd, None, Some, length}
use Rattle.std.specs.declared.option.Option.{Option}
use Rattle.std.specs.declared.result.Result.{Result}
use Rattle.std.specs.List.{AllByRecursion}
use Rattle.std.specs.Io.KnownBytes.{Appends, Consumes}
use Rattle.hx_ports.specs.Causes.{Rose}
use Rattle.hx_ports.specs.Pieces.{OfBytes, most_stream_bytes}
use Rattle.hx_ports.specs.Views.{KeeperView, SinkView, SourceView}
use Rattle.hx_watch.specs.Watching.{HaveFollowed}
use Rattle.hx_words.specs.declared.command.Command.{Command}
use Rattle.hx_words.specs.declared.command.Task.{Task}
use Rattle.hx_words.specs.declared.command.Task.TheVariants.{Generate, Serve}
use Rattle.hx_model.specs.State.{State}
use Rattle.hx_model.specs.Overruns.{IsHeldBetween, KeepsLimits}
use Rattle.hx_model.specs.Machine.{World, History, Checked, opening_world, IsHistory, replay, loses_to_fault}
use Rattle.hx_model.specs.Settled.{IsSettled}
use Rattle.hx_model.specs.declared.ask.Ask.{Ask}
use Rattle.hx_model.specs.declared.resource.Resource.{Resource}
use Rattle.hx_model.specs.Excess.{BeginsOnlyThere, HoldsOn}
use Rattle.hx_model.specs.Happening.{events_in}
use Rattle.hx_model.specs.Known.{SpeaksOfKeys, none_known}
use Rattle.hx_core.specs.Refinement.{AllValid, IsKeptOf, kept_of}
use Rattle.hx_core.specs.Starting.{IsUndamaged}
use Rattle.hx_core.specs.declared.turns.Settle.{Settle}
use Rattle.hx_core.specs.declared.turns.Settle.TheVariants as settled
use Rattle.hx_core.specs.declared.turns.Turned.{Turned}
use Rattle.hx_gen.specs.Asked.{asks_of}
use Rattle.hnc.specs.declared.top.Status.{Status}
use Rattle.hnc.specs.declared.top.Status.TheVariants.{Done, Usage, ReadFault, WriteFault, KeeperFault, Damaged, NoMemory, DoorFault, Unsettled, TooLong, NotFound}
use Rattle.hnc.specs.Generating.{HasAnswer, HasEnded, Made, asks_in, entries_in, settled_entries, told_of}
use Rattle.hnc.specs.Reports.{PrintsWhole, PrintsFront}
use Rattle.hnc.specs.Serving.{is_alone}
use Rattle.hx_door.specs.Doors.{DoorView}
use Rattle.hx_door.specs.declared.door.DoorFault.{DoorFault as Fault}
use Rattle.hx_serve.specs.Visits.{Visit, IsVisit, HaveVisited, EndsServing, visits_entries}
use Rattle.hx_shared.specs.Calls.{Log, IsOrderly, entries as called_entries}
use Rattle.hx_team.specs.Team.{IsServedOut, EndsServing as EndsSharing}
use Rattle.hx_script.specs.Lines.{Line, script_lines, unended}
use Rattle.hx_script.specs.Running.{LacksLast}
use Rattle.hx_script.specs.Exchanges.{Exchange, IsExchange, lines_of, entries_of, answer_lines}

-- no key waits or is held, as the last entry says: `check: quiet`, or `settle: settled`
abbrev pub EndsQuiet : History → Type 0
EndsQuiet [] = ⊥
EndsQuiet (e ∷ []) = e ≡ Checked 0 0
EndsQuiet (e ∷ next ∷ entries) = EndsQuiet (next ∷ entries)

-- Limits hold from one state to another: those of a subtree that uses more and took no object in, and those that held where no excess may begin
pub record HoldsBetween (s t : State) : Type 0 where
  pub rises : (a : List ℕ) (r : Resource) → IsHeldBetween s t a r
  pub begins : HoldsOn s t

-- A history of the machine leads from a valid world to another one.
-- Each state on the way is valid, and so is the one that the store may hold after a fault. Where it ends quiet, its last state is settled: each namespace that takes part holds exactly the copies and the tree labels that its place prescribes.
-- At each entry where a subtree comes to use more of what quotas limit, and takes in no object, the limits of its quotas hold afterwards: what is admitted passes none. An excess begins only where a quota of it limits more, or a namespace comes below it. That holds of the state after a fault, too.
-- Each key that a worker takes by itself, and each that is counted as waiting, is a key of a state on the way, or was named by a take.
pub record Runs (opening : World) (entries : History) (last : World) : Type 0 where
  pub history : IsHistory opening entries
  pub leads : replay opening entries ≡ last
  pub valid : AllValid opening entries
  pub settled : EndsQuiet entries → IsSettled last.state
  pub limits : KeepsLimits opening entries
  pub excess : BeginsOnlyThere opening entries
  pub torn : IfSome last.torn (HoldsBetween last.state)
  pub known : SpeaksOfKeys none_known opening entries

-- There is a first state, which is under the configuration of the words: the one whose rows the keeper had, where it told them. These entries are a history of the machine from it.
-- What the keeper holds is what the history leaves, and it is broken where the history says so; its count rose where a loss to a fault stands in the history, and stayed where none does.
-- The keeper was undamaged. It is at the path of the words now, and it tells what it holds if it told before.
-- Its watchers followed the events of the history: one that tells its events got exactly these behind what it had, in order, each once; one that was set aside got a prefix of them, and refused the next; one that was set aside before got none.
pub record Carries (run : Command) (entries : History) (keeper keeper' : KeeperView) : Type 0 where
  pub first : State
  pub last : World
  pub undamaged : IfSome keeper.kept IsUndamaged
  pub configured : first.config ≡ run.config
  pub opens : IfSome keeper.kept (λ held. held ≡ kept_of first)
  pub runs : Runs (opening_world keeper.broken first) entries last
  pub place : keeper'.place ≡ Some run.db
  pub tells : IfSome keeper.kept (λ _. IsSome keeper'.kept)
  pub stored : IfSome keeper'.kept (IsKeptOf last)
  pub breaks : last.broken ≡ keeper'.broken
  pub lost : loses_to_fault entries ≡ true → Rose keeper.faults keeper'.faults
  pub still : loses_to_fault entries ≡ false → keeper'.faults ≡ keeper.faults
  pub told : HaveFollowed (events_in (opening_world keeper.broken first) entries) keeper.watchers keeper'.watchers

-- There is one history of the machine. Its entries are those of the script's lines in order, each once, up to the rest. What is written are their answers, but for what is lacking of the last one.
pub record Leaves (run : Command) (script : List ℕ) (rest : List Line) (lacking : List ℕ) (sink sink' : SinkView) (keeper keeper' : KeeperView) : Type 0 where
  pub exchanges : List Exchange
  pub text : List ℕ
  pub each : AllByRecursion IsExchange exchanges
  pub lines : script_lines script ≡ lines_of exchanges ++ rest
  pub carries : Carries run (entries_of exchanges) keeper keeper'
  pub says : answer_lines exchanges ≡ text ++ lacking
  pub lacks : LacksLast exchanges lacking
  pub wrote : Appends sink.written sink'.written text

-- the run reached the end of the script: each line has its whole answer
pub record LeavesWhole (run : Command) (script : List ℕ) (sink sink' : SinkView) (keeper keeper' : KeeperView) : Type 0 where
  pub few : length script ≤ most_stream_bytes
  pub leaves : Leaves run script [] [] sink sink' keeper keeper'

-- the run was cut short: some last lines have no answer, and the last answer may lack its end
pub record LeavesFront (run : Command) (script : List ℕ) (sink sink' : SinkView) (keeper keeper' : KeeperView) : Type 0 where
  pub rest : List Line
  pub lacking : List ℕ
  pub leaves : Leaves run script rest lacking sink sink' keeper keeper'

-- a read failed behind some bytes of the script. Whatever follows them, each line that ends in them has its whole answer, and those from the one that hasn't ended on are left
pub record LeavesRead (run : Command) (source source' : SourceView) (sink sink' : SinkView) (keeper keeper' : KeeperView) : Type 0 where
  pub bytes : List ℕ
  pub read : Consumes source.left source'.left bytes
  pub leaves : (more : List ℕ) → Leaves run (bytes ++ more) (script_lines (unended bytes ++ more)) [] sink sink' keeper keeper'

-- Links were served one after the other, and the cluster settled behind each. There is one history of the machine: its entries are those of the links' messages in order, each with those of the settle behind it.
-- What each link was answered is said by its visit, and the door handed out these links and no others. It ended after so many as asked, or where no more came; or where the door failed.
pub record LeavesServed (served : Command) (result : Result ℕ Fault) (links : ℕ) (door door' : DoorView) (keeper keeper' : KeeperView) : Type 0 where
  pub visits : List Visit
  pub each : AllByRecursion IsVisit visits
  pub carries : Carries served (visits_entries visits) keeper keeper'
  pub between : DoorView
  pub visited : HaveVisited door visits between
  pub few : length visits ≤ links
  pub ends : EndsServing result (Some links) visits between door'

-- Links were served beside one another, by sessions and workers that shared the cluster. There is one history of the machine: its entries are the calls of all of them, each with its answer, in one order. A key that a worker took was finished or dropped by who took it.
-- The door was asked until no link more came: it handed out as many as asked, or it is closed; or it failed.
pub record LeavesShared (served : Command) (result : Result ℕ Fault) (links : ℕ) (door door' : DoorView) (keeper keeper' : KeeperView) : Type 0 where
  pub calls : Log
  pub carries : Carries served (called_entries calls) keeper keeper'
  pub orderly : IsOrderly [] calls
  pub handed : IsServedOut links door result door'
  pub ends : EndsSharing links result door'

-- so it was with a task that serves: links were served beside one another or, by one session that is alone and where no memory was left for what is shared, one after the other
abbrev pub LeavesServedBy : Command → Task → Result ℕ Fault → DoorView → DoorView → KeeperView → KeeperView → Type 0
LeavesServedBy served (Serve serving) result door door' keeper keeper' = LeavesServed served result serving.links door door' keeper keeper' ⊎ ((is_alone serving ≡ false) × LeavesShared served result serving.links door door' keeper keeper')
LeavesServedBy served _ result door door' keeper keeper' = ⊥

-- links were served to the end of the task, or where the door failed
abbrev pub LeavesLinks : Command → (Result ℕ Fault → Type 0) → DoorView → DoorView → KeeperView → KeeperView → Type 0
LeavesLinks served P door door' keeper keeper' = (result : Result ℕ Fault) × P result × LeavesServedBy served served.task result door door' keeper keeper'

-- A cluster was made and settled. There is one history of the machine: its entries are the asks, each with its answer, and the turns of a settle behind them, and none was lost for want of memory. What is written is what the state that it leaves counts, and how settling ended, but for what is lacking.
-- Where no version had been given out before, settling ended with all settled, or by a fault of the keeper, whose count rose.
pub record LeavesMade (command : Command) (asks : List Ask) (lacking : List ℕ) (sink sink' : SinkView) (keeper keeper' : KeeperView) : Type 0 where
  pub made : Made
  pub turns : List Turned
  pub end : Settle
  pub is : asks_in made ≡ asks
  pub answered : AllByRecursion HasAnswer made
  pub ended : AllByRecursion HasEnded turns
  pub carries : Carries command (entries_in made ++ settled_entries turns end) keeper keeper'
  pub text : List ℕ
  pub tells : told_of carries.last.state end ≡ text ++ lacking
  pub wrote : Appends sink.written sink'.written text
  pub sure : carries.first.last ≡ 0 → (end ≡ settled.Settled) ⊎ ((end ≡ settled.Fault) × Rose keeper.faults keeper'.faults)

-- no memory was left on the way: the first of the asks were made, the settle behind them was begun where all of them were, and nothing was written
pub record LeavesMadeInPart (command : Command) (asks : List Ask) (sink sink' : SinkView) (keeper keeper' : KeeperView) : Type 0 where
  pub made : Made
  pub rest : List Ask
  pub settling : History
  pub is : asks ≡ asks_in made ++ rest
  pub are : (settling ≡ []) ⊎ ((rest ≡ []) × ((turns : List Turned) × (end : Settle) × (settling ≡ settled_entries turns end)))
  pub carries : Carries command (entries_in made ++ settling) keeper keeper'
  pub unwritten : sink' ≡ sink

-- so it was with a task that makes a cluster, by the asks of its two numbers
abbrev pub OfAsks : Task → (List Ask → Type 0) → Type 0
OfAsks (Generate workload) P = P (asks_of workload.number workload.count)
OfAsks _ P = ⊥

abbrev pub OfMaking : Option Command → (Command → List Ask → Type 0) → Type 0
OfMaking making P = IsSomeAnd making (λ command. OfAsks command.task (P command))

-- the words ask for a run, and there is a script with this property. Where the source tells its bytes, it is these.
abbrev pub OfRun : Option Command → SourceView → (Command → List ℕ → Type 0) → Type 0
OfRun words source P = IsSomeAnd words (λ run. OfBytes source.left (P run))

-- the words ask for a run that reached the end of its script, or for a report that was printed, or for links that were served, or for a cluster that was made
abbrev pub IsCarriedOut : Option Command → Option Command → Option Command → Option Command → Status → SourceView → SinkView → SinkView → KeeperView → KeeperView → DoorView → DoorView → Type 0
IsCarriedOut run reading serving making status source sink sink' keeper keeper' door door' =
    OfRun run source (λ command script. LeavesWhole command script sink sink' keeper keeper') ⊎ IsSomeAnd reading (λ command. PrintsWhole command status sink sink' keeper keeper')
    ⊎ IsSomeAnd serving (λ command. LeavesLinks command IsOk door door' keeper keeper') ⊎ OfMaking making (λ command asks. LeavesMade command asks [] sink sink' keeper keeper')

-- the words ask for a run, for a report, or for a cluster that is made, of which the first part was written
abbrev pub IsCutShort : Option Command → Option Command → Option Command → SourceView → SinkView → SinkView → KeeperView → KeeperView → Type 0
IsCutShort run reading making source sink sink' keeper keeper' =
    OfRun run source (λ command script. LeavesFront command script sink sink' keeper keeper') ⊎ IsSomeAnd reading (λ command. PrintsFront command sink sink' keeper keeper')
    ⊎ OfMaking making (λ command asks. (lacking : List ℕ) × LeavesMade command asks lacking sink sink' keeper keeper')

-- what began and wasn't carried out, memory apart
abbrev pub is_cut_short : Status → Bool
is_cut_short ReadFault = true
is_cut_short WriteFault = true
is_cut_short TooLong = true
is_cut_short _ = false

-- the end of a command that met no fault: of a run its script's end, or that it was too long; of a report that it was printed, or that no such namespace is there; and want of memory
abbrev pub is_complete : Status → Bool
is_complete Done = true
is_complete NoMemory = true
is_complete Unsettled = true
is_complete TooLong = true
is_complete NotFound = true
is_complete _ = false

-- nothing was begun, memory apart
abbrev pub has_not_begun : Status → Bool
has_not_begun Usage = true
has_not_begun KeeperFault = true
has_not_begun Damaged = true
has_not_begun _ = false

-- nothing was read, written, committed or told. The keeper has no place yet, or the path of the words
pub record IsUnbegun {S W : Type 0} (words : Option Command) (source source' : S) (sink sink' : W) (keeper keeper' : KeeperView) : Type 0 where
  pub unread : source' ≡ source
  pub unwritten : sink' ≡ sink
  pub same : IfSome keeper.kept (λ held. keeper'.kept ≡ Some held)
  pub whole : keeper'.broken ≡ keeper.broken
  pub place : (keeper'.place ≡ None) ⊎ IsSomeAnd words (λ run. keeper'.place ≡ Some run.db)
  pub untold : keeper'.watchers ≡ keeper.watchers

-- the door failed: before it listened, and nothing was begun; or when a link was to come, and those before were served
abbrev pub IsLeftByDoor : {S W : Type 0} → Option Command → Option Command → S → S → W → W → KeeperView → KeeperView → DoorView → DoorView → Type 0
IsLeftByDoor words serving source source' sink sink' keeper keeper' door door' =
    IsUnbegun words source source' sink sink' keeper keeper' ⊎ IsSomeAnd serving (λ command. LeavesLinks command IsErr door door' keeper keeper')

-- the number of a status, which is the exit status of the program
abbrev pub code_of_status : Status → ℕ
code_of_status Done = 0
code_of_status Usage = 1
code_of_status ReadFault = 2
code_of_status WriteFault = 3
code_of_status KeeperFault = 4
code_of_status Damaged = 5
code_of_status NoMemory = 6
code_of_status DoorFault = 7
code_of_status Unsettled = 8
code_of_status TooLong = 9
code_of_status NotFound = 10
