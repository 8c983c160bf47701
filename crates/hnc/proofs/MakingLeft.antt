-- What making a cluster leaves, as `top` promises it.
--     makes_of                     what the words ask for, where they ask for one
--     of_making-whole, of_making-front, of_making-part      a cluster was made over one that was started;  a front of what it counts was printed;  no memory was left on the way
--     making_ends, making_cut      how it ends
use Rattle.std.proofs.Common.{◌≡◌, ◌⊎◌, ◌||◌, ◌++◌, ◌∙◌, ℕ, List, [], ◌∷◌, Option, Some, None, if◌then◌else◌, ap, inl, inr, refl, subst, sym, true, false, true≢false}
use Rattle.std.specs.Prelude.{IsSomeAnd}
use Rattle.std.proofs.lemmas.Bool.{or_right}
use Rattle.hx_ports.specs.Views.{KeeperView, SinkView}
use Rattle.hx_model.specs.Machine.{World, Finished, History, is_lost_to_fault, loses_to_fault, opening_world, replay}
use Rattle.hx_model.specs.Requests.{request_entry}
use Rattle.hx_model.specs.State.{State}
use Rattle.hx_model.specs.declared.ask.Ask.{Ask}
use Rattle.hx_model.specs.declared.key.Finish.{Finish}
use Rattle.hx_model.specs.declared.key.Finish.TheVariants as finish
use Rattle.hx_core.specs.Refinement.{ClusterView}
use Rattle.hx_core.specs.Turns.{end_entries, loss_in, loss_of, turns_entries}
use Rattle.hx_core.specs.declared.turns.Settle.TheVariants as settled
use Rattle.hx_core.specs.declared.turns.Turned.{Turned}
use Rattle.hx_gen.specs.Asked.{asks_of}
use Rattle.hx_words.specs.Words.{asked_if, is_making}
use Rattle.hx_words.specs.declared.command.Command.{Command}
use Rattle.hx_words.specs.declared.command.Task.{Task}
use Rattle.hx_words.specs.declared.command.Task.TheVariants.{Generate}
use Rattle.hx_words.specs.declared.command.Workload.{Workload}
use Rattle.hnc.proofs.Leaving.{Starts, carries, carries_ends}
use Rattle.hnc.specs.Generating.{HasGenerated, HasGeneratedFront, IsMadeInPart, Made, entries_in, settled_entries, told_of}
use Rattle.hnc.specs.Headline.{LeavesMade, LeavesMadeInPart, OfAsks, OfMaking, is_complete, is_cut_short}
use Rattle.hnc.specs.declared.top.Status.{Status}
use Rattle.hnc.specs.declared.top.Status.TheVariants as ending

-- what the words ask for, where it makes one
pub makes_of : (words : Option Command) (command : Command) (workload : Workload) → words ≡ Some command → command.task ≡ Generate workload → asked_if is_making words ≡ Some command
makes_of words command workload is task = ap (asked_if is_making) is ∙ ap (λ (t : Task). if is_making t then Some command else None) task

-- what holds of the asks of its two numbers
pub of_asks : (making : Option Command) (command : Command) (workload : Workload) (P : Command → List Ask → Type 0) → making ≡ Some command → command.task ≡ Generate workload → P command (asks_of workload.number workload.count) → OfMaking making P
of_asks making command workload P is task p =
    let Q : Option Command → Type 0 = λ o. IsSomeAnd o (λ c. OfAsks c.task (P c)) in
    subst Q (sym is) (subst (λ (t : Task). OfAsks t (P command)) (sym task) p)

-- a fault of the last turn is one of the history
lost_last : (turns : List Turned) (rest : History) → loss_of turns ≡ Some settled.Fault → loses_to_fault (turns_entries turns ++ rest) ≡ true
lost_last [] rest lost = cc
lost_last (turned ∷ []) rest lost = ap (λ (end : Finish). is_lost_to_fault (Finished 0 end) || loses_to_fault rest) (fault_end turned.end lost)
  where
    fault_end : (end : Finish) → loss_in end ≡ Some settled.Fault → end ≡ finish.Fault
    fault_end finish.Empty is = cc
    fault_end finish.Nothing is = cc
    fault_end (finish.Conflict seen now) is = cc
    fault_end finish.Spent is = cc
    fault_end (finish.Written version) is = cc
    fault_end finish.Fault is = refl
    fault_end finish.NoMemory is = cc
lost_last (turned ∷ next ∷ turns) rest lost = or_right (is_lost_to_fault (Finished 0 turned.end)) _ (lost_last (next ∷ turns) rest lost)

lost_behind : (made : Made) (rest : History) → loses_to_fault rest ≡ true → loses_to_fault (entries_in made ++ rest) ≡ true
lost_behind [] rest lost = lost
lost_behind (m ∷ made) rest lost = or_right (is_lost_to_fault (request_entry m.0 m.1)) _ (lost_behind made rest lost)

made_whole : (command : Command) (asks : List Ask) (lacking : List ℕ) (sink sink' : SinkView) (keeper keeper' : KeeperView) (a b : ClusterView) → Starts command keeper a → keeper' ≡ b.keeper → HasGenerated asks lacking a b sink sink' → LeavesMade command asks lacking sink sink' keeper keeper'
made_whole command asks lacking sink sink' keeper keeper' a b starts is has =
    let m = has.made in
    let entries = entries_in m.made ++ settled_entries m.turns has.end in
    let carried = carries command entries keeper keeper' a b starts is (λ _. m.simulates) in
    let ends = carries_ends command entries keeper keeper' a b starts is (λ _. m.simulates) in
    let opening = opening_world a.keeper.broken a.state in
    let reached : replay (opening_world keeper.broken a.state) entries ≡ replay opening entries = ap (λ broken. replay (opening_world broken a.state) entries) (sym starts.whole) in
    let state : (replay (opening_world keeper.broken a.state) entries).state ≡ b.state = ap (λ (w : World). w.state) reached ∙ (m.simulates.steps opening starts.opens).1.state in
    record {
      made = m.made;
      turns = m.turns;
      end = has.end;
      is = m.is;
      answered = m.answered;
      ended = m.ended;
      carries = carried;
      text = has.text;
      tells = ap (λ (s : State). told_of s has.end) (ap (λ (w : World). w.state) ends.1 ∙ state) ∙ has.tells;
      wrote = has.wrote;
      sure = λ first. elim (m.sure (ap (λ (s : State). s.last) (sym ends.0) ∙ first)) [
        | inl settled ↦ inl settled
        | inr lost ↦ inr (lost.0, carried.lost (lost_behind m.made (settled_entries m.turns has.end) (lost_last m.turns (end_entries has.end) lost.1)))
      ];
    }

pub of_making-whole : (making : Option Command) (command : Command) (workload : Workload) (sink sink' : SinkView) (keeper keeper' : KeeperView) (a b : ClusterView) → making ≡ Some command → command.task ≡ Generate workload → Starts command keeper a → keeper' ≡ b.keeper
    → HasGenerated (asks_of workload.number workload.count) [] a b sink sink' → OfMaking making (λ c asks. LeavesMade c asks [] sink sink' keeper keeper')
of_making-whole making command workload sink sink' keeper keeper' a b is task starts ends has =
    of_asks making command workload (λ c asks. LeavesMade c asks [] sink sink' keeper keeper') is task (made_whole command _ [] sink sink' keeper keeper' a b starts ends has)

pub of_making-front : (making : Option Command) (command : Command) (workload : Workload) (sink sink' : SinkView) (keeper keeper' : KeeperView) (a b : ClusterView) → making ≡ Some command → command.task ≡ Generate workload → Starts command keeper a → keeper' ≡ b.keeper
    → HasGeneratedFront (asks_of workload.number workload.count) a b sink sink' → OfMaking making (λ c asks. (lacking : List ℕ) × LeavesMade c asks lacking sink sink' keeper keeper')
of_making-front making command workload sink sink' keeper keeper' a b is task starts ends has =
    of_asks making command workload (λ c asks. (lacking : List ℕ) × LeavesMade c asks lacking sink sink' keeper keeper') is task (has.0, made_whole command _ has.0 sink sink' keeper keeper' a b starts ends has.1)

pub of_making-part : (making : Option Command) (command : Command) (workload : Workload) (sink sink' : SinkView) (keeper keeper' : KeeperView) (a b : ClusterView) → making ≡ Some command → command.task ≡ Generate workload → Starts command keeper a → keeper' ≡ b.keeper → sink' ≡ sink
    → IsMadeInPart (asks_of workload.number workload.count) a b → OfMaking making (λ c asks. LeavesMadeInPart c asks sink sink' keeper keeper')
of_making-part making command workload sink sink' keeper keeper' a b is task starts ends unwritten part =
    of_asks making command workload (λ c asks. LeavesMadeInPart c asks sink sink' keeper keeper') is task (record {
      made = part.made;
      rest = part.rest;
      settling = part.settling;
      is = part.is;
      are = part.are;
      carries = carries command (entries_in part.made ++ part.settling) keeper keeper' a b starts ends (λ _. part.simulates);
      unwritten = unwritten;
    })

-- ---- how it ends

pub making_ends : (status : Status) (Write : Type 0) → (status ≡ ending.Done) ⊎ ((status ≡ ending.WriteFault) ⊎ (status ≡ ending.NoMemory)) → (status ≡ ending.WriteFault → Write) → (Write → ⊥) → is_complete status ≡ true
making_ends status Write (inl is) write unwritten = ap is_complete is
making_ends status Write (inr (inl is)) write unwritten = absurd (unwritten (write is))
making_ends status Write (inr (inr is)) write unwritten = ap is_complete is

-- one that was cut short met a fault of writing
pub making_cut : (status : Status) → (status ≡ ending.Done) ⊎ ((status ≡ ending.WriteFault) ⊎ (status ≡ ending.NoMemory)) → is_cut_short status ≡ true → status ≡ ending.WriteFault
making_cut status (inl is) cut = absurd (true≢false (sym cut ∙ ap is_cut_short is))
making_cut status (inr (inl is)) cut = is
making_cut status (inr (inr is)) cut = absurd (true≢false (sym cut ∙ ap is_cut_short is))
