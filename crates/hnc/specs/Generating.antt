-- What making a cluster of a given size leaves.
--     Made, asks_in, entries_in      asks that were made, each with its answer;  the asks;  the entries
--     HasAnswer, HasEnded        an ask's answer, and the end of a turn, that isn't want of memory
--     keys_for, turns_for        at least as many keys as objects can have;  as many turns as suffice to settle them
--     most_turns                 at most so many are made
--     AskedOne, IsNextAsked      the next ask was made;  or there was none, or no memory
--     HasAsked, HasAskedAll      the first of some asks were made;  all of them, and none was lost
--     IsEndBy                    how a settle ends that isn't left unsettled
--     HasSettled, SettlesSome    the cluster was settled;  or no memory was left for it
--     IsMadeTo                   a cluster was made and settled
--     settled_entries            the entries of a settle
--     IsMadeInPart               the first asks were made, and the settle is theirs where all were
--     told_of                    what a state counts, and how settling it ended
--     HasGenerated, HasGeneratedFront     what it counts was printed, and how settling ended, but for what is lacking;  a front of it
use Rattle.std.specs.Prelude.{◌≡◌, ◌≢◌, ◌≤◌, ◌⊎◌, ◌+◌, ◌*◌, ◌^◌, ℕ, Bool, true, false, List, [], ◌∷◌, ◌++◌, length, map, Some}
use Rattle.std.specs.declared.result.Result.{Result}
use Rattle.std.specs.declared.result.Result.TheVariants.{Ok, Err}
use Rattle.std.specs.List.{AllByRecursion}
use Rattle.std.specs.Io.KnownBytes.{Appends}
use Rattle.hx_object.specs.declared.memory.NoMemory.{NoMemory as Wanting}
use Rattle.hx_ports.specs.Views.{SinkView}
use Rattle.hx_model.specs.Machine.{History}
use Rattle.hx_model.specs.Requests.{request_entry}
use Rattle.hx_model.specs.State.{State}
use Rattle.hx_model.specs.declared.ask.Answer.{Answer}
use Rattle.hx_model.specs.declared.ask.Answer.TheVariants.{Refused}
use Rattle.hx_model.specs.declared.ask.Ask.{Ask}
use Rattle.hx_model.specs.declared.key.Finish.TheVariants as ending
use Rattle.hx_model.specs.declared.refusal.Refusal.TheVariants.{NoMemory as NoRoom}
use Rattle.hx_core.specs.Refinement.{ClusterView, Simulates}
use Rattle.hx_core.specs.Turns.{end_entries, loss_of, turns_entries}
use Rattle.hx_core.specs.declared.turns.Settle.{Settle}
use Rattle.hx_core.specs.declared.turns.Settle.TheVariants as settled
use Rattle.hx_core.specs.declared.turns.Turned.{Turned}
use Rattle.hx_report.specs.Summing.{summary_text}
use Rattle.hx_script.specs.Turns.{settled_line}

-- ---- asks

-- asks that were made, each with its answer
abbrev pub Made : Type 0
Made = List (Ask × Answer)

abbrev pub asks_in : Made → List Ask
asks_in made = map (λ m. m.0) made

abbrev pub entries_in : Made → History
entries_in made = map (λ m. request_entry m.0 m.1) made

-- it wasn't lost for want of memory
abbrev pub HasAnswer : Ask × Answer → Type 0
HasAnswer m = m.1 ≢ Refused NoRoom

-- nor was the turn
abbrev pub HasEnded : Turned → Type 0
HasEnded turned = turned.end ≢ ending.NoMemory

-- an ask was made, and no worker took or let go a key
pub record AskedOne (asks rest : List Ask) (old new : ClusterView) : Type 0 where
  pub made : Ask × Answer
  pub is : asks ≡ made.0 ∷ rest
  pub simulates : Simulates old (request_entry made.0 made.1 ∷ []) new
  pub hands : new.workers.hands ≡ old.workers.hands

-- the next ask was made, or there was none; or no memory was left, for it or for its answer
abbrev pub IsNextAsked : Result Bool Wanting → List Ask → List Ask → ClusterView → ClusterView → Type 0
IsNextAsked (Ok true) asks rest old new = (one : AskedOne asks rest old new) × HasAnswer one.made
IsNextAsked (Ok false) asks rest old new = (asks ≡ []) × (rest ≡ []) × (new ≡ old)
IsNextAsked (Err wanting) asks rest old new = ((rest ≡ asks) × (new ≡ old)) ⊎ AskedOne asks rest old new

-- the first of some asks were made, and no worker took or let go a key
pub record HasAsked (asks rest : List Ask) (old new : ClusterView) : Type 0 where
  pub made : Made
  pub is : asks ≡ asks_in made ++ rest
  pub simulates : Simulates old (entries_in made) new
  pub hands : new.workers.hands ≡ old.workers.hands

-- all of them were made, and none was lost for want of memory
abbrev pub HasAskedAll : List Ask → List Ask → ClusterView → ClusterView → Type 0
HasAskedAll asks rest old new = (asked : HasAsked asks rest old new) × AllByRecursion HasAnswer asked.made

-- ---- settling

-- a state of so many objects has no more keys: of two names for each object, with a key for each object, and three more; and three for each object
abbrev pub keys_for : ℕ → ℕ
keys_for objects = 2 * objects * objects + 9 * objects

-- as many turns as suffice to settle so many objects, where so many keys wait
abbrev pub turns_for : ℕ → ℕ → ℕ
turns_for objects waiting = (2 * objects + keys_for objects + 1) * (keys_for objects + waiting + 1)

abbrev pub most_turns : ℕ
most_turns = 2 ^ 62

-- the entries of a settle
abbrev pub settled_entries : List Turned → Settle → History
settled_entries turns end = turns_entries turns ++ end_entries end

-- no key waits or is held; or the last turn was lost to a fault, or to a version that is spent
abbrev pub IsEndBy : List Turned → Settle → Type 0
IsEndBy turns settled.Settled = Unit {0}
IsEndBy turns settled.Fault = loss_of turns ≡ Some settled.Fault
IsEndBy turns settled.Spent = loss_of turns ≡ Some settled.Spent
IsEndBy turns end = ⊥

-- the cluster was settled, and no turn was lost for want of memory
pub record HasSettled (old : ClusterView) (end : Settle) (new : ClusterView) : Type 0 where
  pub turns : List Turned
  pub simulates : Simulates old (settled_entries turns end) new
  pub few : length turns ≤ most_turns
  pub ended : AllByRecursion HasEnded turns
  pub ends : IsEndBy turns end

-- no memory was left for it
pub record SettlesSome (old new : ClusterView) : Type 0 where
  pub entries : History
  pub simulates : Simulates old entries new
  pub are : (entries ≡ []) ⊎ ((turns : List Turned) × (end : Settle) × (entries ≡ settled_entries turns end))

-- ---- both

-- asks were made and the cluster was settled
pub record IsMadeTo (asks : List Ask) (old : ClusterView) (end : Settle) (new : ClusterView) : Type 0 where
  pub made : Made
  pub turns : List Turned
  pub is : asks_in made ≡ asks
  pub answered : AllByRecursion HasAnswer made
  pub ended : AllByRecursion HasEnded turns
  pub simulates : Simulates old (entries_in made ++ settled_entries turns end) new
  pub sure : old.state.last ≡ 0 → (end ≡ settled.Settled) ⊎ ((end ≡ settled.Fault) × (loss_of turns ≡ Some settled.Fault))

-- the first of some asks were made, and the settle behind them was begun where all of them were
pub record IsMadeInPart (asks : List Ask) (old new : ClusterView) : Type 0 where
  pub made : Made
  pub rest : List Ask
  pub settling : History
  pub is : asks ≡ asks_in made ++ rest
  pub are : (settling ≡ []) ⊎ ((rest ≡ []) × ((turns : List Turned) × (end : Settle) × (settling ≡ settled_entries turns end)))
  pub simulates : Simulates old (entries_in made ++ settling) new

-- ---- what is printed

-- what a state counts, and how settling it ended
abbrev pub told_of : State → Settle → List ℕ
told_of s end = summary_text s.config.excluded s.objects ++ settled_line end

-- a cluster was made and settled, and what it counts was printed, but for what is lacking of the end
pub record HasGenerated (asks : List Ask) (lacking : List ℕ) (old new : ClusterView) (sink sink' : SinkView) : Type 0 where
  pub end : Settle
  pub made : IsMadeTo asks old end new
  pub text : List ℕ
  pub tells : told_of new.state end ≡ text ++ lacking
  pub wrote : Appends sink.written sink'.written text

-- a front of it was
abbrev pub HasGeneratedFront : List Ask → ClusterView → ClusterView → SinkView → SinkView → Type 0
HasGeneratedFront asks old new sink sink' = (lacking : List ℕ) × HasGenerated asks lacking old new sink sink'
