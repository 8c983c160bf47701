-- The machine: worlds, the entries of a history, and which entry is legal in which world.
--     World                  the state, what workers hold, which keys may wait, and the store
--     Entry                  one event: a refused line, a request, a turn of a worker, or one that was lost without effect
--     IsLegal w e            the entry may stand in the world
--     world_after w e        the world after it
--     History, IsHistory, replay      entries one after the other, each legal where it stands, and the world that they leave
--     loses_to_fault         whether a history has an entry that was lost to a fault of the store
-- The machine's only free choices are which of the keys that may wait a worker takes, how many of them are said to wait, and where a loss stands.
use Rattle.std.specs.Prelude.{◌≡◌, ◌+◌, ◌<◌, ℕ, Bool, true, false, not, ◌&&◌, ◌||◌, List, [], ◌∷◌, ◌++◌, length, Option, Some, None, option_map, is_some, IsSome, IsSomeAnd, if◌then◌else◌}
use Rattle.std.specs.List.{AllByRecursion, AllPairs}
use Rattle.hx_model.specs.declared.ask.Ask.{Ask}
use Rattle.hx_model.specs.declared.ask.Answer.{Answer}
use Rattle.hx_model.specs.declared.ask.Answer.TheVariants.{Refused as Refusing}
use Rattle.hx_model.specs.declared.refusal.Refusal.{Refusal}
use Rattle.hx_model.specs.declared.refusal.Refusal.TheVariants.{StoreFailed, NoMemory as NoRoom}
use Rattle.hx_model.specs.declared.key.Finish.{Finish}
use Rattle.hx_model.specs.declared.key.Finish.TheVariants as ending
use Rattle.hx_model.specs.declared.key.Key.{Key}
use Rattle.hx_model.specs.declared.key.Write.{Write}
use Rattle.hx_model.specs.Answers.{answer_to, writes_of, refusal_of, Mutates}
use Rattle.hx_model.specs.Hands.{Hand, hand_at, hand_of, without_hand, is_held, may_finish, writes_for}
use Rattle.hx_model.specs.Keys.{same_key, is_among, may_mark}
use Rattle.hx_model.specs.Limits.{greatest_version}
use Rattle.hx_model.specs.Settled.{IsSettled}
use Rattle.hx_model.specs.State.{State, state_after}
use Rattle.hx_model.specs.Wanted.{wanted_write}

-- ---- worlds

-- `marked` says which keys may wait. `broken` says that a commit of the store failed, and `torn` is the state with that commit's write, which the store may hold
pub record World : Type 0 where
  pub state : State
  pub hands : List Hand
  pub marked : Key → Bool
  pub broken : Bool
  pub torn : Option State

-- the keys that want a write
abbrev pub wants : State → Key → Bool
wants s k = is_some (wanted_write s k)

-- the first world of a run, by its first state: each key that wants a write waits
abbrev pub opening_world : Bool → State → World
opening_world broken state = record { state = state; hands = []; marked = wants state; broken = broken; torn = None }

-- ---- entries

-- why an entry was lost
pub data Cause : Type 0 where
  NoMemory : Cause
  KeeperFault : Cause

-- A worker takes a key, which the line may name; finds none that waits; has one already; or finds that another worker holds the key. It finishes, or drops what it holds. A check tells how many keys wait and how many are held.
pub data Entry : Type 0 where
  Refused : (refusal : Refusal) → Entry
  Request : (ask : Ask) (answer : Answer) → Entry
  LostRequest : (ask : Ask) (cause : Cause) → Entry
  Took : (worker : ℕ) (key : Key) (named : Bool) → Entry
  Idle : (worker : ℕ) → Entry
  Already : (worker : ℕ) (key : Key) → Entry
  HeldBy : (worker : ℕ) (key : Key) (holder : ℕ) → Entry
  LostTake : (worker : ℕ) → Entry
  Finished : (worker : ℕ) (end : Finish) → Entry
  Dropped : (worker : ℕ) (key : Option Key) → Entry
  Checked : (waiting held : ℕ) → Entry

-- ---- which may stand where

-- a worker holds nothing
abbrev pub HoldsNone : World → ℕ → Type 0
HoldsNone w worker = hand_of worker w.hands ≡ None

-- a worker holds the key
abbrev pub HoldsKey : World → ℕ → Key → Type 0
HoldsKey w worker k = IsSomeAnd (hand_of worker w.hands) (λ hand. hand.key ≡ k)

-- keys that may wait and that nobody holds, each once: among them each that wants a write and that nobody holds
pub record AreWaiting (w : World) (keys : List Key) : Type 0 where
  pub distinct : AllPairs (λ a b. same_key a b ≡ false) keys
  pub marked : AllByRecursion (λ k. w.marked k ≡ true) keys
  pub free : AllByRecursion (λ k. is_held k w.hands ≡ false) keys
  pub all : (k : Key) → wants w.state k ≡ true → is_held k w.hands ≡ false → is_among k keys ≡ true

-- so many keys wait
abbrev pub IsWaitingCount : World → ℕ → Type 0
IsWaitingCount w waiting = (keys : List Key) × (length keys ≡ waiting) × AreWaiting w keys

-- A worker that holds a key ends its turn. Memory may be wanting anywhere, and a fault met only by what would be written
abbrev pub IsEndOf : World → Hand → Finish → Type 0
IsEndOf w hand ending.Empty = ⊥
IsEndOf w hand ending.Nothing = hand.write ≡ None
IsEndOf w hand (ending.Conflict seen now) = IsSome hand.write × (may_finish w.state hand ≡ false) × (seen ≡ hand.seen) × (now ≡ w.state.last)
IsEndOf w hand ending.Spent = (may_finish w.state hand ≡ true) × (w.state.last ≡ greatest_version)
IsEndOf w hand (ending.Written version) = (may_finish w.state hand ≡ true) × (w.broken ≡ false) × (version ≡ w.state.last + 1) × (w.state.last < greatest_version)
IsEndOf w hand ending.Fault = (may_finish w.state hand ≡ true) × (w.state.last < greatest_version)
IsEndOf w hand ending.NoMemory = Unit {0}

-- one that holds nothing finishes nothing
abbrev pub IsEnd : World → Option Hand → Finish → Type 0
IsEnd w (Some hand) end = IsEndOf w hand end
IsEnd w None end = end ≡ ending.Empty

-- A refusal that a line fixes by itself may stand anywhere: that the line fixes it is said where lines are read.
-- A request has the answer of its state, and changes something only where the store isn't broken. Memory may be wanting anywhere, and a fault met only by what would change something.
-- A worker takes a key that nobody holds and that may wait or is named, and is idle only where each key that nobody holds wants nothing. Where no key waits or is held, the state is settled.
abbrev pub IsLegal : World → Entry → Type 0
IsLegal w (Refused refusal) = Unit {0}
IsLegal w (Request ask answer) = (answer ≡ (answer_to w.state ask).0) × (Mutates w.state ask → w.broken ≡ false)
IsLegal w (LostRequest ask NoMemory) = Unit {0}
IsLegal w (LostRequest ask KeeperFault) = Mutates w.state ask
IsLegal w (Took worker k named) = HoldsNone w worker × (is_held k w.hands ≡ false) × (named ≡ false → w.marked k ≡ true)
IsLegal w (Idle worker) = HoldsNone w worker × ((k : Key) → is_held k w.hands ≡ false → wanted_write w.state k ≡ None)
IsLegal w (Already worker k) = HoldsKey w worker k
IsLegal w (HeldBy worker k holder) = HoldsNone w worker × HoldsKey w holder k
IsLegal w (LostTake worker) = Unit {0}
IsLegal w (Finished worker end) = IsEnd w (hand_of worker w.hands) end
IsLegal w (Dropped worker key) = key ≡ option_map (λ (hand : Hand). hand.key) (hand_of worker w.hands)
IsLegal w (Checked waiting held) = IsWaitingCount w waiting × (held ≡ length w.hands) × (waiting ≡ 0 → held ≡ 0 → IsSettled w.state)

-- ---- what comes of them

-- what a request writes: nothing where it is refused
abbrev pub writes_if : Option Refusal → List Write → List Write
writes_if (Some refusal) writes = []
writes_if None writes = writes

abbrev pub writes_made : State → Ask → List Write
writes_made s ask = writes_if (refusal_of s ask) (writes_of s ask)

-- a commit is made: keys that it touches may wait
abbrev pub written_by : World → List Write → World
written_by w writes = record w { state = state_after w.state writes; marked = λ k. w.marked k || may_mark w.state writes k }

-- a worker takes a key
abbrev pub taken_by : World → ℕ → Key → World
taken_by w worker k = record w { hands = w.hands ++ hand_at w.state worker k ∷ []; marked = λ other. w.marked other && not (same_key other k) }

-- a worker holds nothing any more
abbrev pub let_go : World → ℕ → World
let_go w worker = record w { hands = without_hand worker w.hands }

-- and its key may wait again
abbrev pub given_back : World → Option Hand → ℕ → World
given_back w None worker = w
given_back w (Some hand) worker = record (let_go w worker) { marked = λ k. w.marked k || same_key k hand.key }

-- the world after a fault at a write. A store that was broken before took nothing
abbrev pub broken_at : World → State → World
broken_at w torn = record w { broken = true; torn = if w.broken then w.torn else Some torn }

-- the writes of a hand, in a state
abbrev pub writes_by : State → Option Hand → List Write
writes_by s None = []
writes_by s (Some hand) = writes_for s hand.write

-- the world after a worker's turn, by what it held
abbrev pub finished_by : World → Option Hand → ℕ → Finish → World
finished_by w hand worker ending.Empty = w
finished_by w hand worker ending.Nothing = let_go w worker
finished_by w hand worker (ending.Conflict seen now) = given_back w hand worker
finished_by w hand worker ending.Spent = given_back w hand worker
finished_by w hand worker (ending.Written version) = let_go (written_by w (writes_by w.state hand)) worker
finished_by w hand worker ending.Fault = broken_at (given_back w hand worker) (state_after w.state (writes_by w.state hand))
finished_by w hand worker ending.NoMemory = given_back w hand worker

-- the world after an entry. What isn't named stays
abbrev pub world_after : World → Entry → World
world_after w (Refused refusal) = w
world_after w (Request ask answer) = record w { state = (answer_to w.state ask).1; marked = λ k. w.marked k || may_mark w.state (writes_made w.state ask) k }
world_after w (LostRequest ask NoMemory) = w
world_after w (LostRequest ask KeeperFault) = broken_at w (state_after w.state (writes_of w.state ask))
world_after w (Took worker k named) = taken_by w worker k
world_after w (Idle worker) = w
world_after w (Already worker k) = w
world_after w (HeldBy worker k holder) = w
world_after w (LostTake worker) = w
world_after w (Finished worker end) = finished_by w (hand_of worker w.hands) worker end
world_after w (Dropped worker key) = given_back w (hand_of worker w.hands) worker
world_after w (Checked waiting held) = w

-- ---- histories

abbrev pub History : Type 0
History = List Entry

-- each entry is legal in the world that those before it give
abbrev pub IsHistory : World → History → Type 0
IsHistory w [] = Unit {0}
IsHistory w (e ∷ es) = IsLegal w e × IsHistory (world_after w e) es

-- the last world of a history
abbrev pub replay : World → History → World
replay w [] = w
replay w (e ∷ es) = replay (world_after w e) es

-- what an entry answers, where it is that of a request
abbrev pub answer_of : Entry → Option Answer
answer_of (Refused refusal) = Some (Refusing refusal)
answer_of (Request ask answer) = Some answer
answer_of (LostRequest ask NoMemory) = Some (Refusing NoRoom)
answer_of (LostRequest ask KeeperFault) = Some (Refusing StoreFailed)
answer_of _ = None

-- the entry was lost to a fault of the store
abbrev pub is_lost_to_fault : Entry → Bool
is_lost_to_fault (LostRequest ask KeeperFault) = true
is_lost_to_fault (Finished worker ending.Fault) = true
is_lost_to_fault _ = false

-- some entry was lost to a fault of the store
abbrev pub loses_to_fault : History → Bool
loses_to_fault [] = false
loses_to_fault (e ∷ es) = is_lost_to_fault e || loses_to_fault es
