-- How hands and a queue are tied.
--     hands_of     the hands as they are seen
--     kept_of      how workers are seen
--     with_spread  a queue in which the keys wait, too, that were marked as a whole, in the order of keys
--     IsTied       the queue holds the keys of the hands, each for its worker
--     IsKept       and no key that is held was marked as a whole
--     LinesUp      keys that were marked as a whole came in line
--     Brings       a key came to the front
--     IsInFront    it is the first of all that wait
--     MarksEach    keys were marked in a queue, one by one
use Rattle.std.specs.Prelude.{◌≡◌, ◌≤◌, ◌+◌, ℕ, Bool, true, false, not, ◌&&◌, ◌||◌, ◌==◌, List, [], map, length, slice_get, Some, None, if◌then◌else◌}
use Rattle.std.specs.List.{AllPairs, list_any}
use Rattle.hx_object.specs.declared.object.Id.{Id}
use Rattle.hx_model.specs.Forest.{Forest}
use Rattle.hx_model.specs.Hands.{Hand}
use Rattle.hx_model.specs.Keys.{same_key, is_among}
use Rattle.hx_model.specs.declared.key.Key.{Key}
use Rattle.hx_order.specs.Ranks.{IsFirst}
use Rattle.hx_line.specs.Line.{IsRanked}
use Rattle.hx_reconcile.specs.Briefs.{hand_by}
use Rattle.hx_queue.specs.Kept.{Held, QueueView, is_held, marked_again}
use Rattle.hx_queue.specs.Ordered.{in_order}
use Rattle.hx_queue.specs.Spread.{SpreadView, is_spread, keys_in, waiting_in}
use Rattle.hx_queue.specs.Workers.{WorkersKept}
use Rattle.hx_queue.specs.declared.workers.Handed.{Handed}

-- ---- what is seen

abbrev pub hand_in : Handed → Hand
hand_in h = hand_by h.worker h.brief

abbrev pub hands_of : List Handed → List Hand
hands_of hands = map hand_in hands

-- the room of the queue, where there is a place for one more hand
abbrev pub room_of : ℕ → ℕ → ℕ
room_of places room = if places == 0 then 0 else room

-- what waits, in line or as a whole
abbrev pub all_waiting : QueueView → SpreadView → List Key
all_waiting q s = waiting_in q.waiting (keys_in s.scope s.ids)

abbrev pub with_spread : QueueView → SpreadView → QueueView
with_spread q s = record q { waiting = in_order (all_waiting q s) }

abbrev pub kept_of : List Handed → ℕ → QueueView → SpreadView → WorkersKept
kept_of hands places q s = record {
  seen = record { hands = hands_of hands; waiting = in_order (all_waiting q s); again = marked_again q };
  scope = s.scope;
  spread = s.ids;
  ranks = q.ranks;
  spare = room_of places q.spare;
  places = s.room;
}

-- ---- what is kept

-- some hand has a key and a worker that pass
abbrev pub any_hand : (Key → ℕ → Bool) → List Hand → Bool
any_hand test hands = list_any (λ (h : Hand). test h.key h.worker) hands

abbrev pub any_held : (Key → ℕ → Bool) → List Held → Bool
any_held test held = list_any (λ (h : Held). test h.key h.worker) held

-- the queue holds the keys of the hands for their workers, and no other ones; no worker has two hands, and no key is held twice
pub record IsTied (hands : List Hand) (q : QueueView) : Type 0 where
  pub same : (test : Key → ℕ → Bool) → any_hand test hands ≡ any_held test q.held
  pub workers : AllPairs (λ (a b : Hand). (a.worker == b.worker) ≡ false) hands
  pub keys : AllPairs (λ (a b : Hand). same_key a.key b.key ≡ false) hands

-- no key that is held was marked as a whole
abbrev pub IsFree : QueueView → List Id → Type 0
IsFree q ids = (k : Key) → is_held q k ≡ true → is_spread ids k ≡ false

pub record IsKept (hands : List Hand) (q : QueueView) (s : SpreadView) : Type 0 where
  pub tied : IsTied hands q
  pub free : IsFree q s.ids

-- ---- keys come in line

-- The same keys wait, and the same ones are held. What wasn't marked as a whole still isn't
pub record LinesUp (q r : QueueView) (s t : SpreadView) : Type 0 where
  pub waiting : all_waiting r t ≡ all_waiting q s
  pub ranks : r.ranks ≡ q.ranks
  pub held : r.held ≡ q.held
  pub scope : t.scope ≡ s.scope
  pub apart : (k : Key) → is_spread s.ids k ≡ false → is_spread t.ids k ≡ false
  pub room : s.room ≤ t.room

-- ---- the key whose turn it is

-- the same keys wait, in any order, and the same ones are held
pub record Brings (f : Forest) (q r : QueueView) (s t : SpreadView) : Type 0 where
  pub waiting : (k : Key) → is_among k (all_waiting r t) ≡ is_among k (all_waiting q s)
  pub ranks : IsRanked f r.ranks
  pub held : r.held ≡ q.held
  pub scope : t.scope ≡ s.scope
  pub apart : (k : Key) → is_spread s.ids k ≡ false → is_spread t.ids k ≡ false

-- the key at the front is the first of all that wait; where there is none, none waits
pub record IsInFront (f : Forest) (q : QueueView) (s : SpreadView) : Type 0 where
  pub first : (k : Key) → slice_get q.waiting 0 ≡ Some k → IsFirst f (all_waiting q s) k
  pub none : slice_get q.waiting 0 ≡ None → all_waiting q s ≡ []

-- ---- marks

-- each key of some waits then, or is held and marked
pub record MarksEach (keys : List Key) (old new : QueueView) : Type 0 where
  pub waiting : (k : Key) → is_among k new.waiting ≡ (is_among k old.waiting || (is_among k keys && not (is_held old k)))
  pub again : (k : Key) → is_among k (marked_again new) ≡ (is_among k (marked_again old) || (is_among k keys && is_held old k))
  pub ranks : new.ranks ≡ old.ranks
  pub held : (test : Key → ℕ → Bool) → any_held test new.held ≡ any_held test old.held
  pub spare : old.spare ≤ new.spare + length keys
