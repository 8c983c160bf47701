-- What a queue holds: each key is absent, or waits, or is held by a worker; one that is held may have been marked again.
--     Held, QueueView     a key that is held;  the keys that wait, in any order, how deep those lie of which it is kept, the keys that are held, and the room
--     is_waiting, is_held, holding_of, marked_again    a key waits;  it is held;  how;  the keys that are held and were marked since
--     Marks, Holds, Releases, Ranks   what the calls do
--     AreApart    no key is there twice, and none both waits and is held
use Rattle.std.specs.Prelude.{◌≡◌, ◌≤◌, ◌+◌, ℕ, Bool, true, false, not, ◌||◌, List, [], ◌∷◌, ◌++◌, filter, find, map, is_some, slice_get, Option, Some, if◌then◌else◌, refl}
use Rattle.std.specs.List.{IsDistinct}
use Rattle.std.specs.List.Sorted.{IsPermutation}
use Rattle.std.specs.Coded.{Coded, code_by, coded×, coded_list, coded_ℕ, coded_bool}
use Rattle.hx_model.specs.Forest.{Forest}
use Rattle.hx_model.specs.Keys.{same_key, is_among}
use Rattle.hx_model.specs.contracts.key.Key as key
use Rattle.hx_model.specs.declared.key.Key.{Key}
use Rattle.hx_order.specs.Ranks.{IsFirst}
use Rattle.hx_line.specs.Line.{IsRanked, KeepsRanks, waiting_without}

pub record Held : Type 0 where
  pub key : Key
  pub worker : ℕ
  pub again : Bool

pub record QueueView : Type 0 where
  pub waiting : List Key
  pub ranks : List (Key × ℕ)
  pub held : List Held
  pub spare : ℕ

-- ---- look-ups

abbrev pub is_waiting : QueueView → Key → Bool
is_waiting q k = is_among k q.waiting

-- how a key is held
abbrev pub holding_of : QueueView → Key → Option Held
holding_of q k = find (λ (h : Held). same_key k h.key) q.held

abbrev pub is_held : QueueView → Key → Bool
is_held q k = is_some (holding_of q k)

-- the keys that are held and were marked since
abbrev pub marked_again : QueueView → List Key
marked_again q = map (λ (h : Held). h.key) (filter (λ (h : Held). h.again) q.held)

-- ---- calls

-- a key that is held is marked again
abbrev pub again_in : Key → List Held → List Held
again_in k held = map (λ (h : Held). record h { again = same_key k h.key || h.again }) held

-- an absent key waits then, behind the others
abbrev pub waiting_with : QueueView → Key → List Key
waiting_with q k = if is_held q k || is_waiting q k then q.waiting else q.waiting ++ k ∷ []

-- a key was marked
pub record Marks (k : Key) (old new : QueueView) : Type 0 where
  pub waiting : new.waiting ≡ waiting_with old k
  pub ranks : new.ranks ≡ old.ranks
  pub held : new.held ≡ again_in k old.held
  pub spare : old.spare ≤ new.spare + 1

-- a worker holds a key, which doesn't wait any more. The others wait on, in any order
pub record Holds (worker : ℕ) (k : Key) (old new : QueueView) : Type 0 where
  pub waiting : IsPermutation new.waiting (waiting_without old.waiting k)
  pub ranks : KeepsRanks old.ranks new.ranks
  pub held : new.held ≡ old.held ++ record { key = k; worker = worker; again = false } ∷ []
  pub spare : old.spare ≤ new.spare + 1

-- nobody holds a key any more
abbrev pub held_without : Key → List Held → List Held
held_without k held = filter (λ (h : Held). not (same_key k h.key)) held

-- a key that is held is let go: it waits where it was marked since, or is to wait again
abbrev pub waiting_after : QueueView → Key → Bool → List Key
waiting_after q k again = if again || is_among k (marked_again q) then q.waiting ++ k ∷ [] else q.waiting

-- the others are held on, in any order
pub record Releases (k : Key) (again : Bool) (old new : QueueView) : Type 0 where
  pub waiting : new.waiting ≡ waiting_after old k again
  pub ranks : new.ranks ≡ old.ranks
  pub held : IsPermutation new.held (held_without k old.held)
  pub spare : old.spare ≤ new.spare

-- the key stands at the front whose turn it is in a tree
pub record Ranks (f : Forest) (old new : QueueView) : Type 0 where
  pub waiting : IsPermutation old.waiting new.waiting
  pub ranks : IsRanked f new.ranks
  pub first : (k : Key) → slice_get new.waiting 0 ≡ Some k → IsFirst f new.waiting k
  pub held : new.held ≡ old.held
  pub spare : old.spare ≤ new.spare

-- ---- what a queue keeps

-- the keys that are held
abbrev pub keys_held : List Held → List Key
keys_held held = map (λ (h : Held). h.key) held

-- no key is there twice, and none both waits and is held
pub record AreApart (q : QueueView) : Type 0 where
  pub waiting : IsDistinct same_key q.waiting
  pub held : IsDistinct same_key (keys_held q.held)
  pub apart : (k : Key) → is_held q k ≡ true → is_waiting q k ≡ false

-- ---- as pairs

abbrev pub held_code : Coded Held
held_code = code_by (Key × (ℕ × Bool)) (coded× key.the_row.coded (coded× coded_ℕ coded_bool)) (λ h. (h.key, (h.worker, h.again))) (λ p. record { key = p.0; worker = p.1.0; again = p.1.1 }) (λ _. refl)

abbrev pub queue_code : Coded QueueView
queue_code = code_by (List Key × (List (Key × ℕ) × (List Held × ℕ))) (coded× (coded_list key.the_row.coded) (coded× (coded_list (coded× key.the_row.coded coded_ℕ)) (coded× (coded_list held_code) coded_ℕ)))
    (λ q. (q.waiting, (q.ranks, (q.held, q.spare)))) (λ p. record { waiting = p.0; ranks = p.1.0; held = p.1.1.0; spare = p.1.1.1 }) (λ _. refl)
