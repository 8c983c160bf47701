-- What workers hold, and which keys wait.
--     WorkersView            the hands, the keys that wait, and those that are held and were marked since
--     WorkersKept            the same, with the keys that were marked as a whole, how deep those lie of which it is kept, and the room for more
--     IsMarkedBy keys        keys were marked
--     IsTakenBy, IsLetGo     a worker took a key;  a worker lets its key go
--     MaySpread id           keys of an object may be marked as a whole
--     AreApart               no key is there twice, and no worker
use Rattle.std.specs.Prelude.{◌≡◌, ℕ, Bool, true, false, not, ◌&&◌, ◌||◌, ◌==◌, List, [], ◌∷◌, ◌++◌, Option, refl}
use Rattle.std.specs.Coded.{Coded, code_by, coded×, coded_list, coded_ℕ, coded_option}
use Rattle.std.specs.List.{AllByRecursion, AllPairs, list_any}
use Rattle.hx_object.specs.contracts.object.Id as id_type
use Rattle.hx_object.specs.declared.object.Id.{Id}
use Rattle.hx_model.specs.Hands.{Hand, is_held, without_hand}
use Rattle.hx_model.specs.Keys.{same_key, is_among}
use Rattle.hx_model.specs.contracts.key.Guard as guard
use Rattle.hx_model.specs.contracts.key.Key as key
use Rattle.hx_model.specs.contracts.key.Write as write
use Rattle.hx_model.specs.declared.key.Guard.{Guard}
use Rattle.hx_model.specs.declared.key.Key.{Key}
use Rattle.hx_model.specs.declared.key.Write.{Write}
use Rattle.hx_queue.specs.Spread.{HasPlace, Scope, is_place_of, scope_code}

-- `waiting` are the keys that wait, each once and in the order of keys; `again` are the keys that are held and were marked since
pub record WorkersView : Type 0 where
  pub hands : List Hand
  pub waiting : List Key
  pub again : List Key

-- nothing waits or is held
abbrev pub no_work : WorkersView
no_work = record { hands = []; waiting = []; again = [] }

-- what is seen, where and of which objects keys were marked as a whole, how deep keys lie, and the room for keys that are marked or held later and for objects
pub record WorkersKept : Type 0 where
  pub seen : WorkersView
  pub scope : Option Scope
  pub spread : List Id
  pub ranks : List (Key × ℕ)
  pub spare : ℕ
  pub places : ℕ

-- ---- calls

-- each key of some waits then, or is held and marked, and no other one that didn't before
pub record IsMarkedBy (keys : List Key) (old new : WorkersView) : Type 0 where
  pub hands : new.hands ≡ old.hands
  pub waiting : (k : Key) → is_among k new.waiting ≡ (is_among k old.waiting || (is_among k keys && not (is_held k old.hands)))
  pub again : (k : Key) → is_among k new.again ≡ (is_among k old.again || (is_among k keys && is_held k old.hands))

-- a worker took a key, which doesn't wait any more
pub record IsTakenBy (hand : Hand) (old new : WorkersView) : Type 0 where
  pub hands : new.hands ≡ old.hands ++ hand ∷ []
  pub waiting : (k : Key) → is_among k new.waiting ≡ (is_among k old.waiting && not (same_key k hand.key))
  pub again : (k : Key) → is_among k new.again ≡ is_among k old.again

-- a worker holds its key no more: it waits where it was marked since, or is to wait again
pub record IsLetGo (worker : ℕ) (k : Key) (waits : Bool) (old new : WorkersView) : Type 0 where
  pub hands : new.hands ≡ without_hand worker old.hands
  pub waiting : (other : Key) → is_among other new.waiting ≡ (is_among other old.waiting || (same_key other k && (waits || is_among k old.again)))
  pub again : (other : Key) → is_among other new.again ≡ (is_among other old.again && not (same_key other k))

-- no key of an object's kind and name is held, and there aren't too many with it
pub record MaySpread (id : Id) (hands : List Hand) (scope : Option Scope) (ids : List Id) : Type 0 where
  pub free : list_any (λ (h : Hand). is_place_of id h.key) hands ≡ false
  pub fits : HasPlace scope ids

-- ---- what they keep

-- no key waits twice, no worker has two hands, no key is held twice, none both waits and is held, and what was marked again is held
pub record AreApart (v : WorkersView) : Type 0 where
  pub waiting : AllPairs (λ a b. same_key a b ≡ false) v.waiting
  pub workers : AllPairs (λ (a b : Hand). (a.worker == b.worker) ≡ false) v.hands
  pub held : AllPairs (λ (a b : Hand). same_key a.key b.key ≡ false) v.hands
  pub apart : AllByRecursion (λ k. is_held k v.hands ≡ false) v.waiting
  pub again : AllByRecursion (λ k. is_held k v.hands ≡ true) v.again

-- ---- as pairs

abbrev pub hand_code : Coded Hand
hand_code = code_by (ℕ × (Key × (ℕ × (List Guard × Option Write))))
    (coded× coded_ℕ (coded× key.the_row.coded (coded× coded_ℕ (coded× (coded_list guard.the_row.coded) (coded_option write.the_row.coded)))))
    (λ h. (h.worker, (h.key, (h.seen, (h.guards, h.write))))) (λ p. record { worker = p.0; key = p.1.0; seen = p.1.1.0; guards = p.1.1.1.0; write = p.1.1.1.1 }) (λ _. refl)

abbrev pub workers_code : Coded WorkersView
workers_code = code_by (List Hand × (List Key × List Key)) (coded× (coded_list hand_code) (coded× (coded_list key.the_row.coded) (coded_list key.the_row.coded)))
    (λ v. (v.hands, (v.waiting, v.again))) (λ p. record { hands = p.0; waiting = p.1.0; again = p.1.1 }) (λ _. refl)

abbrev pub workers_kept_code : Coded WorkersKept
workers_kept_code = code_by (WorkersView × (Option Scope × (List Id × (List (Key × ℕ) × (ℕ × ℕ)))))
    (coded× workers_code (coded× (coded_option scope_code) (coded× (coded_list id_type.the_row.coded) (coded× (coded_list (coded× key.the_row.coded coded_ℕ)) (coded× coded_ℕ coded_ℕ)))))
    (λ w. (w.seen, (w.scope, (w.spread, (w.ranks, (w.spare, w.places)))))) (λ p. record { seen = p.0; scope = p.1.0; spread = p.1.1.0; ranks = p.1.1.1.0; spare = p.1.1.1.1.0; places = p.1.1.1.1.1 }) (λ _. refl)
