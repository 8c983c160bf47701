-- That no work is forgotten.
--     IsUpToDate s hand    a hand's write is the one that its key wants now, and its guards are met
--     IsCovered            each key that wants a write waits, or is held and marked again, or is held by a hand that is up to date
--     IsSameFor s t k      a key wants the same in two states
use Rattle.std.specs.Prelude.{◌≡◌, ◌≢◌, ◌⊎◌, true, List, Some, None}
use Rattle.hx_model.specs.Hands.{Hand, hand_of, are_met}
use Rattle.hx_model.specs.Keys.{is_among}
use Rattle.hx_model.specs.State.{State}
use Rattle.hx_model.specs.Wanted.{wanted_write, guards_of}
use Rattle.hx_model.specs.declared.key.Key.{Key}

pub record IsUpToDate (s : State) (hand : Hand) : Type 0 where
  pub wanted : hand.write ≡ wanted_write s hand.key
  pub met : are_met s hand.guards ≡ true

-- one of some hands holds a key, and is up to date
abbrev pub IsHeldWell : State → List Hand → Key → Type 0
IsHeldWell s hands k = (hand : Hand) × (hand_of hand.worker hands ≡ Some hand) × (hand.key ≡ k) × IsUpToDate s hand

-- some keys wait, and some that are held were marked since
abbrev pub IsCovered : State → List Hand → List Key → List Key → Type 0
IsCovered s hands waiting again = (k : Key) → wanted_write s k ≢ None → (is_among k waiting ≡ true) ⊎ (is_among k again ≡ true) ⊎ IsHeldWell s hands k

-- the key wants the same write on the same guards in both states, or none in either
abbrev pub IsSameFor : State → State → Key → Type 0
IsSameFor s t k = (wanted_write s k ≡ wanted_write t k) × (wanted_write s k ≢ None → guards_of s k ≡ guards_of t k)
