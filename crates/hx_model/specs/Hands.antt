-- What workers hold, and which of their writes may be made.
--     Hand                 what a worker took: its key with the version, the guards and the wanted write, all as they were then
--     hand_at s worker k   the hand of a worker that takes a key now
--     hand_of worker hands the hand of a worker
--     is_held k hands      a worker holds the key
--     is_met s guard       an identity is there, or absent, as the guard says
--     may_finish s hand    the hand's write may be made: its guards are met, and where it would overwrite a source it is still wanted
use Rattle.std.specs.Prelude.{ℕ, ◌+◌, Bool, false, not, ◌&&◌, ◌||◌, ◌==◌, List, [], ◌∷◌, filter, find, is_some, Option, Some, None, option_map}
use Rattle.std.specs.List.{list_all, list_any}
use Rattle.std.specs.Option.{option_eq}
use Rattle.hx_object.specs.declared.object.Object.{Object}
use Rattle.hx_model.specs.Answers.{same_object}
use Rattle.hx_model.specs.Keys.{same_key}
use Rattle.hx_model.specs.Propagation.{source_at}
use Rattle.hx_model.specs.State.{State, object_at, same_id, with_version}
use Rattle.hx_model.specs.Wanted.{wanted_write, guards_of}
use Rattle.hx_model.specs.Writes.{id_written}
use Rattle.hx_model.specs.declared.key.Guard.{Guard}
use Rattle.hx_model.specs.declared.key.Key.{Key}
use Rattle.hx_model.specs.declared.key.Write.{Write}
use Rattle.hx_model.specs.declared.key.Write.TheVariants.{Put, Cut}

pub record Hand : Type 0 where
  pub worker : ℕ
  pub key : Key
  pub seen : ℕ
  pub guards : List Guard
  pub write : Option Write

-- the hand of a worker that takes a key in a state
abbrev pub hand_at : State → ℕ → Key → Hand
hand_at s worker k = record { worker = worker; key = k; seen = s.last; guards = guards_of s k; write = wanted_write s k }

-- ---- hands

abbrev pub hand_of : ℕ → List Hand → Option Hand
hand_of worker hands = find (λ (h : Hand). h.worker == worker) hands

abbrev pub without_hand : ℕ → List Hand → List Hand
without_hand worker hands = filter (λ (h : Hand). not (h.worker == worker)) hands

abbrev pub is_held : Key → List Hand → Bool
is_held k hands = list_any (λ (h : Hand). same_key k h.key) hands

-- ---- which writes may be made

-- an identity has the version of its guard, or isn't there where the guard has none
abbrev pub is_met : State → Guard → Bool
is_met s guard = option_eq (λ a b. a == b) (option_map (λ (x : Object). x.version) (object_at s.objects guard.id)) guard.version

abbrev pub are_met : State → List Guard → Bool
are_met s guards = list_all (is_met s) guards

-- two writes are one
abbrev pub same_write : Write → Write → Bool
same_write (Put x) (Put y) = same_object x y
same_write (Cut id) (Cut other) = same_id id other
same_write _ _ = false

-- a write that would overwrite a source is the one that its key wants
abbrev pub keeps_sources : State → Key → Write → Bool
keeps_sources s k write = not (is_some (source_at s.objects (id_written write))) || option_eq same_write (wanted_write s k) (Some write)

abbrev pub may_write : State → Hand → Write → Bool
may_write s hand write = are_met s hand.guards && keeps_sources s hand.key write

-- there is such a write
abbrev pub is_writable : State → Hand → Option Write → Bool
is_writable s hand None = false
is_writable s hand (Some write) = may_write s hand write

abbrev pub may_finish : State → Hand → Bool
may_finish s hand = is_writable s hand hand.write

-- ---- what it writes

-- a write with a version
abbrev pub versioned : ℕ → Write → Write
versioned version (Put x) = Put (with_version x version)
versioned version (Cut id) = Cut id

-- what is written for a hand: nothing, or its write with the next version
abbrev pub writes_for : State → Option Write → List Write
writes_for s None = []
writes_for s (Some write) = versioned (s.last + 1) write ∷ []
