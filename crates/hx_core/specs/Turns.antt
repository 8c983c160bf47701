-- The entries that workers' calls make.
--     IsSince old s         a state that the other one became, or the same: what had a version then is as it was, and what was on its way out and empty stays empty
--     IsOf s hand           a hand was taken in a state that became this one
--     take_entry, take_key_entry      the entry of a take, by its answer
--     IsInHand, IsOfKey     the worker has what it took;  it is the key that was named
--     IsPlanOf              a plan is of what a worker holds, or the worker holds nothing
--     turns_entries, end_entries      the entries of a settle, by its trace and its end
--     entries_of             those of a turn of a settle, or of its end where there is none
--     loss_in, loss_of      how a turn that was lost ends a settle;  how the last one does
--     LoseLast              no turn but the last was lost
--     IfOver, IsOver        a fact for a settle that makes no turn more;  why there is none, while it may make one
--     IsLeft                how it ends that way, by how many keys wait and are held
--     IsSettleEnd           when a settle ends so
use Rattle.std.specs.Prelude.{◌≡◌, ◌≢◌, ◌≤◌, ◌⊎◌, ℕ, true, false, List, [], ◌∷◌, flat_map, length, Option, Some, None, IfSome}
use Rattle.hx_object.specs.declared.object.Id.{Id}
use Rattle.hx_object.specs.declared.object.Object.{Object}
use Rattle.hx_model.specs.Hands.{Hand, hand_at, hand_of}
use Rattle.hx_model.specs.Machine.{Entry, History, Took, Idle, Already, HeldBy, LostTake, Finished, Checked}
use Rattle.hx_model.specs.Serving.{IsServed}
use Rattle.hx_model.specs.State.{State, least_in, namespace_id, object_at}
use Rattle.hx_model.specs.Tree.{is_terminating}
use Rattle.hx_model.specs.Valid.{IsValid}
use Rattle.hx_model.specs.declared.key.Finish.{Finish}
use Rattle.hx_model.specs.declared.key.Finish.TheVariants as ending
use Rattle.hx_model.specs.declared.key.Key.{Key}
use Rattle.hx_model.specs.declared.key.Write.TheVariants.{Put}
use Rattle.hx_reconcile.specs.Briefs.{Planned, hand_by}
use Rattle.hx_core.specs.declared.turns.Settle.{Settle}
use Rattle.hx_core.specs.declared.turns.Settle.TheVariants as settled
use Rattle.hx_core.specs.declared.turns.Take.{Take}
use Rattle.hx_core.specs.declared.turns.Take.TheVariants as take
use Rattle.hx_core.specs.declared.turns.Turn.{Turn}
use Rattle.hx_core.specs.declared.turns.Turn.TheVariants as turn
use Rattle.hx_core.specs.declared.turns.Turned.{Turned}
use Rattle.hx_queue.specs.Workers.{WorkersView}

-- ---- what was taken before

-- A state that came of another one: what had a version then, and is there, is as it was. A namespace that was on its way out, and in which nothing lay, stays empty for as long as it is there
pub record IsSince (old s : State) : Type 0 where
  pub later : old.last ≤ s.last
  pub same : old.last ≡ s.last → old ≡ s
  pub config : s.config ≡ old.config
  pub kept : (id : Id) (x : Object) → object_at s.objects id ≡ Some x → x.version ≤ old.last → object_at old.objects id ≡ Some x
  pub shut : (n : List ℕ) (x : Object) → object_at s.objects (namespace_id n) ≡ Some x → x.version ≤ old.last → is_terminating x.payload ≡ true → least_in old.objects n ≡ None → least_in s.objects n ≡ None

-- a hand was taken in a valid state that this one came of, and what it puts may be stored
pub record IsOf (s : State) (hand : Hand) : Type 0 where
  pub then : State
  pub valid : IsValid then
  pub since : IsSince then s
  pub is : hand ≡ hand_at then hand.worker hand.key
  pub storable : (x : Object) → hand.write ≡ Some (Put x) → IsServed x

-- ---- takes

-- the entry of a take whose line names no key. Another worker's hold isn't met by one
abbrev pub take_entry : ℕ → Take → Entry
take_entry worker (take.Job brief) = Took worker brief.key false
take_entry worker take.Idle = Idle worker
take_entry worker (take.Already brief) = Already worker brief.key
take_entry worker (take.Other holder) = LostTake worker
take_entry worker take.NoMemory = LostTake worker

-- of one whose line names a key. It isn't idle
abbrev pub take_key_entry : ℕ → Key → Take → Entry
take_key_entry worker k (take.Job brief) = Took worker k true
take_key_entry worker k take.Idle = LostTake worker
take_key_entry worker k (take.Already brief) = Already worker brief.key
take_key_entry worker k (take.Other holder) = HeldBy worker k holder
take_key_entry worker k take.NoMemory = LostTake worker

-- the worker has it in hand
abbrev pub IsInHand : List Hand → ℕ → Take → Type 0
IsInHand hands worker (take.Job brief) = hand_of worker hands ≡ Some (hand_by worker brief)
IsInHand hands worker (take.Already brief) = hand_of worker hands ≡ Some (hand_by worker brief)
IsInHand hands worker answer = Unit {0}

-- a key that is named is the one that is taken
abbrev pub IsOfKey : Key → Take → Type 0
IsOfKey k (take.Job brief) = brief.key ≡ k
IsOfKey k answer = Unit {0}

-- ---- finishes

-- a plan is of what a worker holds, or the worker holds nothing
abbrev pub IsPlanOf : List Hand → ℕ → Planned → Type 0
IsPlanOf hands worker plan = IfSome (hand_of worker hands) (λ hand. hand ≡ hand_by worker plan.brief)

-- ---- settling

-- a turn of worker 0
abbrev pub turn_entries : Turned → History
turn_entries turned = Took 0 turned.key false ∷ Finished 0 turned.end ∷ []

abbrev pub turns_entries : List Turned → History
turns_entries turns = flat_map turn_entries turns

-- what its end says beside the turns: how many keys wait and are held, or that a take was lost. One that ends at a spent version or a fault says it by its last turn
abbrev pub end_entries : Settle → History
end_entries settled.Settled = Checked 0 0 ∷ []
end_entries (settled.Unsettled waiting held) = Checked waiting held ∷ []
end_entries settled.Spent = []
end_entries settled.Fault = []
end_entries settled.NoMemory = LostTake 0 ∷ []

-- of what a settle came to where it was to make a turn
abbrev pub entries_of : Turn → History
entries_of (turn.Made turned) = turn_entries turned
entries_of (turn.Over end) = end_entries end

-- how a turn that was lost ends a settle
abbrev pub loss_in : Finish → Option Settle
loss_in ending.Spent = Some settled.Spent
loss_in ending.Fault = Some settled.Fault
loss_in ending.NoMemory = Some settled.NoMemory
loss_in _ = None

-- how the last turn does, where it was lost
abbrev pub loss_of : List Turned → Option Settle
loss_of [] = None
loss_of (turned ∷ []) = loss_in turned.end
loss_of (turned ∷ next ∷ turns) = loss_of (next ∷ turns)

-- no turn but the last was lost
abbrev pub LoseLast : List Turned → Type 0
LoseLast [] = Unit {0}
LoseLast (turned ∷ []) = Unit {0}
LoseLast (turned ∷ next ∷ turns) = (loss_in turned.end ≡ None) × LoseLast (next ∷ turns)

-- a fact for a settle that makes no turn more
abbrev pub IfOver : Turn → (Settle → Type 0) → Type 0
IfOver (turn.Made turned) P = Unit {0}
IfOver (turn.Over end) P = P end

-- why it makes none, while it may make one: no key waits, or memory is wanting
abbrev pub IsOver : WorkersView → Settle → Type 0
IsOver v settled.Settled = (v.waiting ≡ []) × (v.hands ≡ [])
IsOver v (settled.Unsettled waiting held) = (waiting ≡ length v.waiting) × (held ≡ length v.hands) × (v.waiting ≡ []) × (v.hands ≢ [])
IsOver v settled.NoMemory = Unit {0}
IsOver v _ = ⊥

-- how it ends that makes no turn more, by how many keys wait and are held
abbrev pub IsLeft : WorkersView → Settle → Type 0
IsLeft v settled.Settled = (v.waiting ≡ []) × (v.hands ≡ [])
IsLeft v (settled.Unsettled waiting held) = (waiting ≡ length v.waiting) × (held ≡ length v.hands) × ((v.waiting ≢ []) ⊎ ((v.waiting ≡ []) × (v.hands ≢ [])))
IsLeft v _ = ⊥

-- A settle of at most so many turns ends by its last turn, where that was lost. Else it ends where no key waits or is held; or the turns are used up and keys wait, or none waits and some are held; or for want of memory
abbrev pub EndsBy : Option Settle → ℕ → List Turned → WorkersView → Settle → Type 0
EndsBy (Some loss) most turns v end = end ≡ loss
EndsBy None most turns v settled.Settled = (v.waiting ≡ []) × (v.hands ≡ [])
EndsBy None most turns v (settled.Unsettled waiting held) = (waiting ≡ length v.waiting) × (held ≡ length v.hands) × (((length turns ≡ most) × (v.waiting ≢ [])) ⊎ ((v.waiting ≡ []) × (v.hands ≢ [])))
EndsBy None most turns v settled.NoMemory = Unit {0}
EndsBy None most turns v _ = ⊥

-- the end of a settle, by the turns that it made and by what waits then
pub record IsSettleEnd (most : ℕ) (turns : List Turned) (v : WorkersView) (end : Settle) : Type 0 where
  pub few : length turns ≤ most
  pub whole : LoseLast turns
  pub ends : EndsBy (loss_of turns) most turns v end
