-- That nothing passes a limit but what may.
--     HoldsFor s n r           the limits of a resource hold, of all quotas that hold for what lies in a namespace
--     HoldsIn s a r            those of the quotas of one namespace do
--     object_given ask         the object that a POST or a PUT gives
--     raised_by s w r          by how much a write raises what the object in its place is charged
--     RaiseNothing s ws r      no write raises it
--     RaiseNothingBelow f s ws a r   no write in the subtree of a does
--     TakesInNone s t a        no object of s lies below a in t that didn't in s
--     IsHeldAtAdmission        after an admitted POST or PUT that raises a charge for a resource, its limits hold
--     RisesByChargesAlone      what a subtree uses rises only where it takes in an object or a write raises a charge
--     KeysRaiseNothing         what a reconciler's key wants raises no charge
--     DeletionsRaiseNothing    nor does a DELETE
--     KeepsLimits w es         at each entry of a history where what a subtree uses rises, by no object that it takes in, its limits hold afterwards
--     HoldsThroughout          each history does so
--     HoldsAfterFault          so they do in the state that the store may hold after a fault
-- So what is used comes to pass a limit only where a quota is written or a namespace with its objects comes below another.
use Rattle.std.specs.Prelude.{◌≡◌, ◌≤◌, ◌<◌, ℕ, Bool, true, List, [], ◌∷◌, Option, Some, None}
use Rattle.std.specs.List.{AllByRecursion}
use Rattle.hx_object.specs.declared.object.Id.{Id}
use Rattle.hx_object.specs.declared.object.Limit.{Limit}
use Rattle.hx_object.specs.declared.object.Object.{Object}
use Rattle.hx_model.specs.Answers.{refusal_of, writes_of}
use Rattle.hx_model.specs.Charges.{hard_of, resource_named}
use Rattle.hx_model.specs.Forest.{Forest, in_chain}
use Rattle.hx_model.specs.Hands.{writes_for}
use Rattle.hx_model.specs.Machine.{World, History, IsHistory, opening_world, replay, world_after}
use Rattle.hx_model.specs.Quotas.{quotas_in, quotas_for, used, rise_of}
use Rattle.hx_model.specs.State.{State, Objects, ascends, object_at, state_after}
use Rattle.hx_model.specs.Tree.{forest_of}
use Rattle.hx_model.specs.Wanted.{wanted_write}
use Rattle.hx_model.specs.Writes.{id_written}
use Rattle.hx_model.specs.declared.ask.Ask.{Ask}
use Rattle.hx_model.specs.declared.ask.Ask.TheVariants.{Create, Replace, Delete}
use Rattle.hx_model.specs.declared.key.Key.{Key}
use Rattle.hx_model.specs.declared.key.Write.{Write}
use Rattle.hx_model.specs.declared.key.Write.TheVariants.{Put, Cut}
use Rattle.hx_model.specs.declared.resource.Resource.{Resource}

-- ---- limits

-- a limit of a quota holds where it is of the resource: no more is used in the subtree of the quota's namespace
abbrev pub IsWithin : State → Resource → Object → Limit → Type 0
IsWithin s r q limit = resource_named limit.resource ≡ Some r → used s q.id.ns r ≤ limit.amount

-- all limits of a resource hold, of some quotas
abbrev pub AreWithin : State → Resource → Objects → Type 0
AreWithin s r quotas = AllByRecursion (λ (q : Object). AllByRecursion (IsWithin s r q) (hard_of q.payload)) quotas

-- of the quotas of n and of those of the namespaces above it
abbrev pub HoldsFor : State → List ℕ → Resource → Type 0
HoldsFor s n r = AreWithin s r (quotas_for s n)

-- of the quotas of a
abbrev pub HoldsIn : State → List ℕ → Resource → Type 0
HoldsIn s a r = AreWithin s r (quotas_in s.objects a)

-- ---- charges

-- the object that a POST or a PUT gives
abbrev pub object_given : Ask → Option Object
object_given (Create x skip) = Some x
object_given (Replace x expected skip) = Some x
object_given _ = None

-- by how much a write raises what the object in its place is charged
abbrev pub raised_by : State → Write → Resource → ℕ
raised_by s (Put x) r = rise_of (object_at s.objects x.id) x r
raised_by s (Cut id) r = 0

-- no write of some raises it
abbrev pub RaiseNothing : State → List Write → Resource → Type 0
RaiseNothing s ws r = AllByRecursion (λ w. raised_by s w r ≡ 0) ws

-- no write of some does that is of an object in the subtree of a
abbrev pub RaiseNothingBelow : Forest → State → List Write → List ℕ → Resource → Type 0
RaiseNothingBelow f s ws a r = AllByRecursion (λ w. in_chain f (id_written w).ns a ≡ true → raised_by s w r ≡ 0) ws

-- each object of s that lies below a in the tree of t does so in that of s
abbrev pub TakesInNone : State → State → List ℕ → Type 0
TakesInNone s t a = AllByRecursion (λ (x : Object). in_chain (forest_of t) x.id.ns a ≡ true → in_chain (forest_of s) x.id.ns a ≡ true) s.objects

-- ---- laws of commits

-- an admitted POST or PUT that raises what its object is charged for a resource leaves within their limits what is used of it
abbrev pub IsHeldAtAdmission : Type 0
IsHeldAtAdmission =
    (s : State) (ask : Ask) (x : Object) (r : Resource) → ascends s.objects ≡ true → object_given ask ≡ Some x → refusal_of s ask ≡ None
    → 0 < rise_of (object_at s.objects x.id) x r → HoldsFor (state_after s (writes_of s ask)) x.id.ns r

-- where the subtree of a takes in no object and no write there raises a charge, no more is used in it than before
abbrev pub RisesByChargesAlone : Type 0
RisesByChargesAlone =
    (s : State) (ws : List Write) (a : List ℕ) (r : Resource) → ascends s.objects ≡ true → TakesInNone s (state_after s ws) a
    → RaiseNothingBelow (forest_of (state_after s ws)) s ws a r → used (state_after s ws) a r ≤ used s a r

-- what a key wants in a state raises no charge, also where it is written in another one
abbrev pub KeysRaiseNothing : Type 0
KeysRaiseNothing = (s t : State) (k : Key) (r : Resource) → RaiseNothing t (writes_for t (wanted_write s k)) r

-- what a DELETE writes raises none
abbrev pub DeletionsRaiseNothing : Type 0
DeletionsRaiseNothing = (s : State) (id : Id) (skip : Bool) (r : Resource) → RaiseNothing s (writes_of s (Delete id skip)) r

-- ---- the law of histories

-- where the subtree of a uses more in t than in s, and not by an object that it takes in, the limits of its quotas hold
abbrev pub IsHeldBetween : State → State → List ℕ → Resource → Type 0
IsHeldBetween s t a r = TakesInNone s t a → used s a r < used t a r → HoldsIn t a r

-- so it is at each entry of a history, whether they are legal or not
abbrev pub KeepsLimits : World → History → Type 0
KeepsLimits w [] = Unit {0}
KeepsLimits w (e ∷ es) = ((a : List ℕ) (r : Resource) → IsHeldBetween w.state (world_after w e).state a r) × KeepsLimits (world_after w e) es

abbrev pub HoldsThroughout : Type 0
HoldsThroughout = (broken : Bool) (s : State) (es : History) → ascends s.objects ≡ true → KeepsLimits (opening_world broken s) es

-- so it is where a fault of the store made its state uncertain: from the last state of a history to the one that the store may hold instead
abbrev pub HoldsAfterFault : Type 0
HoldsAfterFault =
    (broken : Bool) (s : State) (es : History) (t : State) (a : List ℕ) (r : Resource) → ascends s.objects ≡ true → IsHistory (opening_world broken s) es
    → (replay (opening_world broken s) es).torn ≡ Some t → IsHeldBetween (replay (opening_world broken s) es).state t a r
