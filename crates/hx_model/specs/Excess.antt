-- Where an excess begins: where what is used below a namespace comes to be more than a limit of its quotas.
--     was_limited hard limit   some limits have one for the same resource that is no higher
--     hard_at objects id       the limits of the quota that an identity has
--     gets_limit objects q     a quota has a limit that is new, or lower than that of the quota in its place
--     limits_more s t a        a quota of a has such a limit in t, by what it had in s
--     gets_parent f g a        a namespace that was there comes below a by a parent that it didn't name
--     comes_below f g a n      a namespace n comes, which is a or below it
--     gives_parent f g a       such a one comes that others named as their parent
--     is_home objects n        some object lies in a namespace of this name
--     gives_home s t a         such a one comes in which objects lay: between states that are valid none does
--     may_begin_excess s t a   one of these four
--     HoldsOn s t              the limits of a namespace's quotas that hold in s hold in t, unless an excess may begin there
--     BeginsOnlyThere w es     so it is at each entry of a history
--     ExcessBeginsOnlyThere    so it is of each history
--     NoExcessByFault          and from its last state to the one that the store may hold instead
--     GivesNoHome              between states that are valid no namespace comes in which objects lay
--     bears_on_limits kind     objects of the kind make the tree or limit what is used in it
--     writes_at w e            what an entry writes
--     OthersBeginNone          an entry that writes no object of such a kind begins none
-- So no excess begins where other objects are written, where namespaces leave or part from their parents, or where a limit is raised or goes.
use Rattle.std.specs.Prelude.{◌≡◌, ℕ, Bool, true, false, not, ◌&&◌, ◌||◌, nat_le, List, [], ◌∷◌, Some}
use Rattle.std.specs.List.{list_any}
use Rattle.std.specs.Option.{option_map_or}
use Rattle.std.specs.Str.{bytes_eq}
use Rattle.hx_object.specs.Kinds.{is_namespace, is_hierarchy, is_quota}
use Rattle.hx_object.specs.declared.kind.Kind.{Kind}
use Rattle.hx_object.specs.declared.object.Id.{Id}
use Rattle.hx_object.specs.declared.object.Limit.{Limit}
use Rattle.hx_object.specs.declared.object.Object.{Object}
use Rattle.hx_model.specs.Charges.{hard_of}
use Rattle.hx_model.specs.Forest.{Forest, names_of, is_there, is_child, parent_of, in_chain}
use Rattle.hx_model.specs.Hands.{hand_of}
use Rattle.hx_model.specs.Machine.{World, Entry, Request, Finished, History, IsHistory, opening_world, replay, world_after, writes_made, writes_by}
use Rattle.hx_model.specs.Overruns.{HoldsIn}
use Rattle.hx_model.specs.Quotas.{quotas_in}
use Rattle.hx_model.specs.State.{State, Objects, ascends, object_at}
use Rattle.hx_model.specs.Subnamespaces.{has_children}
use Rattle.hx_model.specs.Tree.{forest_of}
use Rattle.hx_model.specs.Valid.{IsValid}
use Rattle.hx_model.specs.Writes.{id_written}
use Rattle.hx_model.specs.declared.key.Finish.TheVariants as ending
use Rattle.hx_model.specs.declared.key.Write.{Write}
use Rattle.hx_model.specs.declared.resource.Resource.{Resource}

-- ---- limits

-- some limits have one for the same resource that is no higher
abbrev pub was_limited : List Limit → Limit → Bool
was_limited hard limit = list_any (λ (old : Limit). bytes_eq old.resource limit.resource && nat_le old.amount limit.amount) hard

-- the limits of the quota that an identity has
abbrev pub hard_at : Objects → Id → List Limit
hard_at objects id = option_map_or (λ (x : Object). hard_of x.payload) (object_at objects id) []

-- a quota has a limit that is new, or lower than that of the quota in its place among some objects
abbrev pub gets_limit : Objects → Object → Bool
gets_limit objects q = list_any (λ limit. not (was_limited (hard_at objects q.id) limit)) (hard_of q.payload)

-- some quota of a does
abbrev pub limits_more : State → State → List ℕ → Bool
limits_more s t a = list_any (gets_limit s.objects) (quotas_in t.objects a)

-- ---- namespaces

-- a namespace that was there names a parent that it didn't name, and comes below a by it
abbrev pub gets_parent : Forest → Forest → List ℕ → Bool
gets_parent f g a = list_any (λ n. is_there f n && option_map_or (λ p. not (is_child f p n) && in_chain g p a) (parent_of g n) false) (names_of g)

-- a namespace is there that wasn't, and it is a or below it
abbrev pub comes_below : Forest → Forest → List ℕ → List ℕ → Bool
comes_below f g a n = not (is_there f n) && in_chain g n a

-- others named it as their parent before it came
abbrev pub gives_parent : Forest → Forest → List ℕ → Bool
gives_parent f g a = list_any (λ n. comes_below f g a n && has_children f n) (names_of g)

-- some object lies in a namespace of this name
abbrev pub is_home : Objects → List ℕ → Bool
is_home objects n = list_any (λ (x : Object). bytes_eq n x.id.ns) objects

-- objects lay in it before it came
abbrev pub gives_home : State → State → List ℕ → Bool
gives_home s t a = list_any (λ n. comes_below (forest_of s) (forest_of t) a n && is_home s.objects n) (names_of (forest_of t))

-- ---- the law

-- from one state to another a quota of a limits more, or something comes below a
abbrev pub may_begin_excess : State → State → List ℕ → Bool
may_begin_excess s t a = limits_more s t a || (gets_parent (forest_of s) (forest_of t) a || (gives_parent (forest_of s) (forest_of t) a || gives_home s t a))

-- where the limits of the quotas of a namespace hold in s, they hold in t, unless an excess may begin there
abbrev pub HoldsOn : State → State → Type 0
HoldsOn s t = (a : List ℕ) (r : Resource) → may_begin_excess s t a ≡ false → HoldsIn s a r → HoldsIn t a r

-- so it is at each entry of a history
abbrev pub BeginsOnlyThere : World → History → Type 0
BeginsOnlyThere w [] = Unit {0}
BeginsOnlyThere w (e ∷ es) = HoldsOn w.state (world_after w e).state × BeginsOnlyThere (world_after w e) es

-- so it is of each history, whether its entries are legal or not
abbrev pub ExcessBeginsOnlyThere : Type 0
ExcessBeginsOnlyThere = (broken : Bool) (s : State) (es : History) → ascends s.objects ≡ true → BeginsOnlyThere (opening_world broken s) es

-- so it is where a fault of the store made its state uncertain: from the last state of a history to the one that the store may hold instead
abbrev pub NoExcessByFault : Type 0
NoExcessByFault =
    (broken : Bool) (s : State) (es : History) (t : State) → ascends s.objects ≡ true → IsHistory (opening_world broken s) es → (replay (opening_world broken s) es).torn ≡ Some t
    → HoldsOn (replay (opening_world broken s) es).state t

-- between states that are valid no namespace comes in which objects lay
abbrev pub GivesNoHome : Type 0
GivesNoHome = (s t : State) (a : List ℕ) → IsValid s → IsValid t → gives_home s t a ≡ false

-- ---- kinds of objects

-- objects of the kind make the tree or limit what is used in it
abbrev pub bears_on_limits : Kind → Bool
bears_on_limits kind = is_namespace kind || (is_hierarchy kind || is_quota kind)

-- what an entry writes: a request that isn't refused, and a worker's turn that ends so
abbrev pub writes_at : World → Entry → List Write
writes_at w (Request ask answer) = writes_made w.state ask
writes_at w (Finished worker (ending.Written version)) = writes_by w.state (hand_of worker w.hands)
writes_at w _ = []

-- an entry that writes no object of such a kind begins none
abbrev pub OthersBeginNone : Type 0
OthersBeginNone =
    (w : World) (e : Entry) (a : List ℕ) → ascends w.state.objects ≡ true → list_any (λ (write : Write). bears_on_limits (id_written write).kind) (writes_at w e) ≡ false
    → may_begin_excess w.state (world_after w e).state a ≡ false
