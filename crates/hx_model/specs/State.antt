-- What is stored: objects in ascending order of their identities, and the last version that was given out; and the latest events.
--     Objects, ascends   objects in ascending order of identities
--     same_id            whether two identities are one
--     object_at objects id  the object of an identity
--     put, cut           the objects with one in its place;  without one
--     objects_from       the objects in their order, of those in any order: of two with one identity the first one counts
--     State              the objects, the last version and the window of events, with what is fixed for a run: which names are excluded from trees, and whether admission may be skipped
--     opening_state      the state without objects, of a store's last version
--     restarted          the state of a start on the rows of another one
--     namespace_id       the identity of a namespace
--     home_in objects id the namespace that an identity lies in, where its kind has one
--     has_home objects id  that namespace is there, or the kind has none
--     with_version            an object with another version
--     lies_in n id, least_in objects n   an identity lies in a namespace;  the first of the objects that do
--     is_listed kind ns x     an object is of a kind, and in a namespace if one is asked for
--     events_of          what a write did, one event for each object
--     state_after        the state after a write: one new version for all that it changes, and its events
use Rattle.std.specs.Prelude.{ℕ, ◌+◌, Bool, true, false, not, ◌&&◌, ◌||◌, ◌==◌, is_some, List, [], ◌∷◌, ◌++◌, filter, find, flat_map, Option, Some, None, option_and_then, option_map, if◌then◌else◌}
use Rattle.std.specs.Option.{option_map_or, option_to_list}
use Rattle.std.specs.Ordering.{is_lt}
use Rattle.std.specs.Str.{bytes_eq}
use Rattle.std.specs.FinMap.Entries.{by_order}
use Rattle.hx_object.specs.Kinds.{number_of, is_in_cluster}
use Rattle.hx_object.specs.Order.{id_cmp}
use Rattle.hx_object.specs.declared.kind.Kind.{Kind}
use Rattle.hx_object.specs.declared.kind.Kind.TheVariants.{Namespace}
use Rattle.hx_object.specs.declared.object.Id.{Id}
use Rattle.hx_object.specs.declared.object.Object.{Object}
use Rattle.hx_model.specs.declared.config.RunConfig.{RunConfig}
use Rattle.hx_model.specs.declared.event.Event.{Event}
use Rattle.hx_model.specs.declared.event.What.{What}
use Rattle.hx_model.specs.declared.event.What.TheVariants.{Added, Changed, Removed}
use Rattle.hx_model.specs.declared.key.Write.{Write}
use Rattle.hx_model.specs.declared.key.Write.TheVariants.{Put, Cut}
use Rattle.hx_model.specs.Windows.{WindowView, most_events, opened, with_events}

abbrev pub Objects : Type 0
Objects = List Object

-- two identities are one
abbrev pub same_id : Id → Id → Bool
same_id a b = (number_of a.kind == number_of b.kind) && bytes_eq a.ns b.ns && bytes_eq a.name b.name

-- the object of an identity, where it is there
abbrev pub object_at : Objects → Id → Option Object
object_at objects id = find (λ x. same_id id x.id) objects

-- the object in its place, instead of one of its identity
abbrev pub put : Object → Objects → Objects
put x [] = x ∷ []
put x (y ∷ objects) = by_order (id_cmp x.id y.id) (x ∷ y ∷ objects) (x ∷ objects) (y ∷ put x objects)

-- the objects without the one of an identity
abbrev pub cut : Id → Objects → Objects
cut id objects = filter (λ x. not (same_id id x.id)) objects

-- an identity is less than those of all objects
abbrev pub is_below_all : Id → Objects → Bool
is_below_all id [] = true
is_below_all id (y ∷ objects) = is_lt (id_cmp id y.id) && is_below_all id objects

-- each identity is less than those after it
abbrev pub ascends : Objects → Bool
ascends [] = true
ascends (x ∷ objects) = is_below_all x.id objects && ascends objects

-- the objects in their order, of those in any order
abbrev pub objects_from : List Object → Objects
objects_from [] = []
objects_from (x ∷ xs) = put x (objects_from xs)

pub record State : Type 0 where
  pub objects : Objects
  pub last : ℕ
  pub config : RunConfig
  pub window : WindowView

-- no objects, and no event yet
abbrev pub opening_state : RunConfig → ℕ → State
opening_state config last = record { objects = []; last = last; config = config; window = opened last }

-- the objects and the version, and no event yet: what a start makes of the rows of a state
abbrev pub restarted : RunConfig → State → State
restarted config s = record s { config = config; window = opened s.last }

-- the identity of a namespace
abbrev pub namespace_id : List ℕ → Id
namespace_id name = record { kind = Namespace; ns = []; name = name }

-- the identity of the namespace that an identity lies in
abbrev pub home_id : Id → Option Id
home_id id = if is_in_cluster id.kind then None else Some (namespace_id id.ns)

-- that namespace, where it is there
abbrev pub home_in : Objects → Id → Option Object
home_in objects id = option_and_then (object_at objects) (home_id id)

-- that namespace is there, or the identity is of a kind that lies in none
abbrev pub has_home : Objects → Id → Bool
has_home objects id = is_in_cluster id.kind || is_some (home_in objects id)

-- an identity lies in a namespace
abbrev pub lies_in : List ℕ → Id → Bool
lies_in n id = not (is_in_cluster id.kind) && bytes_eq n id.ns

-- the first object that lies in a namespace
abbrev pub least_in : Objects → List ℕ → Option Object
least_in objects n = find (λ (x : Object). lies_in n x.id) objects

-- the object is of the kind and lies in the namespace, if one is asked for
abbrev pub is_listed : Kind → Option (List ℕ) → Object → Bool
is_listed kind ns x = (number_of kind == number_of x.id.kind) && option_map_or (bytes_eq x.id.ns) ns true

-- the object with another version
abbrev pub with_version : Object → ℕ → Object
with_version x version = record x { version = version }

-- the objects after changes, the first one first
abbrev pub after_writes : List Write → Objects → Objects
after_writes [] objects = objects
after_writes (Put x ∷ writes) objects = after_writes writes (put x objects)
after_writes (Cut id ∷ writes) objects = after_writes writes (cut id objects)

-- ---- events

-- an object is put where none of its identity is, or in the place of one
abbrev pub what_of : Bool → What
what_of true = Changed
what_of false = Added

-- what a write does to the object of its identity: it is told as it is stored, or as it was stored last, under the version of the write
abbrev pub event_by : Objects → ℕ → Write → List Event
event_by objects version (Put x) = (record { version = version; what = what_of (is_some (object_at objects x.id)); object = x }) ∷ []
event_by objects version (Cut id) = option_to_list (option_map (λ y. record { version = version; what = Removed; object = with_version y version }) (object_at objects id))

-- an object is put
abbrev pub is_put : Write → Bool
is_put (Put x) = true
is_put (Cut id) = false

-- what a commit does, one event for each object: of those that are put at first, and then of those that are taken away. That is the order of identities, since nothing is taken away together with others but an anchor with the namespaces that begin to leave
abbrev pub events_of : State → List Write → List Event
events_of s writes = flat_map (event_by s.objects (s.last + 1)) (filter is_put writes ++ filter (λ w. not (is_put w)) writes)

-- the state after a write. One that changes nothing takes no version, and has no event
abbrev pub state_after : State → List Write → State
state_after s [] = s
state_after s (write ∷ writes) = record s {
  objects = after_writes (write ∷ writes) s.objects;
  last = s.last + 1;
  window = with_events most_events s.window (events_of s (write ∷ writes));
}
