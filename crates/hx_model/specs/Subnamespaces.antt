-- Subnamespaces: namespaces that anchors ask for, which name their parents by an annotation (HNC user guide, "Subnamespaces").
--     anchor_id n m        the identity of the anchor by which n asks for a subnamespace m
--     is_owned_by n x      a namespace's annotation names n
--     is_anchored          the parent that a namespace's annotation names holds an anchor of its name
--     owners_of s          all namespaces, each under the parent that its annotation names
--     is_reached s n m     m is in the reach of n: it is n, or its annotation names one that is
--     has_followers s n    the reach of n has others
--     cascades s n         a member of n's chain allows cascading deletion
--     has_children f n     some namespace names n as its parent
use Rattle.std.specs.Prelude.{ℕ, Bool, false, not, ◌&&◌, List, map, Some, is_some}
use Rattle.std.specs.List.{list_any}
use Rattle.std.specs.Option.{option_map_or}
use Rattle.std.specs.Str.{bytes_eq}
use Rattle.hx_object.specs.declared.kind.Kind.TheVariants.{SubnamespaceAnchor}
use Rattle.hx_object.specs.declared.object.Id.{Id}
use Rattle.hx_object.specs.declared.object.Object.{Object}
use Rattle.hx_object.specs.declared.object.Payload.{Payload}
use Rattle.hx_object.specs.declared.object.Payload.TheVariants.{Hierarchy}
use Rattle.hx_model.specs.Cases.{same_name}
use Rattle.hx_model.specs.Forest.{Forest, chain_of, in_chain, is_child, names_of}
use Rattle.hx_model.specs.Propagation.{id_in}
use Rattle.hx_model.specs.State.{State, Objects, object_at}
use Rattle.hx_model.specs.Tree.{forest_of, hierarchy_id, namespaces_in, subnamespace_parent}
use Rattle.hx_model.specs.declared.node.Node.{Node}

-- ---- anchors

-- the anchor by which n asks for a subnamespace m
abbrev pub anchor_id : List ℕ → List ℕ → Id
anchor_id n m = id_in SubnamespaceAnchor m n

-- its annotation names n
abbrev pub is_owned_by : List ℕ → Object → Bool
is_owned_by n x = same_name (subnamespace_parent x) (Some n)

-- the parent that its annotation names holds an anchor of its name
abbrev pub is_anchored : Objects → Object → Bool
is_anchored objects x = option_map_or (λ p. is_some (object_at objects (anchor_id p x.id.name))) (subnamespace_parent x) false

-- ---- what goes with a namespace

-- a namespace under the parent that its annotation names, and none else
abbrev pub owned_node : Object → Node
owned_node x = record { parent = subnamespace_parent x; terminating = false; excluded = false }

abbrev pub owners_in : Objects → Forest
owners_in objects = map (λ (x : Object). (x.id.name, owned_node x)) (namespaces_in objects)

abbrev pub owners_of : State → Forest
owners_of s = owners_in s.objects

-- m is n, or its annotation leads to it
abbrev pub is_reached : State → List ℕ → List ℕ → Bool
is_reached s n m = in_chain (owners_of s) m n

-- there are others than n
abbrev pub has_followers : State → List ℕ → Bool
has_followers s n = list_any (λ m. not (bytes_eq n m) && is_reached s n m) (names_of (owners_of s))

-- ---- what stands against a removal

abbrev pub allows_cascade : Payload → Bool
allows_cascade (Hierarchy parent cascade children conditions) = cascade
allows_cascade _ = false

-- a member of the chain allows it
abbrev pub cascades : State → List ℕ → Bool
cascades s n = list_any (λ a. option_map_or (λ (x : Object). allows_cascade x.payload) (object_at s.objects (hierarchy_id a)) false) (chain_of (forest_of s) n)

-- some namespace names it as its parent
abbrev pub has_children : Forest → List ℕ → Bool
has_children f n = list_any (is_child f n) (names_of f)
