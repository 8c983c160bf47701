-- The tree of a state, read off its objects.
--     hierarchy_id n            the identity of a namespace's HierarchyConfiguration
--     subnamespace_parent       the annotation by which a subnamespace names its parent
--     parent_with found x       the parent of a namespace: by its annotation, else by its HierarchyConfiguration, which is this one or none
--     parent_in objects x       the same, by the HierarchyConfiguration that it has
--     forest_in, forest_of      the nodes of all namespaces
-- The annotation and the HierarchyConfiguration are those of the HNC user guide.
use Rattle.std.specs.Prelude.{ℕ, Bool, false, List, map, filter, Option, None, option_and_then}
use Rattle.hx_object.specs.Pairs.{value_of}
pub use Rattle.hx_object.specs.WellKnown.{hierarchy}
use Rattle.hx_object.specs.WellKnown.{subnamespace_of}
use Rattle.hx_object.specs.declared.kind.Kind.TheVariants.{HierarchyConfiguration}
use Rattle.hx_object.specs.declared.object.Id.{Id}
use Rattle.hx_object.specs.declared.object.Object.{Object}
use Rattle.hx_object.specs.declared.object.Payload.{Payload}
use Rattle.hx_object.specs.declared.object.Payload.TheVariants.{Namespace as NamespaceOf, Hierarchy}
use Rattle.hx_model.specs.First.{or_else}
use Rattle.hx_model.specs.Forest.{Forest, is_in}
use Rattle.hx_model.specs.Limits.{is_namespace}
use Rattle.hx_model.specs.State.{State, Objects, object_at}
use Rattle.hx_model.specs.declared.node.Node.{Node}

abbrev pub hierarchy_id : List ℕ → Id
hierarchy_id n = record { kind = HierarchyConfiguration; ns = n; name = hierarchy }

-- the parent that a subnamespace's annotation names
abbrev pub subnamespace_parent : Object → Option (List ℕ)
subnamespace_parent x = value_of x.annotations subnamespace_of

-- the parent that a HierarchyConfiguration names
abbrev pub spec_parent : Payload → Option (List ℕ)
spec_parent (Hierarchy parent cascade children conditions) = parent
spec_parent _ = None

abbrev pub named_parent : Object → Option (List ℕ)
named_parent x = spec_parent x.payload

abbrev pub is_terminating : Payload → Bool
is_terminating (NamespaceOf terminating) = terminating
is_terminating _ = false

-- by its annotation, else by its HierarchyConfiguration, where it has one
abbrev pub parent_with : Option Object → Object → Option (List ℕ)
parent_with found x = or_else (subnamespace_parent x) (option_and_then named_parent found)

abbrev pub parent_in : Objects → Object → Option (List ℕ)
parent_in objects x = parent_with (object_at objects (hierarchy_id x.id.name)) x

-- the node of a namespace, where these names are excluded
abbrev pub node_in : List (List ℕ) → Objects → Object → Node
node_in excluded objects x = record { parent = parent_in objects x; terminating = is_terminating x.payload; excluded = is_in x.id.name excluded }

abbrev pub namespaces_in : Objects → Objects
namespaces_in objects = filter (λ (x : Object). is_namespace x.id.kind) objects

-- the nodes of all namespaces
abbrev pub forest_in : List (List ℕ) → Objects → Forest
forest_in excluded objects = map (λ (x : Object). (x.id.name, node_in excluded objects x)) (namespaces_in objects)

abbrev pub forest_of : State → Forest
forest_of s = forest_in s.config.excluded s.objects
