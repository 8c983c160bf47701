-- What writes change beside the objects.
--     planting, moving, tree_change      the change of the tree by a write
--     owning, owner_change               the change of the owners by a write
--     listed                             a change, as a list
--     LeadTo changes before after        changes that may be made one after the other, and the forest that they give
--     MayMake, MayMakeAll                what writes need of the objects that are there, whatever their versions
--     IsPlan                             the numbers, and the changes of the tree and of the owners, of some writes
use Rattle.std.specs.Prelude.{◌≡◌, ◌≤◌, true, not, ◌&&◌, List, [], ◌∷◌, length, filter, map, Option, Some, None, option_map, IfSome, if◌then◌else◌}
use Rattle.std.specs.List.{AllByRecursion, IsDistinct}
use Rattle.std.specs.Str.{bytes_eq}
use Rattle.hx_object.specs.declared.object.Id.{Id}
use Rattle.hx_object.specs.declared.object.Object.{Object}
use Rattle.hx_forest.specs.Kept.{changed_by_all, MayChangeAll}
use Rattle.hx_forest.specs.declared.change.Change.{Change as TreeChange}
use Rattle.hx_forest.specs.declared.change.Change.TheVariants.{Add, SetParent, SetTerminating, Remove}
use Rattle.hx_model.specs.First.{so}
use Rattle.hx_model.specs.Forest.{Forest}
use Rattle.hx_model.specs.Limits.{is_namespace, is_hierarchy}
use Rattle.hx_model.specs.Serving.{IsServed}
use Rattle.hx_model.specs.State.{State, ascends, object_at, same_id, home_in, after_writes}
use Rattle.hx_model.specs.Subnamespaces.{owned_node, owners_in, owners_of}
use Rattle.hx_model.specs.Tree.{hierarchy, is_terminating, parent_with, node_in, forest_in, forest_of}
use Rattle.hx_model.specs.Writes.{KeepsItsPlace, AreApart, id_written, changes_names}
use Rattle.hx_model.specs.declared.key.Write.{Write}
use Rattle.hx_model.specs.declared.key.Write.TheVariants.{Put, Cut}
use Rattle.hx_store.specs.Changes.{id_of, object_of}
use Rattle.hx_state.specs.Counting.{counts_of}
use Rattle.hx_state.specs.declared.limits.LimitCounts.{LimitCounts}

-- a namespace that wasn't there, one that begins to leave, and one that leaves
abbrev pub planting : State → Option Object → Option Object → Option TreeChange
planting s None None = None
planting s None (Some x) = Some (Add x.id.name (node_in s.config.excluded s.objects x))
planting s (Some old) (Some x) = so (is_terminating x.payload && not (is_terminating old.payload)) (SetTerminating x.id.name)
planting s (Some old) None = Some (Remove old.id.name)

-- the parent by a HierarchyConfiguration, where its namespace is there
abbrev pub moving : Id → Option Object → Option Object → Option TreeChange
moving id new home = if bytes_eq id.name hierarchy then option_map (λ x. SetParent id.ns (parent_with new x)) home else None

-- by what is there and what is there then
abbrev pub change_by : State → Id → Option Object → Option Object → Option TreeChange
change_by s id old new = if is_namespace id.kind then planting s old new else (if is_hierarchy id.kind then moving id new (home_in s.objects id) else None)

-- the change of the tree by a write
abbrev pub tree_change : State → Write → Option TreeChange
tree_change s write = change_by s (id_of write) (object_at s.objects (id_of write)) (object_of write)

-- a namespace comes or goes. One that is there keeps its annotation
abbrev pub owning : Option Object → Option Object → Option TreeChange
owning None None = None
owning None (Some x) = Some (Add x.id.name (owned_node x))
owning (Some old) (Some x) = None
owning (Some old) None = Some (Remove old.id.name)

-- the change of the owners by a write
abbrev pub owner_change : State → Write → Option TreeChange
owner_change s write = if is_namespace (id_of write).kind then owning (object_at s.objects (id_of write)) (object_of write) else None

-- a change, as a list
abbrev pub listed : Option TreeChange → List TreeChange
listed None = []
listed (Some change) = change ∷ []

-- changes that may be made one after the other, and the forest that they give
pub record LeadTo (changes : List TreeChange) (before after : Forest) : Type 0 where
  pub may : MayChangeAll changes before
  pub gives : changed_by_all changes before ≡ after

-- an object that is put is served, and a namespace that is there keeps its place; one that is cut is there
abbrev pub MayMake : State → Write → Type 0
MayMake s (Put x) = IsServed x × (is_namespace x.id.kind ≡ true → IfSome (object_at s.objects x.id) (λ old. KeepsItsPlace old x))
MayMake s (Cut id) = (x : Object) × (object_at s.objects id ≡ Some x)

-- writes that may be planned together: each may be made, none touches what another looks at, and at most one name comes or goes
pub record MayMakeAll (s : State) (ws : List Write) : Type 0 where
  pub each : AllByRecursion (MayMake s) ws
  pub distinct : IsDistinct same_id (map id_written ws)
  pub apart : AreApart (map id_written ws)
  pub naming : length (filter (changes_names s.objects) ws) ≤ 1

-- the numbers, the tree and the owners of the objects after some writes
pub record IsPlan (s : State) (writes : List Write) (counts : LimitCounts) (tree owners : List TreeChange) : Type 0 where
  pub in_order : ascends (after_writes writes s.objects) ≡ true
  pub served : AllByRecursion IsServed (after_writes writes s.objects)
  pub numbers : counts ≡ counts_of (after_writes writes s.objects)
  pub planted : LeadTo tree (forest_of s) (forest_in s.config.excluded (after_writes writes s.objects))
  pub owned : LeadTo owners (owners_of s) (owners_in (after_writes writes s.objects))
