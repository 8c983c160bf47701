-- Which quotas a write makes wait: those of the subtrees whose sums it may change.
--     usage_keys objects n, usage_of objects names   the keys of the quotas in a namespace;  in some namespaces
--     created_usage          a namespace is made
--     removed_usage          a namespace goes
--     moved_usage            a namespace gets another parent
--     is_charged_anew        what an object is charged of some resource changes
--     charged_usage          such an object is written or removed
--     usage_marks            by what is written. A namespace that is replaced has its quotas among its own keys
-- All is read off the state before the write. What a subtree uses changes only where a charge in it does, or where it takes in objects or gives some away.
use Rattle.std.specs.Prelude.{ℕ, Bool, false, not, nat_eq, List, [], ◌∷◌, filter, flat_map, map, Option, Some, None, option_and_then, if◌then◌else◌}
use Rattle.std.specs.List.{list_any}
use Rattle.std.specs.Option.{option_map_or}
use Rattle.std.specs.Str.{bytes_eq}
use Rattle.hx_object.specs.Kinds.{is_hierarchy, is_namespace, is_quota}
use Rattle.hx_object.specs.declared.kind.Kind.TheVariants.{HierarchicalResourceQuota}
use Rattle.hx_object.specs.declared.object.Id.{Id}
use Rattle.hx_object.specs.declared.object.Limit.{Limit}
use Rattle.hx_object.specs.declared.object.Object.{Object}
use Rattle.hx_model.specs.Answers.{is_listed}
use Rattle.hx_model.specs.Cases.{same_name}
use Rattle.hx_model.specs.Charges.{all_resources, hard_of, resource_named}
use Rattle.hx_model.specs.Forest.{parent_of, children_of, chain_of, tail_of}
use Rattle.hx_model.specs.Moves.{chain_from, up_to}
use Rattle.hx_model.specs.Quotas.{charge_before, quotas_for}
use Rattle.hx_model.specs.State.{State, Objects, object_at, namespace_id}
use Rattle.hx_model.specs.Tree.{hierarchy, hierarchy_id, forest_of, parent_with}
use Rattle.hx_model.specs.declared.key.Key.{Key}
use Rattle.hx_model.specs.declared.key.Key.TheVariants as key
use Rattle.hx_model.specs.declared.resource.Resource.{Resource}
use Rattle.hx_marks.specs.Below.{in_one}
use Rattle.hx_marks.specs.Reports.{has_any}

-- ---- keys

-- the key of a quota
abbrev pub usage_key : Object → Key
usage_key q = key.Used q.id.ns q.id.name

-- the keys of the quotas in a namespace
abbrev pub usage_keys : Objects → List ℕ → List Key
usage_keys objects n = map usage_key (filter (is_listed HierarchicalResourceQuota (Some n)) objects)

abbrev pub usage_of : Objects → List (List ℕ) → List Key
usage_of objects names = flat_map (usage_keys objects) names

-- ---- the tree

-- A namespace is made under a parent: what waited for it below comes below what is above it
abbrev pub created_usage : State → List ℕ → Option (List ℕ) → List Key
created_usage s n parent = if has_any (children_of (forest_of s) n) then usage_of s.objects (chain_from (forest_of s) parent) else []

-- A namespace goes, in which nothing lies: what is below it is no more below what was above it
abbrev pub removed_usage : State → List ℕ → List Key
removed_usage s n = if has_any (children_of (forest_of s) n) then usage_of s.objects (tail_of (chain_of (forest_of s) n)) else []

-- A namespace gets a parent: its subtree leaves what was above it, and comes below what is above it then. What both chains share goes on having it. Where the parent stays, nothing changes
abbrev pub moved_usage : State → List ℕ → Option (List ℕ) → List Key
moved_usage s n parent =
    if same_name (parent_of (forest_of s) n) parent
    then []
    else usage_of s.objects (in_one (tail_of (chain_of (forest_of s) n)) (up_to n (chain_from (forest_of s) parent)))

-- ---- objects

-- what is charged of a resource changes
abbrev pub is_recharged : Option Object → Option Object → Resource → Bool
is_recharged old new r = not (nat_eq (charge_before old r) (charge_before new r))

-- that of some resource does
abbrev pub is_charged_anew : Option Object → Option Object → Bool
is_charged_anew old new = list_any (is_recharged old new) all_resources

-- a limit is of a resource of which it does
abbrev pub is_limit_of : Option Object → Option Object → Limit → Bool
is_limit_of old new limit = option_map_or (is_recharged old new) (resource_named limit.resource) false

-- so is one of a quota
abbrev pub counts_change : Option Object → Option Object → Object → Bool
counts_change old new q = list_any (is_limit_of old new) (hard_of q.payload)

-- An object that is charged comes, goes, or is replaced: the quotas of its namespace and of those above that limit what changes
abbrev pub charged_usage : State → List ℕ → Option Object → Option Object → List Key
charged_usage s n old new = if is_charged_anew old new then map usage_key (filter (counts_change old new) (quotas_for s n)) else []

-- ---- writes

-- a namespace that was there, or wasn't, and is there then, or isn't
abbrev pub namespace_usage : State → List ℕ → Option Object → Option Object → List Key
namespace_usage s n (Some old) (Some x) = []
namespace_usage s n (Some old) None = removed_usage s n
namespace_usage s n None (Some x) = created_usage s n (parent_with (object_at s.objects (hierarchy_id n)) x)
namespace_usage s n None None = []

-- the HierarchyConfiguration of a namespace is written or removed
abbrev pub hierarchy_usage : State → Id → Option Object → List Key
hierarchy_usage s id new = if bytes_eq id.name hierarchy then moved_usage s id.ns (option_and_then (parent_with new) (object_at s.objects (namespace_id id.ns))) else []

-- by what is written
abbrev pub usage_marks : State → Id → Option Object → Option Object → List Key
usage_marks s id old new =
    if is_namespace id.kind then namespace_usage s id.name old new else (
    if is_hierarchy id.kind then hierarchy_usage s id new else (
    if is_quota id.kind then key.Used id.ns id.name ∷ [] else charged_usage s id.ns old new))
