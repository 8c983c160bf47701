-- What counts against the limits of a store.
--     is_copy        the object is a copy, which reconcilers write
--     counts         an object that counts: neither a namespace nor a HierarchyConfiguration nor a copy
--     objects_in, bytes_in   how many objects count;  and the sum of their sizes
--     names_in       how many names namespaces and anchors have
--     part_of        what an object adds to such a number, where there is one
use Rattle.std.specs.Prelude.{ℕ, ◌+◌, ◌-◌, ◌^◌, Bool, not, ◌&&◌, ◌||◌, List, [], ◌∷◌, filter, map, sum_by, is_some, is_none, Option, if◌then◌else◌}
use Rattle.std.specs.Option.{option_map_or}
use Rattle.std.specs.List.{list_any}
use Rattle.std.specs.Str.{bytes_eq}
pub use Rattle.hx_object.specs.Kinds.{is_namespace, is_hierarchy, is_anchor, can_be_copied}
use Rattle.hx_object.specs.Pairs.{value_of}
use Rattle.hx_object.specs.Sizes.{size_of}
use Rattle.hx_object.specs.WellKnown.{inherited_from}
use Rattle.hx_object.specs.declared.object.Object.{Object}
use Rattle.hx_model.specs.State.{Objects, object_at, namespace_id}

abbrev pub most_names : ℕ
most_names = 4096

abbrev pub most_objects : ℕ
most_objects = 65536

abbrev pub most_bytes : ℕ
most_bytes = 268435456

abbrev pub greatest_version : ℕ
greatest_version = 2 ^ 63 - 1

-- ---- objects

-- a copy is told by its label
unfoldable pub is_copy : Object → Bool
is_copy x = can_be_copied x.id.kind && is_some (value_of x.labels inherited_from)

-- neither a namespace nor a HierarchyConfiguration nor a copy
unfoldable pub counts : Object → Bool
counts x = not (is_namespace x.id.kind) && (not (is_hierarchy x.id.kind) && not (is_copy x))

abbrev pub counted_one : Object → ℕ
counted_one x = if counts x then 1 else 0

abbrev pub counted_size : Object → ℕ
counted_size x = if counts x then size_of x else 0

-- what an object adds, where there is one
abbrev pub part_of : (Object → ℕ) → Option Object → ℕ
part_of f found = option_map_or f found 0

-- how many objects count
abbrev pub objects_in : Objects → ℕ
objects_in objects = sum_by counted_one objects

-- the sum of their sizes
abbrev pub bytes_in : Objects → ℕ
bytes_in objects = sum_by counted_size objects

-- ---- names

abbrev pub namespace_one : Object → ℕ
namespace_one x = if is_namespace x.id.kind then 1 else 0

-- an anchor whose name no namespace has
abbrev pub stands_alone : Objects → Object → Bool
stands_alone objects x = is_anchor x.id.kind && is_none (object_at objects (namespace_id x.id.name))

-- how many texts there are, each counted once
abbrev pub distinct_in : List (List ℕ) → ℕ
distinct_in [] = 0
distinct_in (text ∷ texts) = (if list_any (bytes_eq text) texts then 0 else 1) + distinct_in texts

-- the names of namespaces, and those that anchors alone have
abbrev pub names_in : Objects → ℕ
names_in objects = sum_by namespace_one objects + distinct_in (map (λ (x : Object). x.id.name) (filter (stands_alone objects) objects))

-- a namespace or an anchor has the name
abbrev pub is_named : Objects → List ℕ → Bool
is_named objects name = is_some (object_at objects (namespace_id name)) || list_any (λ (x : Object). is_anchor x.id.kind && bytes_eq name x.id.name) objects
