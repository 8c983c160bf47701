-- Sources that copies would overwrite.
--     labels_at s n          the labels that a namespace is to have by its place in the tree
--     is_overwritten s id    a source lies in a namespace that takes part, and a source from above goes to its place
--     with_written s id new  the state with the object of an identity written, or removed
--     makes_conflict s t     some source is overwritten in t, and wasn't in s
use Rattle.std.specs.Prelude.{ℕ, Bool, not, ◌&&◌, List, [], is_some, Option, Some, None}
use Rattle.std.specs.List.{list_any}
use Rattle.std.specs.Option.{option_map_or}
use Rattle.hx_object.specs.declared.object.Id.{Id}
use Rattle.hx_object.specs.declared.object.Object.{Object}
use Rattle.hx_model.specs.Forest.{chain_of}
use Rattle.hx_model.specs.Propagation.{source_at, top_source}
use Rattle.hx_model.specs.State.{State, Objects, object_at, namespace_id, put, cut}
use Rattle.hx_model.specs.Tree.{forest_of}
use Rattle.hx_model.specs.TreeLabels.{is_open, prescribed_labels}

-- the labels that a namespace is to have by its place in the tree, whatever it has now
abbrev pub labels_at : State → List ℕ → List (List ℕ × List ℕ)
labels_at s n = prescribed_labels (chain_of (forest_of s) n) (option_map_or (λ (x : Object). x.labels) (object_at s.objects (namespace_id n)) [])

-- a source lies in a namespace that takes part, and a source from above goes to its place
abbrev pub is_overwritten : State → Id → Bool
is_overwritten s id = is_open (forest_of s) id.ns && (is_some (source_at s.objects id) && is_some (top_source s id.ns id.kind id.name (labels_at s id.ns)))

-- the objects with that of an identity written, under whatever version, or removed
abbrev pub written_in : Id → Option Object → Objects → Objects
written_in id None objects = cut id objects
written_in id (Some x) objects = put x objects

abbrev pub with_written : State → Id → Option Object → State
with_written s id new = record s { objects = written_in id new s.objects }

-- some source is overwritten in the state after a write that wasn't in the state before it
abbrev pub makes_conflict : State → State → Bool
makes_conflict s t = list_any (λ (x : Object). is_overwritten t x.id && not (is_overwritten s x.id)) t.objects
