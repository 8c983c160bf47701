-- What a write of a source marks as a whole.
--     spread_keys names id       the keys of an object's kind and name in some namespaces
--     beside_marks s id old new  what the write of an object marks besides the places of its copies
--     IsSpread s write id others    the write is of a source that is sent, and these are the other keys that it marks
--     is_beside_tree             a write is of no namespace, and of no HierarchyConfiguration
use Rattle.std.specs.Prelude.{◌≡◌, ℕ, Bool, true, not, ◌&&◌, List, ◌++◌, map, Option}
use Rattle.hx_object.specs.Kinds.{can_be_copied, is_namespace, is_hierarchy}
use Rattle.hx_object.specs.declared.object.Id.{Id}
use Rattle.hx_object.specs.declared.object.Object.{Object}
use Rattle.hx_model.specs.Moves.{mode_at}
use Rattle.hx_model.specs.State.{State, object_at}
use Rattle.hx_model.specs.Tree.{forest_of}
use Rattle.hx_model.specs.Writes.{id_written}
use Rattle.hx_model.specs.declared.key.Key.{Key}
use Rattle.hx_model.specs.declared.key.Key.TheVariants as key
use Rattle.hx_model.specs.declared.key.Write.{Write}
use Rattle.hx_marks.specs.Law.{is_any_sent, leaving_keys, object_written}
use Rattle.hx_marks.specs.Usage.{charged_usage}

-- the keys of an object's kind and name in some namespaces
abbrev pub spread_keys : List (List ℕ) → Id → List Key
spread_keys names id = map (λ (m : List ℕ). key.Copy m id.kind id.name) names

-- the removal of its namespace, and the quotas that count it
abbrev pub beside_marks : State → Id → Option Object → Option Object → List Key
beside_marks s id old new = leaving_keys (forest_of s) id.ns ++ charged_usage s id.ns old new

-- an object of a kind that can be copied is sent before or after the write, and these are the other keys that it marks
pub record IsSpread (s : State) (write : Write) (id : Id) (others : List Key) : Type 0 where
  pub whose : id ≡ id_written write
  pub copied : can_be_copied (id_written write).kind ≡ true
  pub sent : is_any_sent (mode_at s.objects (id_written write).kind) (object_at s.objects (id_written write)) (object_written write) ≡ true
  pub beside : others ≡ beside_marks s (id_written write) (object_at s.objects (id_written write)) (object_written write)

-- a write is of no namespace, and of no HierarchyConfiguration
abbrev pub is_beside_tree : Write → Bool
is_beside_tree write = not (is_namespace (id_written write).kind) && not (is_hierarchy (id_written write).kind)
