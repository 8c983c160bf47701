-- Whether the namespace of an object is there.
--     home_node        a namespace is there where the tree has it
use Rattle.std.proofs.Common.{◌≡◌, Bool, true, false, ◌||◌, None, Some, refl, sym, ap, ◌∙◌}
use Rattle.std.specs.Prelude.{is_some, if◌then◌else◌, option_and_then}
use Rattle.std.specs.List.{AllByRecursion}
use Rattle.hx_object.specs.Kinds.{is_in_cluster}
use Rattle.hx_object.specs.declared.object.Id.{Id}
use Rattle.hx_model.specs.Forest.{Forest, is_there}
use Rattle.hx_model.specs.Serving.{IsServed}
use Rattle.hx_model.specs.State.{Objects, object_at, namespace_id, has_home}
use Rattle.hx_model.specs.Tree.{forest_in}
use Rattle.hx_model.specs.declared.config.RunConfig.{RunConfig}
use Rattle.hx_model.proofs.Planting.{there-objects}

-- a namespace is there where the tree has it
pub home_node : (config : RunConfig) (rows : Objects) (nodes : Forest) (id : Id) → AllByRecursion IsServed rows → nodes ≡ forest_in config.excluded rows → has_home rows id ≡ (is_in_cluster id.kind || is_there nodes id.ns)
home_node config rows nodes id served planted =
    by (is_in_cluster id.kind) ∙ ap (λ f. is_in_cluster id.kind || is_there f id.ns) (sym planted)
  where
    by : (b : Bool) → (b || is_some (option_and_then (object_at rows) (if b then None else Some (namespace_id id.ns)))) ≡ (b || is_there (forest_in config.excluded rows) id.ns)
    by true = refl
    by false = sym (there-objects config.excluded rows id.ns served)
