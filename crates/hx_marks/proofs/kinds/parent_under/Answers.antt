use Rattle.std.proofs.Common.{ℕ, List, Option, Some, None, option_map, ap, sym, ◌∙◌}
use Rattle.std.specs.Prelude.{option_and_then, option_copied}
use Rattle.hx_model.specs.First.{or_else}
use Rattle.hx_model.specs.State.{object_at, namespace_id}
use Rattle.hx_model.specs.Tree.{named_parent}
use Rattle.hx_model.specs.declared.node.Node.{Node}
use Rattle.hx_marks.proofs.Owning.{parent_told}
use Rattle.hx_marks.proofs.kinds.parent_under.Goals as goal

pub returns-in-Some : goal.returns-in-Some
returns-in-Some c =
    c.parent_beside.ensures
    ∙ ap (λ (parent : Option (List ℕ)). or_else parent (option_and_then named_parent (option_copied c.args.new))) c.as_ref.ensures.value
    ∙ parent_told (option_copied c.args.new) (object_at c.args.current.now.store.now.objects (namespace_id c.args.name.now)) (Some c.in-Some.node.now.parent)
    (ap (option_map (λ (node : Node). node.parent)) (sym (ap option_copied c.in-Some.is) ∙ c.node_near.ensures) ∙ c.requires.owners c.args.name.now)

pub returns-in-None : goal.returns-in-None
returns-in-None c =
    parent_told (option_copied c.args.new) (object_at c.args.current.now.store.now.objects (namespace_id c.args.name.now)) None
    (ap (option_map (λ (node : Node). node.parent)) (sym (ap option_copied c.in-None.is) ∙ c.node_near.ensures) ∙ c.requires.owners c.args.name.now)
