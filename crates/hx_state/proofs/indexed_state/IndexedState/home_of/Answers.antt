use Rattle.std.proofs.Common.{Some, option_map, ap, sym, ◌∙◌}
use Rattle.std.specs.Prelude.{option_copied}
use Rattle.hx_model.specs.Tree.{subnamespace_parent}
use Rattle.hx_model.specs.declared.node.Node.{Node}
use Rattle.hx_model.proofs.Planting.{home_of_hierarchy}
use Rattle.hx_state.proofs.indexed_state.IndexedState.home_of.Goals as goal

pub returns-in-Some : goal.returns-in-Some
returns-in-Some c = λ is.
    ap Some c.as_ref.ensures.value
    ∙ ap (option_map (λ (node : Node). node.parent)) (sym (ap option_copied c.in-Some.is) ∙ c.node_near.ensures)
    ∙ c.owners.ensures.tells c.args.id.now.ns
    ∙ ap (option_map subnamespace_parent) (sym (home_of_hierarchy c.args.self.now.state.objects c.args.id.now is))

pub returns-in-None : goal.returns-in-None
returns-in-None c = λ is.
    ap (option_map (λ (node : Node). node.parent)) (sym (ap option_copied c.in-None.is) ∙ c.node_near.ensures)
    ∙ c.owners.ensures.tells c.args.id.now.ns
    ∙ ap (option_map subnamespace_parent) (sym (home_of_hierarchy c.args.self.now.state.objects c.args.id.now is))
