use Rattle.std.proofs.Common.{◌≡◌, ◌++◌, List, ap, subst, ◌∙◌}
use Rattle.std.specs.Prelude.{OnOk}
use Rattle.std.specs.List.{flat_map}
use Rattle.hx_model.specs.Answers.{ending}
use Rattle.hx_model.specs.Forest.{Forest, subtree_of}
use Rattle.hx_model.specs.declared.key.Write.{Write}
use Rattle.hx_admit.specs.Removing.{ended_at}
use Rattle.hx_admit.proofs.Removing.{ended_among}
use Rattle.hx_admit.proofs.removal.push_ending.Goals as goal

pub returns : goal.returns
returns c =
    let members = c.deref.ensures.value ∙ c.in_ok-members.ensures ∙ ap (λ (f : Forest). subtree_of f c.args.name.now) c.owners.ensures.nodes in
    let ends : flat_map (ended_at c.args.state.now.state) c.deref.result.now ≡ ending c.args.state.now.state c.args.name.now =
    ap (flat_map (ended_at c.args.state.now.state)) members ∙ ended_among c.args.state.now.state c.requires c.args.name.now in
    subst (λ (ws : List Write). OnOk c.push_each_ended.result (c.push_each_ended.new.writes.items ≡ c.args.writes.now.items ++ ws)) ends c.push_each_ended.ensures
