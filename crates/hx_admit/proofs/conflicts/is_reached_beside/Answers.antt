use Rattle.std.proofs.Common.{◌≡◌, ◌∙◌, ap}
use Rattle.std.specs.List.{list_any}
use Rattle.hx_model.specs.Forest.{chain_of, tail_of}
use Rattle.hx_model.specs.Tree.{forest_of}
use Rattle.hx_admit.specs.Conflicting.{goes_beside}
use Rattle.hx_admit.proofs.Conflicting.{stepped}
use Rattle.hx_admit.proofs.conflicts.is_reached_beside.Goals as goal

pub returns : goal.returns
returns c =
    let is : list_any (goes_beside c.args.state.now.state c.args.home.now c.args.ns.now c.args.kind c.args.name.now) c.next-itself.new.self ≡ list_any (goes_beside c.args.state.now.state c.args.home.now c.args.ns.now c.args.kind c.args.name.now) (tail_of (chain_of (forest_of c.args.state.now.state) c.args.ns.now)) =
    ap (list_any (goes_beside c.args.state.now.state c.args.home.now c.args.ns.now c.args.kind c.args.name.now)) (stepped (λ x. x.now) c.ancestors-above.result c.next-itself.new.self c.next-itself.result c.next-itself.ensures.steps ∙ ap tail_of c.ancestors-above.ensures ∙ ap (λ f. tail_of (chain_of f c.args.ns.now)) c.forest.ensures) in
    rw (← is) c.any_beside.ensures
