use Rattle.std.proofs.Common.{◌≡◌, ◌∙◌, sym}
use Rattle.std.specs.List.{list_any}
use Rattle.hx_model.specs.Forest.{chain_of, tail_of}
use Rattle.hx_model.specs.Tree.{forest_of}
use Rattle.hx_admit.specs.Conflicting.{goes_down, is_reached}
use Rattle.hx_admit.proofs.Conflicting.{reached_down, unreached}
use Rattle.hx_admit.proofs.conflicts.is_reached.Goals as goal

pub returns-then-not-is_propagated : goal.returns-then-not-is_propagated
returns-then-not-is_propagated c = unreached c.args.state.now.state c.args.ns.now c.args.kind c.args.name.now c.mode-mode.result c.mode-mode.ensures (sym c.is_propagated.ensures ∙ c.if-not-is_propagated.true)

pub returns : goal.returns
returns c =
    let is : list_any (goes_down c.args.state.now.state c.mode-mode.result c.args.ns.now c.args.kind c.args.name.now) (tail_of (chain_of (forest_of c.args.state.now.state) c.args.ns.now)) ≡ is_reached c.args.state.now.state c.args.ns.now c.args.kind c.args.name.now =
    reached_down c.args.state.now.state c.args.ns.now c.args.kind c.args.name.now c.mode-mode.result c.mode-mode.ensures in
    rw (← is) c.any_above.ensures
