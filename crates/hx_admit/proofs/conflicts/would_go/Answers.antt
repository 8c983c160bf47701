use Rattle.std.proofs.Common.{◌≡◌, ◌∙◌, sym}
use Rattle.std.specs.List.{list_any}
use Rattle.hx_object.specs.declared.object.Mode.TheVariants.{Propagate}
use Rattle.hx_model.specs.Forest.{chain_of, tail_of}
use Rattle.hx_model.specs.Tree.{forest_of}
use Rattle.hx_admit.specs.Conflicting.{goes_down, would_go}
use Rattle.hx_admit.proofs.ConflictingModes.{would_closed, would_reached}
use Rattle.hx_admit.proofs.conflicts.would_go.Goals as goal

pub returns-then-not-is_open : goal.returns-then-not-is_open
returns-then-not-is_open c = would_closed c.args.state.now.state c.args.id.now (sym c.is_open.ensures ∙ c.if-not-is_open.true)

pub returns : goal.returns
returns c =
    let is : list_any (goes_down c.args.state.now.state Propagate c.args.id.now.ns c.args.id.now.kind c.args.id.now.name) (tail_of (chain_of (forest_of c.args.state.now.state) c.args.id.now.ns)) ≡ would_go c.args.state.now.state c.args.id.now =
    would_reached c.args.state.now.state c.args.id.now (sym c.is_open.ensures ∙ c.if-not-is_open.false) in
    rw (← is) c.any_above.ensures
