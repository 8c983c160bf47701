use Rattle.std.proofs.Common.{ap, ◌∙◌}
use Rattle.hx_model.specs.State.{events_of}
use Rattle.hx_state.specs.StateView.{StateView}
use Rattle.hx_state.proofs.indexed_state.IndexedState.staged_events.Goals as goal

pub returns : goal.returns
returns c = c.staged.ensures ∙ c.self.invariant.told ∙ ap (λ (v : StateView). events_of v.state v.staged) c.self.view_is
