use Rattle.std.proofs.Common.{◌≡◌, ◌==◌, ◌+◌, ℕ, false, length, sym, ap, ◌∙◌}
use Rattle.hx_model.specs.State.{state_after}
use Rattle.hx_model.specs.Windows.{most_events, with_events}
use Rattle.hx_state.specs.Happening.{LogView}
use Rattle.hx_state.specs.StateView.{StateView, state_in}
use Rattle.hx_state.proofs.Applying.{applied}
use Rattle.hx_state.proofs.indexed_state.IndexedState.apply.Goals as goal

pub returns-clause-state : goal.returns-clause-state
returns-clause-state c =
    let store = c.self.inside.store in
    let window = c.self.inside.log.window in
    let some : length store.staged == 0 ≡ false = ap (λ ws. length ws == 0) (sym c.staged.ensures) ∙ sym c.is_empty.ensures ∙ c.if-is_empty.false in
    let version = c.apply.ensures.version ∙ ap (λ (n : ℕ). n + 1) c.version-version.ensures in
    let told = ap (λ (l : LogView). l.window) c.apply-5.ensures ∙ ap (with_events most_events window) c.self.invariant.told in
    (λ i. state_in c.self.inside.config (c.apply.ensures.objects i) (version i) (told i))
    ∙ applied c.self.inside.config store.objects store.version window store.staged some
    ∙ ap (λ (v : StateView). state_after v.state v.staged) c.self.view_is
