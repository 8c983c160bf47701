use Rattle.std.proofs.Common.{◌≡◌, ℕ, ap, subst, IfOk}
use Rattle.hx_state.specs.StateView.{StateView}
use Rattle.hx_state.proofs.Using.{used_seen}
use Rattle.hx_state.proofs.indexed_state.IndexedState.used.Goals as goal

pub returns : goal.returns
returns c =
    subst (λ (k : ℕ). IfOk c.used.result (λ sum. sum ≡ k)) (used_seen c.self.inside.config c.self.inside.store.objects c.self.inside.store.version c.self.inside.log.window c.args.self.now.state c.self.inside.forest.nodes c.args.ns.now c.args.resource
    (ap (λ (v : StateView). v.state) c.self.view_is) c.self.invariant.now.planted) c.used.ensures
