use Rattle.std.proofs.Common.{not, sym, ap, ◌∙◌, subst}
use Rattle.hx_reconcile.specs.Briefs.{hand_by}
use Rattle.hx_core.specs.Inside.{view_of}
use Rattle.hx_core.specs.Queued.{IsReleased}
use Rattle.hx_core.proofs.Finishing.{ends_tried, done_tried}
use Rattle.hx_core.proofs.cluster.Cluster.end_tried.Goals as goal

pub let_go-requires : goal.let_go-requires
let_go-requires g c = λ e.
    let requires = rw (← c.self.view_is) at c.requires in
    let tried = rw (← c.self.view_is) at c.attempt-end.ensures in
    done_tried (view_of c.self.inside.state.state c.self.inside.workers.seen (g.K.Keeper.shown c.self.inside.keeper)) c.attempt-end.new.self c.args.worker (hand_by c.args.worker c.args.brief.now) c.args.write c.attempt-end.result requires.hand tried (ap not (sym c.is_written.ensures) ∙ e)

pub returns : goal.returns
returns g c =
    let requires = rw (← c.self.view_is) at c.requires in
    let tried = rw (← c.self.view_is) at c.attempt-end.ensures in
    rw (← c.self.view_is) (ends_tried (view_of c.self.inside.state.state c.self.inside.workers.seen (g.K.Keeper.shown c.self.inside.keeper)) c.let_go.new.self c.args.worker (hand_by c.args.worker c.args.brief.now) c.args.write c.self.invariant.sound.world requires.hand (sym requires.planned) c.attempt-end.result c.attempt-end.new.self tried
    (subst (λ b. IsReleased c.args.worker (not b) c.attempt-end.new.self c.let_go.new.self) c.is_written.ensures c.let_go.ensures.released) c.let_go.ensures.empty)
