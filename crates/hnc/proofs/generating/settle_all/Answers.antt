use Rattle.std.proofs.Common.{subst, sym}
use Rattle.std.proofs.lemmas.Result.{IfOk-weaker}
use Rattle.hx_core.specs.declared.turns.Settle.{Settle}
use Rattle.hnc.proofs.Making.{on_err, settles, settles_none, settles_some}
use Rattle.hnc.specs.Generating.{HasSettled}
use Rattle.hnc.proofs.generating.settle_all.Goals as goal

pub returns-in_err-turns-clause-some : goal.returns-in_err-turns-clause-some
returns-in_err-turns-clause-some g c = on_err c.from_residual.result _ (settles_none c.args.cluster.now c.law_of_worlds.ensures.world)

pub returns-clause-settled : goal.returns-clause-settled
returns-clause-settled g c =
    let made = c.settle-end.ensures.made in
    IfOk-weaker c.unless_wanting.result _ _
    (λ told h. subst (λ (e : Settle). HasSettled c.args.cluster.now e c.settle-end.new.self) (sym h.0)
    (settles c.in_ok-turns.turns made.0 c.settle-end.result c.args.cluster.now c.settle-end.new.self c.in_ok-turns.ensures.few made.2 made.4 (c.settle-end.ensures.bound c.requires c.in_ok-turns.ensures.enough) h.1))
    c.unless_wanting.ensures

pub returns-clause-some : goal.returns-clause-some
returns-clause-some g c =
    let made = c.settle-end.ensures.made in
    on_err c.unless_wanting.result _ (settles_some made.0 c.settle-end.result c.args.cluster.now c.settle-end.new.self made.2)
