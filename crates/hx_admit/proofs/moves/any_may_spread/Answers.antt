use Rattle.std.proofs.lemmas.List.{get_or_default}
use Rattle.hx_model.specs.Moves.{overwrites_kind}
use Rattle.hx_admit.proofs.Moved.{left_fails}
use Rattle.hx_admit.proofs.moves.any_may_spread.Goals as goal

pub loop-kind-preserved : goal.loop-kind-preserved
loop-kind-preserved c = λ n after before.
    left_fails (overwrites_kind c.args.store.now.objects n after before) c.args.kinds.now c.loop-kind.kind-index _ c.loop-kind-test.true (get_or_default c.args.kinds.now c.loop-kind.kind-index _ _ c.loop-kind-test.true) (c.loop-kind.invariant n after before) (c.may_spread.ensures c.if-may_spread.false n after before)
