use Rattle.std.proofs.Common.{sym}
use Rattle.hx_model.specs.Moves.{open_chain}
use Rattle.hx_admit.specs.Moves.{open_way}
use Rattle.hx_admit.proofs.moves.overwrites_kind.Goals as goal

pub returns-then-not-may_spread : goal.returns-then-not-may_spread
returns-then-not-may_spread c =
    sym (c.may_spread.ensures c.if-not-may_spread.true c.args.member.now (open_way c.args.forest.now.nodes c.args.namespace.now c.args.above.now c.args.member.now) (open_chain c.args.forest.now.nodes c.args.member.now))
