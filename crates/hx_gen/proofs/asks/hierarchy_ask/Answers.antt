use Rattle.std.proofs.Common.{◌≡◌, arith, rules, subst, sym}
use Rattle.hx_model.specs.Serving.{IsServedAsk}
use Rattle.hx_gen.specs.Asked.{hierarchy_ask}
use Rattle.hx_gen.proofs.Served.{hierarchy_served}
use Rattle.hx_gen.proofs.asks.hierarchy_ask.Goals as goal
use Prim.{search}

pub returns-clause-served : goal.returns-clause-served
returns-clause-served c =
    let is : c.creating.result ≡ hierarchy_ask c.args.index c.args.parent = search rules in
    subst IsServedAsk (sym is) (hierarchy_served c.args.index c.args.parent (omega arith) (omega arith))
