use Rattle.std.proofs.Common.{◌≡◌, arith, rules, subst, sym}
use Rattle.hx_model.specs.Serving.{IsServedAsk}
use Rattle.hx_gen.specs.Asked.{pod_ask}
use Rattle.hx_gen.proofs.Served.{pod_served}
use Rattle.hx_gen.proofs.asks.pod_ask.Goals as goal
use Prim.{search}

pub returns-clause-served : goal.returns-clause-served
returns-clause-served c =
    let is : c.creating.result ≡ pod_ask c.args.index = search rules in
    subst IsServedAsk (sym is) (pod_served c.args.index (omega arith))
