use Rattle.std.proofs.Common.{None, ap, refl}
use Rattle.hx_json.specs.Reading.{target_at}
use Rattle.hx_api.specs.Asks.{created}
use Rattle.hx_api.proofs.Reading.{says, refused}
use Rattle.hx_api.proofs.body.create.Goals as goal

pub returns-in-Ok-clause-ok : goal.returns-in-Ok-clause-ok
returns-in-Ok-clause-ok c =
    ap (created c.args.kind c.args.skip) (says (target_at c.args.kind c.args.ns.now None) c.args.body.now c.in-Ok.read.object c.in-Ok.read.expected c.in-Ok.ensures.ok)

pub returns-in-Err-clause-refused : goal.returns-in-Err-clause-refused
returns-in-Err-clause-refused c =
    refused c.args.kind (created c.args.kind c.args.skip) (target_at c.args.kind c.args.ns.now None) c.args.body.now c.in-Err.fault c.refusal_of.result (λ f. refl) c.refusal_of.ensures c.in-Err.ensures.fault
