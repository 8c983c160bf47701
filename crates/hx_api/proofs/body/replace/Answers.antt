use Rattle.std.proofs.Common.{Some, ap, refl}
use Rattle.hx_json.specs.Reading.{target_at}
use Rattle.hx_api.specs.Asks.{replaced}
use Rattle.hx_api.proofs.Reading.{says, refused}
use Rattle.hx_api.proofs.body.replace.Goals as goal

pub returns-in-Ok-clause-ok : goal.returns-in-Ok-clause-ok
returns-in-Ok-clause-ok c =
    let id = c.args.id.now in
    ap (replaced id.kind c.args.skip) (says (target_at id.kind id.ns (Some id.name)) c.args.body.now c.in-Ok.read.object c.in-Ok.read.expected c.in-Ok.ensures.ok)

pub returns-in-Err-clause-refused : goal.returns-in-Err-clause-refused
returns-in-Err-clause-refused c =
    let id = c.args.id.now in
    refused id.kind (replaced id.kind c.args.skip) (target_at id.kind id.ns (Some id.name)) c.args.body.now c.in-Err.fault c.refusal_of.result (λ f. refl) c.refusal_of.ensures c.in-Err.ensures.fault
