use Rattle.std.proofs.Common.{◌∙◌, Ok, ap}
use Rattle.hx_sessions.specs.Held.{told_of}
use Rattle.hx_team.proofs.Teaming.{alone_failed, alone_over, alone_served}
use Rattle.hx_team.proofs.session.serve_next_alone.Goals as goal

pub returns-in-Err-clause-led : goal.returns-in-Err-clause-led
returns-in-Err-clause-led g c = alone_failed c.args.door.now c.accept.new.self c.accept.result c.in-Err._fault c.in-Err.is c.accept.ensures.leads

pub returns-in-Ok-None-clause-led : goal.returns-in-Ok-None-clause-led
returns-in-Ok-None-clause-led g c = alone_over c.args.door.now c.accept.new.self c.accept.result (c.in-Ok-None.is ∙ ap Ok c.in-Ok-None.field-0-is) c.accept.ensures.leads

pub returns-clause-led : goal.returns-clause-led
returns-clause-led g c = alone_served c.args.door.now c.accept.new.self c.take_back.new.self (told_of c.accept.result) c.accept.ensures.leads c.take_back.ensures
