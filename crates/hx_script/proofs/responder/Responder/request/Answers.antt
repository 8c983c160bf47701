use Rattle.hx_model.specs.Requests.{request_entry}
use Rattle.hx_script.proofs.Idling.{idle_after, request_other}
use Rattle.hx_script.proofs.Making.{Serves-request}
use Rattle.hx_script.proofs.responder.Responder.request.Goals as goal

pub returns-clause-serves : goal.returns-clause-serves
returns-clause-serves g c = Serves-request c.args.ask c.request-answer.result _ _ _ _ _ c.request-answer.ensures.simulates c.say-said.ensures

pub returns-clause-idle : goal.returns-clause-idle
returns-clause-idle g c = idle_after _ _ (request_entry c.args.ask c.request-answer.result) c.request-answer.ensures.simulates (request_other c.args.ask c.request-answer.result) c.requires.idle
