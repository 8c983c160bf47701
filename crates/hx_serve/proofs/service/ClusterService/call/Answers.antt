use Rattle.std.proofs.Common.{inl, inr, refl}
use Rattle.hx_model.specs.Requests.{request_entry}
use Rattle.hx_script.proofs.Idling.{idle_after, request_other}
use Rattle.hx_serve.proofs.service.ClusterService.call.Goals as goal

pub returns-in-Ok-clause-called : goal.returns-in-Ok-clause-called
returns-in-Ok-clause-called g c = rw (← c.self.view_is) (inl (record { ask = c.in-Ok.ask; reads = c.in-Ok.ensures.ok; simulates = c.request.ensures.simulates }))

pub returns-in-Err-clause-called : goal.returns-in-Err-clause-called
returns-in-Err-clause-called g c = inr (record { refusal = c.in-Err.refusal; refused = refl; cause = c.in-Err.ensures.refused; same = c.self.view_is })

pub invariant_of-self : goal.invariant_of-self
invariant_of-self g c = idle_after _ _ (request_entry c.in-Ok.ask c.request.result) c.request.ensures.simulates (request_other c.in-Ok.ask c.request.result) c.self.invariant
