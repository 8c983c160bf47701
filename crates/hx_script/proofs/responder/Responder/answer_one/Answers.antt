use Rattle.std.proofs.Common.{subst, sym}
use Rattle.hx_script.specs.Forms.{reading_of}
use Rattle.hx_script.specs.Lines.{line_of_text}
use Rattle.hx_script.specs.Running.{Serves}
use Rattle.hx_script.proofs.Running.{Does-serves, Cuts-serves}
use Rattle.hx_script.proofs.Saying.{Serves-cause}
use Rattle.hx_script.proofs.responder.Responder.answer_one.Goals as goal

pub returns-in-Err-clause-does : goal.returns-in-Err-clause-does
returns-in-Err-clause-does g c = Does-serves (line_of_text c.args.text.now) _ _ _ _ c.refuse.result (c.refuse.ensures (reading_of (line_of_text c.args.text.now)) c.args.cluster.now c.in-Err.ensures.unread)

pub returns-in-Err-clause-cut : goal.returns-in-Err-clause-cut
returns-in-Err-clause-cut g c = Cuts-serves (line_of_text c.args.text.now) _ _ _ _ c.refuse.result (c.refuse.ensures (reading_of (line_of_text c.args.text.now)) c.args.cluster.now c.in-Err.ensures.unread)

pub returns-in-Ok-clause-does : goal.returns-in-Ok-clause-does
returns-in-Ok-clause-does g c = Does-serves (line_of_text c.args.text.now) _ _ _ _ c.serve.result (subst (λ r. Serves r c.args.cluster.now c.serve.new.cluster (g.W.Sink.shown c.args.sink.now) (g.W.Sink.shown c.serve.new.sink) c.serve.result) (sym c.in-Ok.ensures.orders) c.serve.ensures.serves)

pub returns-in-Ok-clause-cut : goal.returns-in-Ok-clause-cut
returns-in-Ok-clause-cut g c = Cuts-serves (line_of_text c.args.text.now) _ _ _ _ c.serve.result (subst (λ r. Serves r c.args.cluster.now c.serve.new.cluster (g.W.Sink.shown c.args.sink.now) (g.W.Sink.shown c.serve.new.sink) c.serve.result) (sym c.in-Ok.ensures.orders) c.serve.ensures.serves)

pub returns-in-Err-clause-cause : goal.returns-in-Err-clause-cause
returns-in-Err-clause-cause g c = Serves-cause _ _ _ _ _ _ (c.refuse.ensures (reading_of (line_of_text c.args.text.now)) c.args.cluster.now c.in-Err.ensures.unread)

pub returns-in-Ok-clause-cause : goal.returns-in-Ok-clause-cause
returns-in-Ok-clause-cause g c = Serves-cause _ _ _ _ _ _ c.serve.ensures.serves
