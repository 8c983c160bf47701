use Rattle.hx_http.specs.Searches.{message_seen}
use Rattle.hx_serve.proofs.Making.{answered}
use Rattle.hx_serve.proofs.service.ClusterServiceService.answer.Goals as goal

pub returns : goal.returns
returns g c = rw c.self.view_is (answered (message_seen c.args.message.now) c.call-answer.result c.reply_to-text.result.now c.args.self.now c.call-answer.new.self c.call-answer.ensures.called c.reply_to-text.ensures)
