use Rattle.hx_http.specs.Searches.{message_seen}
use Rattle.hx_sessions.proofs.Asking.{asked}
use Rattle.hx_sessions.proofs.seat.SeatServiceService.answer.Goals as goal

pub returns : goal.returns
returns g c = (asked (message_seen c.args.message.now) c.call-answer.result c.reply_to-text.result.now _ _ c.call-answer.ensures.called c.reply_to-text.ensures, c.call-answer.ensures.own)
