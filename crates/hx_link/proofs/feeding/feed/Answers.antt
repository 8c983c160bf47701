use Rattle.std.proofs.Common.{ap, length, subst, refl, sym, arith, length-drop}
use Rattle.std.proofs.lemmas.List.{take_rest, drop-drop}
use Rattle.hx_http.specs.Messages.{Whole, Refused}
use Rattle.hx_http.specs.Searches.{IsSearched, message_seen}
use Rattle.hx_ports.proofs.Writing.{calm_on, on_err_all}
use Rattle.hx_link.specs.Running.{Feeds}
use Rattle.hx_link.proofs.Pieces.{Feeds-none, Feeds-asked, Ends-last, Ends-refused, Cuts-asked, Cuts-refused, found-here}
use Rattle.hx_link.proofs.feeding.feed.Goals as goal

pub messages-init : goal.messages-init
messages-init g c = record { within = omega arith; searched = c.requires.searched; calm = record { faults = refl; stalls = refl }; feeds = Feeds-none g.V.Service.does c.law_of_none.ensures c.law_of_more.ensures _ _ _ }

pub returns-in_err-refuse-in-Refused-clause-cut : goal.returns-in_err-refuse-in-Refused-clause-cut
returns-in_err-refuse-in-Refused-clause-cut g c =
    on_err_all _ (Cuts-refused g.V.Service.does c.law_of_none.ensures c.law_of_more.ensures _ _ _ _ _ _ _ _ _ c.messages.invariant.feeds (found-here c.args.bytes.now c.messages.at (Refused c.in-Refused.fault) c.in-Refused.ensures.next) c.in_err-refuse-in-Refused.ensures.cut)

pub returns-in-Refused-clause-ends : goal.returns-in-Refused-clause-ends
returns-in-Refused-clause-ends g c = Ends-refused g.V.Service.does c.law_of_none.ensures c.law_of_more.ensures _ _ _ _ _ _ _ _ _ c.messages.invariant.feeds (found-here c.args.bytes.now c.messages.at (Refused c.in-Refused.fault) c.in-Refused.ensures.next) c.in_ok-refuse-in-Refused.ensures.does

pub returns-in_err-answer-in-Whole-clause-cut : goal.returns-in_err-answer-in-Whole-clause-cut
returns-in_err-answer-in-Whole-clause-cut g c =
    on_err_all _ (Cuts-asked g.V.Service.does c.law_of_none.ensures c.law_of_more.ensures _ _ _ c.in-Whole.length _ _ _ _ _ _ c.messages.invariant.feeds (found-here c.args.bytes.now c.messages.at (Whole (message_seen c.in-Whole.message) c.in-Whole.length) c.in-Whole.ensures.next) c.in_err-answer-in-Whole.ensures.cut)

pub returns-then-message-clause-ends : goal.returns-then-message-clause-ends
returns-then-message-clause-ends g c = Ends-last g.V.Service.does c.law_of_none.ensures c.law_of_more.ensures _ _ _ c.in-Whole.length _ _ _ _ _ _ c.messages.invariant.feeds (found-here c.args.bytes.now c.messages.at (Whole (message_seen c.in-Whole.message) c.in-Whole.length) c.in-Whole.ensures.next) c.if-message.true c.in_ok-answer-in-Whole.ensures.does

pub messages-preserved : goal.messages-preserved
messages-preserved g c = record {
  within = omega (arith, c.messages.invariant.within, c.in-Whole.ensures.uses.1, length-drop c.messages.at c.args.bytes.now, ap length (take_rest c.args.bytes.now c.messages.at));
  searched = c.in-Whole.ensures.begins_anew _;
  calm = calm_on _ _ _ c.messages.invariant.calm c.in_ok-answer-in-Whole.ensures.cause.still;
  feeds = subst (λ l. Feeds g.V.Service.does c.args.bytes.now l c.args.service.now c.answer.new.service (g.W.Sink.shown c.args.sink.now).written (g.W.Sink.shown c.answer.new.sink).written) (drop-drop c.in-Whole.length c.messages.at c.args.bytes.now)
      (Feeds-asked g.V.Service.does c.law_of_none.ensures c.law_of_more.ensures _ _ _ c.in-Whole.length _ _ _ _ _ _ c.messages.invariant.feeds (found-here c.args.bytes.now c.messages.at (Whole (message_seen c.in-Whole.message) c.in-Whole.length) c.in-Whole.ensures.next) c.if-message.false c.in_ok-answer-in-Whole.ensures.does);
}

pub next_request-requires : goal.next_request-requires
next_request-requires g c = record { searched = subst (λ l. IsSearched l c.messages.search) (sym (take_rest c.args.bytes.now c.messages.at)) c.messages.invariant.searched }

pub returns-in-More-clause-goes_on : goal.returns-in-More-clause-goes_on
returns-in-More-clause-goes_on g c = rw (take_rest c.args.bytes.now c.messages.at) at c.in-More.ensures.goes_on
