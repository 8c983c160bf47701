use Rattle.hx_serve.specs.Visits.{LinkView}
use Rattle.hx_sessions.proofs.Linking.{linked}
use Rattle.hx_sessions.proofs.serving.serve_seat.Goals as goal

pub returns-clause-serves : goal.returns-clause-serves
returns-clause-serves g c =
    let before : LinkView = record { source = g.S.Source.shown c.args.source.now; sink = g.W.Sink.shown c.args.sink.now } in
    let after : LinkView = record { source = g.S.Source.shown c.serve_link.new.source; sink = g.W.Sink.shown c.serve_link.new.sink } in
    let all = c.serve_link.ensures in
    linked (λ service. service.seat.me.0) _ (λ a b xs p. p.0) c.serve_link.result _ _ before after (record {
      closed = all.closed;
      cut_short = all.cut_short;
      cut = all.cut;
      unread = all.unread;
      too_long = all.too_long;
      read_calm = all.read_calm;
      write_calm = all.write_calm;
      read_fault = all.read_fault;
      write_fault = all.write_fault;
    })

pub returns-clause-own : goal.returns-clause-own
returns-clause-own g c = c.serve_link.ensures.cut.2.ran.does_them.1
