use Rattle.hx_serve.specs.Visits.{LinkView}
use Rattle.hx_serve.proofs.Visiting.{served}
use Rattle.hx_serve.proofs.links.serve_one.Goals as goal

pub returns : goal.returns
returns g c =
    let before : LinkView = record { source = g.D.Input.Source.shown c.args.link.source; sink = g.D.Output.Sink.shown c.args.link.sink } in
    let after : LinkView = record { source = g.D.Input.Source.shown c.serve_link-end.new.source; sink = g.D.Output.Sink.shown c.serve_link-end.new.sink } in
    let all = c.serve_link-end.ensures in
    served c.serve_link-end.result _ _ _ before after _ _ (record {
      closed = all.closed;
      cut_short = all.cut_short;
      cut = all.cut;
      unread = all.unread;
      too_long = all.too_long;
      read_calm = all.read_calm;
      write_calm = all.write_calm;
      read_fault = all.read_fault;
      write_fault = all.write_fault;
    }) c.settle.ensures c.take_back.ensures
