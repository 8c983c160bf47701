use Rattle.std.proofs.Common.{◌≡◌, ◌≤◌, ◌<◌, ◌-◌, ◌^◌, List, ℕ, ◌++◌, length}
use Rattle.hx_http.specs.Messages.{next_of, More}
use Rattle.hx_http.specs.Searches.{IsSearched}
use Rattle.hx_ports.specs.Pieces.{IsCalm}
use Rattle.hx_link.specs.Running.{ReadsOn}
use Rattle.hx_link.proofs.link.serve_link.Given as goal

abbrev pub invariant-reading : goal.invariant-reading
invariant-reading g l = record {
  waits : next_of l.waiting.items ≡ More;
  goes_on : (more : List ℕ) → IsSearched (l.waiting.items ++ more) l.search;
  room : 0 < length l.piece.items;
  few : l.total ≤ 2 ^ 40;
  reads : ReadsOn g.V.Service.does (g.S.Source.shown l.fn.source).left (g.S.Source.shown l.source).left l.total l.waiting.items l.fn.service l.service (g.W.Sink.shown l.fn.sink).written (g.W.Sink.shown l.sink).written;
  read_calm : (g.S.Source.shown l.source).faults ≡ (g.S.Source.shown l.fn.source).faults;
  write_calm : IsCalm (g.W.Sink.shown l.fn.sink) (g.W.Sink.shown l.sink);
}

abbrev pub decreases-reading : goal.decreases-reading
decreases-reading g l = 2 ^ 40 - l.total
