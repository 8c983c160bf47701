use Rattle.std.proofs.Common.{length, drop, ◌-◌, ◌≤◌}
use Rattle.hx_http.specs.Searches.{IsSearched}
use Rattle.hx_ports.specs.Pieces.{IsCalm}
use Rattle.hx_link.specs.Running.{Feeds}
use Rattle.hx_link.proofs.feeding.feed.Given as goal

abbrev pub invariant-messages : goal.invariant-messages
invariant-messages g l = record {
  within : l.at ≤ length l.bytes;
  searched : IsSearched (drop l.at l.bytes) l.search;
  calm : IsCalm (g.W.Sink.shown l.fn.sink) (g.W.Sink.shown l.sink);
  feeds : Feeds g.V.Service.does l.bytes (drop l.at l.bytes) l.fn.service l.service (g.W.Sink.shown l.fn.sink).written (g.W.Sink.shown l.sink).written;
}

abbrev pub decreases-messages : goal.decreases-messages
decreases-messages g l = length l.bytes - l.at
