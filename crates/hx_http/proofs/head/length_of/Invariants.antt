use Rattle.std.proofs.Common.{◌≡◌, map, drop}
use Rattle.httparse.specs.Spans.{header_bytes}
use Rattle.hx_http.specs.Messages.{length_from}
use Rattle.hx_http.specs.declared.message.Length.TheVariants.{Absent}
use Rattle.hx_http.proofs.head.length_of.Given as goal

abbrev pub invariant-loop-header : goal.invariant-loop-header
invariant-loop-header l = length_from l.given (map (header_bytes l.front) (drop l.header-index l.headers)) ≡ length_from Absent (map (header_bytes l.front) l.headers)
