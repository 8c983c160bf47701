use Rattle.std.proofs.Common.{◌≡◌, codes, map, drop}
use Rattle.std.specs.Prelude.{◌||◌}
use Rattle.std.specs.List.{list_any}
use Rattle.httparse.specs.Spans.{header_bytes}
use Rattle.hx_http.specs.Messages.{has_name, is_encoded}
use Rattle.hx_http.proofs.head.is_encoded.Given as goal

abbrev pub invariant-loop-header : goal.invariant-loop-header
invariant-loop-header l = (l.encoded || list_any (has_name (codes "transfer-encoding")) (map (header_bytes l.front) (drop l.header-index l.headers))) ≡ is_encoded (map (header_bytes l.front) l.headers)
