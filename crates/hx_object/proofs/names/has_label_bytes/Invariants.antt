use Rattle.std.proofs.Common.{◌≡◌, drop}
use Rattle.std.specs.List.{list_all}
use Rattle.hx_object.specs.Names.{is_dns_byte}
use Rattle.hx_object.proofs.names.has_label_bytes.Given as goal

-- what is left tells whether all pass
abbrev pub invariant-loop-byte : goal.invariant-loop-byte
invariant-loop-byte l = list_all is_dns_byte (drop l.byte-index l.name) ≡ list_all is_dns_byte l.name
