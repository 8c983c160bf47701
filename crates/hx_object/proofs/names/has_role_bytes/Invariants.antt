use Rattle.std.proofs.Common.{◌≡◌, drop}
use Rattle.std.specs.List.{list_all}
use Rattle.hx_object.specs.Names.{is_role_byte}
use Rattle.hx_object.proofs.names.has_role_bytes.Given as goal

-- what is left tells whether all pass
abbrev pub invariant-loop-byte : goal.invariant-loop-byte
invariant-loop-byte l = list_all is_role_byte (drop l.byte-index l.name) ≡ list_all is_role_byte l.name
