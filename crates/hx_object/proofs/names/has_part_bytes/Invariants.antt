use Rattle.std.proofs.Common.{◌≡◌, drop}
use Rattle.std.specs.List.{list_all}
use Rattle.hx_object.specs.Names.{is_part_byte}
use Rattle.hx_object.proofs.names.has_part_bytes.Given as goal

-- what is left tells whether all pass
abbrev pub invariant-loop-byte : goal.invariant-loop-byte
invariant-loop-byte l = list_all (is_part_byte l.any_case) (drop l.byte-index l.part) ≡ list_all (is_part_byte l.any_case) l.part
