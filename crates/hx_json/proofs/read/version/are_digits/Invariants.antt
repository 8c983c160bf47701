use Rattle.std.proofs.Common.{◌≡◌, drop}
use Rattle.std.specs.List.{list_all}
use Rattle.hx_object.specs.Names.{is_digit}
use Rattle.hx_json.proofs.read.version.are_digits.Given as goal

-- those that are left have what all have
abbrev pub invariant-loop-byte : goal.invariant-loop-byte
invariant-loop-byte l = list_all is_digit (drop l.byte-index l.text) ≡ list_all is_digit l.text
