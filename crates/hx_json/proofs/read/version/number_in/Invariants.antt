use Rattle.std.proofs.Common.{◌≡◌, ◌<◌, ◌^◌, take}
use Rattle.hx_json.specs.Reading.{number_in}
use Rattle.hx_json.proofs.read.version.number_in.Given as goal

-- the number is that of the digits so far
abbrev pub invariant-loop-byte : goal.invariant-loop-byte
invariant-loop-byte l = record {
  says : l.number ≡ number_in (take l.byte-index l.text);
  bound : l.number < 10 ^ l.byte-index;
}
