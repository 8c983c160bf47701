use Rattle.std.proofs.Common.{◌≡◌, ◌++◌, string_bytes, length}
use denote.Text.{Utf8}
use denote.Shadow.{shadow}
use Rattle.json.specs.Print.{escape}
use Rattle.hx_json.proofs.write.text.push_inside.Given as goal

-- what is written, with what is left, is the whole
abbrev pub invariant-loop-chars : goal.invariant-loop-chars
invariant-loop-chars l = shadow (Utf8 l.rest) × string_bytes l.out ++ escape l.rest ≡ string_bytes l.fn.out ++ escape l.text

abbrev pub decreases-loop-chars : goal.decreases-loop-chars
decreases-loop-chars l = length l.rest
