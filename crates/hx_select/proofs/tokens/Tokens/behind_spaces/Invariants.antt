use Rattle.std.proofs.Common.{◌≡◌, ◌≤◌, ◌+◌, length, IsUtf8}
use Rattle.hx_select.specs.Tokens.{tokens_from}
use Rattle.hx_select.proofs.tokens.Tokens.behind_spaces.Given as goal

abbrev pub invariant-loop-next : goal.invariant-loop-next
invariant-loop-next l = record {
  text : IsUtf8 l.rest;
  same : tokens_from l.self.at 0 l.self.rest.now ≡ tokens_from l.at 0 l.rest;
  left : length l.rest ≤ length l.self.rest.now;
  whole : l.at + length l.rest ≡ l.self.end;
}

abbrev pub decreases-loop-next : goal.decreases-loop-next
decreases-loop-next l = length l.rest
