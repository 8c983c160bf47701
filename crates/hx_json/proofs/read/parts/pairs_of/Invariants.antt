use Rattle.std.proofs.Common.{◌≡◌, ◌++◌, drop}
use Rattle.json.specs.Value.{members_view}
use Rattle.hx_json.specs.Reading.{pairs_of}
use Rattle.hx_json.specs.Trees.{laid_members}
use Rattle.hx_json.proofs.read.parts.pairs_of.Given as goal

-- the pairs so far, and those of the members to come
abbrev pub invariant-loop-key : goal.invariant-loop-key
invariant-loop-key l = pairs_of (laid_members (members_view l.members)) ≡ l.pairs.items ++ pairs_of (laid_members (members_view (drop l.key-index l.members)))
