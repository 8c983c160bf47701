use Rattle.std.proofs.Common.{◌≡◌, ◌++◌, drop}
use Rattle.json.specs.Value.{members_view}
use Rattle.hx_json.specs.Reading.{limits_of}
use Rattle.hx_json.specs.Trees.{laid_members}
use Rattle.hx_json.proofs.read.quota.limits_of.Given as goal

-- the limits so far, and those of the members to come
abbrev pub invariant-loop-key : goal.invariant-loop-key
invariant-loop-key l = limits_of (laid_members (members_view l.members)) ≡ l.limits.items ++ limits_of (laid_members (members_view (drop l.key-index l.members)))
