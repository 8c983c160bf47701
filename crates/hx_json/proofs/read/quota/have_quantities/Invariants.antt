use Rattle.std.proofs.Common.{◌≡◌, drop}
use Rattle.json.specs.Value.{members_view}
use Rattle.hx_json.specs.Reading.{are_quantities}
use Rattle.hx_json.specs.Trees.{laid_members}
use Rattle.hx_json.proofs.read.quota.have_quantities.Given as goal

-- the answer is that of the members to come
abbrev pub invariant-loop-member : goal.invariant-loop-member
invariant-loop-member l = are_quantities (laid_members (members_view l.members)) ≡ are_quantities (laid_members (members_view (drop l.member-index l.members)))
