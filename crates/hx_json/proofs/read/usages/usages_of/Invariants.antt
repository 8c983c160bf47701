use Rattle.std.proofs.Common.{◌≡◌, ◌++◌, drop, option_map}
use Rattle.json.specs.Value.{members_view}
use Rattle.hx_json.specs.Rows.{usages_of}
use Rattle.hx_json.specs.Trees.{laid_members, said}
use Rattle.hx_json.proofs.read.usages.usages_of.Given as goal

-- the usages so far, and those of the members to come
abbrev pub invariant-loop-name : goal.invariant-loop-name
invariant-loop-name l =
    usages_of (option_map (λ v. said v.now) l.used) (laid_members (members_view l.members))
    ≡ l.usages.items ++ usages_of (option_map (λ v. said v.now) l.used) (laid_members (members_view (drop l.name-index l.members)))
