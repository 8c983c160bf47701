use Rattle.std.proofs.Common.{◌≡◌, drop, option_map, None}
use Rattle.json.specs.Value.{members_view}
use Rattle.hx_json.specs.Trees.{are_sorted, kept_of}
use Rattle.hx_json.proofs.read.tree.kept_are_sorted.Given as goal

-- the answer is that of the members to come, behind the last key
abbrev pub invariant-loop-key : goal.invariant-loop-key
invariant-loop-key l = are_sorted None (kept_of (members_view l.members)) ≡ are_sorted (option_map (λ s. s.now) l.before) (kept_of (members_view (drop l.key-index l.members)))
