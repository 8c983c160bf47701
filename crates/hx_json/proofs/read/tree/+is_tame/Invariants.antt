use Rattle.std.proofs.Common.{◌≡◌, drop}
use Rattle.json.specs.Value.{items_view, members_view}
use Rattle.hx_json.specs.Trees.{items_are_tame, members_are_tame}
use Rattle.hx_json.proofs.read.tree.+is_tame.Given as goal

-- the answer is that of the items to come
abbrev pub invariant-items_are_tame-loop-item : goal.invariant-items_are_tame-loop-item
invariant-items_are_tame-loop-item l = items_are_tame (items_view l.items) ≡ items_are_tame (items_view (drop l.item-index l.items))

abbrev pub invariant-members_are_tame-loop-member : goal.invariant-members_are_tame-loop-member
invariant-members_are_tame-loop-member l = members_are_tame (members_view l.members) ≡ members_are_tame (members_view (drop l.member-index l.members))
