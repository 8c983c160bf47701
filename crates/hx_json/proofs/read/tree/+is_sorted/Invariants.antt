use Rattle.std.proofs.Common.{◌≡◌, drop, option_map, None}
use Rattle.json.specs.Value.{items_view, members_view}
use Rattle.hx_json.specs.Trees.{items_are_sorted, are_sorted}
use Rattle.hx_json.proofs.read.tree.+is_sorted.Given as goal

-- the answer is that of the items to come
abbrev pub invariant-items_are_sorted-loop-item : goal.invariant-items_are_sorted-loop-item
invariant-items_are_sorted-loop-item l = items_are_sorted (items_view l.items) ≡ items_are_sorted (items_view (drop l.item-index l.items))

-- of the members to come, behind the last key
abbrev pub invariant-members_are_sorted-loop-key : goal.invariant-members_are_sorted-loop-key
invariant-members_are_sorted-loop-key l = are_sorted None (members_view l.members) ≡ are_sorted (option_map (λ s. s.now) l.before) (members_view (drop l.key-index l.members))
