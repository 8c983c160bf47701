use Rattle.std.proofs.Common.{◌≡◌, ◌++◌, ◌∷◌, false, drop, string_bytes}
use Rattle.json.specs.Value.{items_view, members_view}
use Rattle.serde_json.specs.Written.{items_text, members_text}
use Rattle.hx_json.specs.Trees.{laid_items, laid_members}
use Rattle.hx_json.proofs.read.kept.+push_value.Given as goal

-- the text so far, and that of the items to come
abbrev pub invariant-push_items-loop-item : goal.invariant-push_items-loop-item
invariant-push_items-loop-item l =
    string_bytes l.fn.out ++ 91 ∷ items_text false (laid_items (items_view l.items.items)) ≡ string_bytes l.out ++ items_text l.later (laid_items (items_view (drop l.item-index l.items.items)))

abbrev pub invariant-push_members-loop-key : goal.invariant-push_members-loop-key
invariant-push_members-loop-key l =
    string_bytes l.fn.out ++ 123 ∷ members_text false (laid_members (members_view l.members.items)) ≡ string_bytes l.out ++ members_text l.later (laid_members (members_view (drop l.key-index l.members.items)))
