use Rattle.std.proofs.Common.{◌≡◌, ◌++◌, false, drop, string_bytes}
use Rattle.serde_json.specs.Written.{items_text}
use Rattle.hx_object.specs.Json.{conditions_items}
use Rattle.hx_json.proofs.write.payload.push_conditions.Given as goal

-- with the text of those that are left it is the whole
abbrev pub invariant-loop-condition : goal.invariant-loop-condition
invariant-loop-condition l = string_bytes l.out ++ items_text l.later (conditions_items (drop l.condition-index l.conditions)) ≡ string_bytes l.fn.out ++ items_text false (conditions_items l.conditions)
