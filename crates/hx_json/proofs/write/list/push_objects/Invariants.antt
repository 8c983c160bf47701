use Rattle.std.proofs.Common.{◌≡◌, ◌++◌, false, drop, string_bytes}
use Rattle.serde_json.specs.Written.{items_text}
use Rattle.hx_model.specs.Json.{objects_items}
use Rattle.hx_json.proofs.write.list.push_objects.Given as goal

-- with the text of those that are left it is the whole
abbrev pub invariant-loop-object : goal.invariant-loop-object
invariant-loop-object l = string_bytes l.out ++ items_text l.later (objects_items (drop l.object-index l.objects)) ≡ string_bytes l.fn.out ++ items_text false (objects_items l.objects)
