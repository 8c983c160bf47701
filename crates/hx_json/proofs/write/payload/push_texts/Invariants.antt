use Rattle.std.proofs.Common.{◌≡◌, ◌++◌, false, drop, string_bytes}
use Rattle.serde_json.specs.Written.{items_text}
use Rattle.hx_object.specs.Json.{texts_items}
use Rattle.hx_json.proofs.write.payload.push_texts.Given as goal

-- with the text of those that are left it is the whole
abbrev pub invariant-loop-text : goal.invariant-loop-text
invariant-loop-text l = string_bytes l.out ++ items_text l.later (texts_items (drop l.text-index l.texts)) ≡ string_bytes l.fn.out ++ items_text false (texts_items l.texts)
