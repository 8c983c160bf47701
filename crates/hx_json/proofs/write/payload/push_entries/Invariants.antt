use Rattle.std.proofs.Common.{◌≡◌, ◌++◌, false, drop, string_bytes}
use Rattle.serde_json.specs.Written.{items_text}
use Rattle.hx_object.specs.Json.{entries_items}
use Rattle.hx_json.proofs.write.payload.push_entries.Given as goal

-- with the text of those that are left it is the whole
abbrev pub invariant-loop-entry : goal.invariant-loop-entry
invariant-loop-entry l = string_bytes l.out ++ items_text l.later (entries_items (drop l.entry-index l.entries)) ≡ string_bytes l.fn.out ++ items_text false (entries_items l.entries)
