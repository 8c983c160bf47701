use Rattle.std.proofs.Common.{◌≡◌, ◌++◌, false, drop, string_bytes}
use Rattle.serde_json.specs.Written.{items_text}
use Rattle.hx_model.specs.Json.{events_items}
use Rattle.hx_json.proofs.write.events.push_items.Given as goal

-- with the text of those that are left it is the whole
abbrev pub invariant-loop-event : goal.invariant-loop-event
invariant-loop-event l = string_bytes l.out ++ items_text l.later (events_items (drop l.event-index l.events)) ≡ string_bytes l.fn.out ++ items_text false (events_items l.events)
