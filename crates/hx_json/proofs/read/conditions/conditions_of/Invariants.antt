use Rattle.std.proofs.Common.{◌≡◌, ◌++◌, drop}
use Rattle.hx_json.specs.Rows.{conditions_of}
use Rattle.hx_json.specs.Trees.{said_items}
use Rattle.hx_json.proofs.read.conditions.conditions_of.Given as goal

-- the conditions so far, and those of the items to come
abbrev pub invariant-loop-item : goal.invariant-loop-item
invariant-loop-item l = conditions_of (said_items l.items) ≡ l.conditions.items ++ conditions_of (said_items (drop l.item-index l.items))
