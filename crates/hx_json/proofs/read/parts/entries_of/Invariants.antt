use Rattle.std.proofs.Common.{◌≡◌, ◌++◌, drop}
use Rattle.hx_json.specs.Reading.{entries_of}
use Rattle.hx_json.specs.Trees.{said_items}
use Rattle.hx_json.proofs.read.parts.entries_of.Given as goal

-- the entries so far, and those of the items to come
abbrev pub invariant-loop-item : goal.invariant-loop-item
invariant-loop-item l = entries_of (said_items l.items) ≡ l.entries.items ++ entries_of (said_items (drop l.item-index l.items))
