use Rattle.std.proofs.Common.{◌≡◌, ◌++◌, drop}
use Rattle.hx_json.specs.Rows.{texts_of}
use Rattle.hx_json.specs.Trees.{said_items}
use Rattle.hx_json.proofs.read.reported.texts_of.Given as goal

-- the texts so far, and those of the items to come
abbrev pub invariant-loop-item : goal.invariant-loop-item
invariant-loop-item l = texts_of (said_items l.items) ≡ l.texts.items ++ texts_of (said_items (drop l.item-index l.items))
