use Rattle.std.proofs.Common.{◌≡◌, drop}
use Rattle.hx_json.specs.Reading.{are_objects}
use Rattle.hx_json.specs.Trees.{said_items}
use Rattle.hx_json.proofs.read.shapes.are_objects.Given as goal

-- the answer is that of the items to come
abbrev pub invariant-loop-item : goal.invariant-loop-item
invariant-loop-item l = are_objects (said_items l.items) ≡ are_objects (said_items (drop l.item-index l.items))
