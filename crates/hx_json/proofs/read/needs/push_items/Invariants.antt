use Rattle.std.proofs.Common.{◌≡◌, ◌++◌, drop}
use Rattle.hx_object.specs.Needs.{containers_of}
use Rattle.hx_json.specs.Trees.{said_items}
use Rattle.hx_json.proofs.read.needs.push_items.Given as goal

-- with the containers of those that are left they are the whole
abbrev pub invariant-loop-item : goal.invariant-loop-item
invariant-loop-item l = l.containers.items ++ containers_of l.init (said_items (drop l.item-index l.items)) ≡ l.fn.containers.items ++ containers_of l.init (said_items l.items)
