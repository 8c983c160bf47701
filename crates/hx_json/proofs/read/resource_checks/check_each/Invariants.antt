use Rattle.std.proofs.Common.{◌≡◌, drop}
use Rattle.hx_json.specs.Reading.{container_fault, first_of_items}
use Rattle.hx_json.specs.Trees.{said_items}
use Rattle.hx_json.proofs.read.resource_checks.check_each.Given as goal

-- the first fault is that of the containers to come
abbrev pub invariant-loop-container : goal.invariant-loop-container
invariant-loop-container l = first_of_items (container_fault l.path) (said_items l.containers) ≡ first_of_items (container_fault l.path) (said_items (drop l.container-index l.containers))
