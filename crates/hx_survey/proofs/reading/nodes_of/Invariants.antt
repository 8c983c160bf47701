use Rattle.std.proofs.Common.{◌≡◌, ◌++◌, drop, map}
use Rattle.hx_object.specs.declared.object.Object.{Object}
use Rattle.hx_model.specs.Tree.{forest_in, node_in}
use Rattle.hx_survey.proofs.reading.nodes_of.Given as goal

-- those so far, and those of the rest
abbrev pub invariant-loop-shared : goal.invariant-loop-shared
invariant-loop-shared l = l.nodes.items ++ map (λ (x : Object). (x.id.name, node_in l.excluded l.objects x)) (drop l.shared-index l.namespaces) ≡ forest_in l.excluded l.objects
