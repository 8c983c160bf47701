use Rattle.std.proofs.Common.{◌≡◌, drop}
use Rattle.std.specs.List.{list_all}
use Rattle.hx_model.specs.Moves.{up_to, is_eligible}
use Rattle.hx_admit.proofs.moves.are_eligible_up_to.Given as goal

-- what is left tells whether all are eligible
abbrev pub invariant-loop-name : goal.invariant-loop-name
invariant-loop-name l = list_all (is_eligible l.forest.nodes) (up_to l.namespace (drop l.name-index l.names)) ≡ list_all (is_eligible l.forest.nodes) (up_to l.namespace l.names)
