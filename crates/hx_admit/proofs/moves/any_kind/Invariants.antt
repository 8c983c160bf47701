use Rattle.std.proofs.Common.{◌≡◌, drop}
use Rattle.std.specs.List.{list_any}
use Rattle.hx_model.specs.Moves.{open_chain, overwrites_kind}
use Rattle.hx_admit.specs.Moves.{open_way}
use Rattle.hx_admit.proofs.moves.any_kind.Given as goal

-- what is left tells whether one is found
abbrev pub invariant-loop-kind : goal.invariant-loop-kind
invariant-loop-kind l =
    let test = overwrites_kind l.store.objects l.member (open_way l.forest.nodes l.namespace l.above l.member) (open_chain l.forest.nodes l.member) in
    list_any test (drop l.kind-index l.kinds) ≡ list_any test l.kinds
