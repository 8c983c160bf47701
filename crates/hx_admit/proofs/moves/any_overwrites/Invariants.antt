use Rattle.std.proofs.Common.{◌≡◌, ℕ, List, drop}
use Rattle.std.specs.List.{list_any}
use Rattle.hx_model.specs.Moves.{open_chain, overwrites_in}
use Rattle.hx_admit.specs.Moves.{open_way}
use Rattle.hx_admit.proofs.moves.any_overwrites.Given as goal

-- what is left tells whether one is found
abbrev pub invariant-loop-member : goal.invariant-loop-member
invariant-loop-member l =
    let test = λ (m : List ℕ). overwrites_in l.store.objects m (open_way l.forest.nodes l.namespace l.above m) (open_chain l.forest.nodes m) in
    list_any test (drop l.member-index l.members) ≡ list_any test l.members
