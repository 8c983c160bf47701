use Rattle.std.proofs.Common.{◌≡◌, drop}
use Rattle.std.specs.List.{list_any}
use Rattle.hx_admit.specs.Moves.{is_gone_to}
use Rattle.hx_admit.proofs.moves.any_gone_to.Given as goal

-- what is left tells whether one is found
abbrev pub invariant-loop-ancestor : goal.invariant-loop-ancestor
invariant-loop-ancestor l = list_any (is_gone_to l.store.objects l.name l.chain l.kind l.object) (drop l.ancestor-index l.above) ≡ list_any (is_gone_to l.store.objects l.name l.chain l.kind l.object) l.above
