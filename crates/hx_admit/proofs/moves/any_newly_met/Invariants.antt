use Rattle.std.proofs.Common.{◌≡◌, drop}
use Rattle.std.specs.List.{list_any}
use Rattle.hx_model.specs.Moves.{is_newly_met}
use Rattle.hx_admit.proofs.moves.any_newly_met.Given as goal

-- what is left tells whether one is found
abbrev pub invariant-loop-object : goal.invariant-loop-object
invariant-loop-object l = list_any (is_newly_met l.store.objects l.name l.after l.before) (drop l.object-index l.objects) ≡ list_any (is_newly_met l.store.objects l.name l.after l.before) l.objects
