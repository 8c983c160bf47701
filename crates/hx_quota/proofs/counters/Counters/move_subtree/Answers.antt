use Rattle.std.proofs.Common.{◌≡◌, true, Option, List, ℕ, is_some, sym, subst}
use Rattle.std.specs.Prelude.{IfSome}
use Rattle.hx_quota.specs.Counters.{entry_of}
use Rattle.hx_quota.proofs.Shifted.{above_there}
use Rattle.hx_quota.proofs.counters.Counters.move_subtree.Goals as goal

pub move_under-requires-clause-given : goal.move_under-requires-clause-given
move_under-requires-clause-given c =
    let es = c.args.self.now.entries in
    subst (λ (o : Option (List ℕ)). IfSome o (λ p. is_some (entry_of es p) ≡ true)) (sym c.as_ref.ensures.value) (above_there es c.args.parent c.args.to.now c.requires.to)
