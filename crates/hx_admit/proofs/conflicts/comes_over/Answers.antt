use Rattle.std.proofs.Common.{◌≡◌, ◌∙◌, sym, ap}
use Rattle.std.specs.Prelude.{option_copied}
use Rattle.hx_model.specs.Propagation.{is_propagated}
use Rattle.hx_admit.specs.Conflicting.{has_overwritten, comes_over}
use Rattle.hx_admit.proofs.ConflictingModes.{over_none, over_before, over_has}
use Rattle.hx_admit.proofs.conflicts.comes_over.Goals as goal
use Rattle.hx_admit.proofs.conflicts.comes_over.Goals.{then-not-is_propagated-via-then-not-is_propagated, then-not-is_propagated-via-else-not-is_propagated+then-is_propagated}

pub returns-then-not-is_propagated : goal.returns-then-not-is_propagated
returns-then-not-is_propagated c = elim c.then-not-is_propagated.branch [
  | then-not-is_propagated-via-then-not-is_propagated w ↦ over_none c.args.state.now.state (option_copied c.args.new) c.args.kind (ap is_propagated (sym c.mode_in.ensures) ∙ sym c.is_propagated.ensures ∙ w.if-not-is_propagated.true)
  | then-not-is_propagated-via-else-not-is_propagated+then-is_propagated w ↦
      over_before c.args.state.now.state (option_copied c.args.new) (option_copied c.args.stored) c.args.kind c.requires.stored
      (ap is_propagated (sym w.mode_in-else-not-is_propagated.ensures) ∙ sym w.is_propagated-else-not-is_propagated.ensures ∙ w.if-is_propagated.true)
]

pub returns : goal.returns
returns c =
    let is : has_overwritten c.args.state.now.state c.args.kind ≡ comes_over c.args.state.now.state (option_copied c.args.new) c.args.kind =
    over_has c.args.state.now.state (option_copied c.args.new) (option_copied c.args.stored) c.args.kind c.requires.stored (ap is_propagated (sym c.mode_in.ensures) ∙ sym c.is_propagated.ensures ∙ c.if-not-is_propagated.false)
    (ap is_propagated (sym c.mode_in-else-not-is_propagated.ensures) ∙ sym c.is_propagated-else-not-is_propagated.ensures ∙ c.if-is_propagated.false) in
    rw (← is) c.has_overwritten.ensures
