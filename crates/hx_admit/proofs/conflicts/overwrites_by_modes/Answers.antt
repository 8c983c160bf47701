use Rattle.std.proofs.Common.{◌≡◌, ◌∙◌, sym}
use Rattle.std.specs.Prelude.{option_copied}
use Rattle.std.specs.List.{list_any}
use Rattle.hx_model.specs.Conflicts.{makes_conflict}
use Rattle.hx_admit.specs.Conflicting.{copied_kinds, comes_over, with_written}
use Rattle.hx_admit.proofs.ConflictingModes.{config_conflict, other_config}
use Rattle.hx_admit.proofs.conflicts.overwrites_by_modes.Goals as goal

pub returns-then-is_config : goal.returns-then-is_config
returns-then-is_config c =
    let is : list_any (comes_over c.args.state.now.state (option_copied c.args.new)) copied_kinds ≡ makes_conflict c.args.state.now.state (with_written c.args.state.now.state c.args.id.now (option_copied c.args.new)) =
    config_conflict c.args.state.now.state c.args.id.now (option_copied c.args.new) c.law_of_validity.ensures.in_order c.requires.kind c.requires.given (sym c.is_config.ensures ∙ c.if-is_config.true) in
    rw (← is) c.any_comes_over.ensures

pub returns : goal.returns
returns c =
    other_config c.args.state.now.state c.args.id.now (option_copied c.args.new) c.law_of_validity.ensures.in_order c.requires.kind c.requires.given (sym c.is_config.ensures ∙ c.if-is_config.false)
