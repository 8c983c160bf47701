use Rattle.std.proofs.Common.{sym, ◌∙◌}
use Rattle.hx_script.proofs.Spaces.{space_cuts}
use Rattle.hx_script.proofs.words.cut.Goals as goal

pub range-requires-clause-end_boundary : goal.range-requires-clause-end_boundary
range-requires-clause-end_boundary c = (space_cuts c.args.text.now c.in-Some.space c.utf8.text (sym c.first_space.ensures ∙ c.in-Some.is)).0

pub range_from-requires : goal.range_from-requires
range_from-requires c _ = (space_cuts c.args.text.now c.in-Some.space c.utf8.text (sym c.first_space.ensures ∙ c.in-Some.is)).1
