use Rattle.std.proofs.Common.{◌≡◌, drop, max}
use Rattle.hx_model.specs.Forest.{names_of}
use Rattle.hx_survey.specs.Surveyed.{tree_of}
use Rattle.hx_report.specs.Summing.{deepest_of}
use Rattle.hx_report.proofs.summing.deepest_in.Given as goal

-- with the depths of those that are left it is the greatest of all
abbrev pub invariant-loop-entry : goal.invariant-loop-entry
invariant-loop-entry l = max l.deepest (deepest_of (tree_of l.survey) (names_of (drop l.entry-index (tree_of l.survey)))) ≡ deepest_of (tree_of l.survey) (names_of (tree_of l.survey))
