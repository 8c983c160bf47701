use Rattle.std.proofs.Common.{◌≡◌, ◌++◌, ℕ, List, drop, filter}
use Rattle.hx_model.specs.Forest.{names_of}
use Rattle.hx_survey.specs.Surveyed.{tree_of}
use Rattle.hx_report.specs.Inside.{list_at}
use Rattle.hx_report.specs.Outline.{is_top, stands_below}
use Rattle.hx_report.proofs.outline.places_of.Given as goal

-- with those that are left all stand in their places
abbrev pub invariant-loop-entry : goal.invariant-loop-entry
invariant-loop-entry l = record {
  tops : l.places.tops.items ++ filter (is_top (tree_of l.survey)) (names_of (drop l.entry-index l.nodes)) ≡ filter (is_top (tree_of l.survey)) (names_of l.nodes);
  below : (q : List ℕ) → list_at l.places q ++ filter (stands_below (tree_of l.survey) q) (names_of (drop l.entry-index l.nodes)) ≡ filter (stands_below (tree_of l.survey) q) (names_of l.nodes);
}
