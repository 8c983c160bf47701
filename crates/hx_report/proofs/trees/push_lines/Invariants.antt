use Rattle.std.proofs.Common.{◌≡◌, ◌++◌, drop, string_bytes}
use Rattle.std.specs.List.{flat_map}
use Rattle.hx_survey.specs.Surveyed.{tree_of}
use Rattle.hx_report.specs.Trees.{tree_line}
use Rattle.hx_report.proofs.trees.push_lines.Given as goal

-- with the lines that are left it is the whole
abbrev pub invariant-loop-line : goal.invariant-loop-line
invariant-loop-line l = string_bytes l.out ++ flat_map (tree_line l.survey.objects (tree_of l.survey)) (drop l.line-index l.lines) ≡ string_bytes l.fn.out ++ flat_map (tree_line l.survey.objects (tree_of l.survey)) l.lines
