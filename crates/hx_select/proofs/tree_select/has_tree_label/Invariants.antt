use Rattle.std.proofs.Common.{◌≡◌, ◌++◌, drop}
use Rattle.std.specs.List.{list_any}
use Rattle.std.specs.Str.{bytes_eq}
use Rattle.hx_object.specs.WellKnown.{tree_suffix}
use Rattle.hx_select.proofs.tree_select.has_tree_label.Given as goal

-- what is left tells whether one has the label
abbrev pub invariant-loop-label : goal.invariant-loop-label
invariant-loop-label l = list_any (λ label. bytes_eq (l.name ++ tree_suffix) label.0) (drop l.label-index l.labels) ≡ list_any (λ label. bytes_eq (l.name ++ tree_suffix) label.0) l.labels
