use Rattle.std.proofs.Common.{◌≡◌, drop}
use Rattle.std.specs.List.{list_all}
use Rattle.hx_object.specs.Faults.{is_legal_label}
use Rattle.hx_object.proofs.faults.are_legal_labels.Given as goal

-- what is left tells whether all pass
abbrev pub invariant-loop-label : goal.invariant-loop-label
invariant-loop-label l = list_all is_legal_label (drop l.label-index l.labels) ≡ list_all is_legal_label l.labels
