use Rattle.std.proofs.Common.{◌≡◌, drop}
use Rattle.std.specs.List.{list_all}
use Rattle.hx_object.specs.Faults.{is_legal_annotation}
use Rattle.hx_object.proofs.faults.are_legal_annotations.Given as goal

-- what is left tells whether all pass
abbrev pub invariant-loop-annotation : goal.invariant-loop-annotation
invariant-loop-annotation l = list_all is_legal_annotation (drop l.annotation-index l.annotations) ≡ list_all is_legal_annotation l.annotations
