use Rattle.std.proofs.Common.{◌≡◌, ◌++◌, drop}
use Rattle.std.specs.Prelude.{flat_map, option_copied}
use Rattle.hx_model.specs.Modes.{mode_in}
use Rattle.hx_marks.specs.Reads.{state_in}
use Rattle.hx_marks.specs.Law.{kind_marks}
use Rattle.hx_marks.proofs.modes.marks_of_kinds.Given as goal

-- the marks so far, and those of the rest
abbrev pub invariant-loop-kind : goal.invariant-loop-kind
invariant-loop-kind l = l.keys.items ++ flat_map (λ kind. kind_marks (state_in l.current) (mode_in (option_copied l.old) kind) (mode_in (option_copied l.new) kind) kind) (drop l.kind-index l.kinds) ≡ l.initial.keys.items ++ flat_map (λ kind. kind_marks (state_in l.current) (mode_in (option_copied l.old) kind) (mode_in (option_copied l.new) kind) kind) l.kinds
