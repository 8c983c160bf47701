use Rattle.std.proofs.Common.{◌≡◌, ◌++◌, drop}
use Rattle.std.specs.Prelude.{flat_map}
use Rattle.hx_marks.specs.Law.{copy_marks, source_marks}
use Rattle.hx_marks.proofs.modes.marks_of_all.Given as goal

-- the marks so far, and those of the rest
abbrev pub invariant-loop-object : goal.invariant-loop-object
invariant-loop-object l = l.keys.items ++ flat_map (λ x. copy_marks l.forest.nodes l.before l.after x ++ source_marks l.forest.nodes l.before l.after x) (drop l.object-index l.objects) ≡ l.initial.keys.items ++ flat_map (λ x. copy_marks l.forest.nodes l.before l.after x ++ source_marks l.forest.nodes l.before l.after x) l.objects
