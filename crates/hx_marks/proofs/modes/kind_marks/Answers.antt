use Rattle.std.proofs.Common.{◌++◌, ◌∙◌, sym}
use Rattle.std.specs.Prelude.{flat_map}
use Rattle.hx_object.specs.declared.object.Object.{Object}
use Rattle.hx_marks.specs.Reads.{state_in}
use Rattle.hx_marks.specs.Law.{copy_marks, source_marks}
use Rattle.hx_marks.proofs.Adding.{grown, no_kind_marks, nothing}
use Rattle.hx_marks.proofs.modes.kind_marks.Goals as goal

pub returns-then-are_alike : goal.returns-then-are_alike
returns-then-are_alike c = nothing c.args.keys.now.items _ (no_kind_marks (state_in c.args.current.now) c.args.before c.args.after c.args.kind (sym c.are_alike.ensures ∙ c.if-are_alike.true))

pub returns : goal.returns
returns c =
    grown c.marks_of_all.result _ _ _ _ (λ i. flat_map (λ (x : Object). copy_marks (c.args.current.now.tree i) c.args.before c.args.after x ++ source_marks (c.args.current.now.tree i) c.args.before c.args.after x) ((c.deref.ensures.value ∙ c.in_ok-listed.ensures) i)) c.marks_of_all.ensures
