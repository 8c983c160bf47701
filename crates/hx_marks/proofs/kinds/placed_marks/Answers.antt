use Rattle.std.proofs.Common.{sym, ap, ◌∙◌}
use Rattle.std.specs.Prelude.{option_copied}
use Rattle.hx_model.specs.Cases.{same_name}
use Rattle.hx_model.specs.Forest.{Forest, parent_of}
use Rattle.hx_marks.specs.Reads.{state_in}
use Rattle.hx_marks.proofs.Adding.{grown}
use Rattle.hx_marks.proofs.Placing.{goes, stays}
use Rattle.hx_marks.proofs.kinds.placed_marks.Goals as goal

pub returns-then-is_same_name : goal.returns-then-is_same_name
returns-then-is_same_name c =
    let s = state_in c.args.current.now in
    let n = c.args.name.now in
    let old = c.parent-old.ensures ∙ ap (λ (f : Forest). parent_of f n) c.args.current.now.tree in
    grown c.kept_marks.result _ _ _ _ (stays s n (option_copied c.args.parent) (ap (λ o. same_name o (option_copied c.args.parent)) (sym old) ∙ sym c.is_same_name.ensures ∙ c.if-is_same_name.true)) c.kept_marks.ensures

pub returns : goal.returns
returns c =
    let s = state_in c.args.current.now in
    let n = c.args.name.now in
    let old = c.parent-old.ensures ∙ ap (λ (f : Forest). parent_of f n) c.args.current.now.tree in
    grown c.moved_marks.result _ _ _ _ (goes s n (option_copied c.args.parent) (option_copied c.parent-old.result) old (ap (λ o. same_name o (option_copied c.args.parent)) (sym old) ∙ sym c.is_same_name.ensures ∙ c.if-is_same_name.false)) c.moved_marks.ensures
