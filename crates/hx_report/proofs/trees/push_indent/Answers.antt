use Rattle.std.proofs.Common.{◌++◌, ap, ◌∙◌, append_assoc, string_bytes}
use Rattle.std.specs.Prelude.{codes}
use Rattle.hx_report.specs.Trees.{indent}
use Rattle.hx_report.proofs.Writing.{indent_more}
use Rattle.hx_report.proofs.trees.push_indent.Goals as goal

pub loop-i-preserved : goal.loop-i-preserved
loop-i-preserved c =
    c.in_ok-push.ensures
    ∙ ap (λ xs. xs ++ codes "  ") c.loop-i.invariant
    ∙ append_assoc (string_bytes c.args.out.now) (indent c.loop-i.i) (codes "  ")
    ∙ ap (λ xs. string_bytes c.args.out.now ++ xs) (indent_more c.loop-i.i)
