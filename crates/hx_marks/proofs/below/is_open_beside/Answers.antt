use Rattle.std.proofs.Common.{sym, ◌∙◌}
use Rattle.std.specs.Prelude.{option_copied}
use Rattle.hx_marks.proofs.TakingPart.{open_beside}
use Rattle.hx_marks.proofs.below.is_open_beside.Goals as goal

pub returns-then-is_same_name : goal.returns-then-is_same_name
returns-then-is_same_name c =
    c.is_eligible.ensures ∙ open_beside c.args.forest.now.nodes c.args.member.now (option_copied c.parent-parent.result) (option_copied c.args.above) c.parent-parent.ensures (sym c.is_same_name.ensures ∙ c.if-is_same_name.true) c.requires.above

pub returns-then-is_same_name-2 : goal.returns-then-is_same_name-2
returns-then-is_same_name-2 c =
    c.is_eligible-then-is_same_name-2.ensures ∙ open_beside c.args.forest.now.nodes c.args.member.now (option_copied c.parent-parent.result) (option_copied c.args.last) c.parent-parent.ensures (sym c.is_same_name-2.ensures ∙ c.if-is_same_name-2.true) c.requires.last
