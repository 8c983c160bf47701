use Rattle.std.proofs.Common.{sym, ap, ◌∙◌, ◌&&◌}
use Rattle.hx_marks.proofs.Linking.{found_live}
use Rattle.hx_marks.proofs.live.Live.step.Goals as goal

pub returns-then-is_eligible : goal.returns-then-is_eligible
returns-then-is_eligible c =
    let above = c.in-Some.above.now in
    found_live c.args.forest.now.nodes c.args.top.now c.args.self.now c.args.member.now above above c.requires c.in-Some.ensures
    (sym (ap (λ b. b && above) (sym c.is_eligible.ensures ∙ c.if-is_eligible.true)))

pub returns-else-is_eligible : goal.returns-else-is_eligible
returns-else-is_eligible c =
    let above = c.in-Some.above.now in
    found_live c.args.forest.now.nodes c.args.top.now c.args.self.now c.args.member.now above c.is_eligible.result c.requires c.in-Some.ensures
    (c.if-is_eligible.false ∙ sym (ap (λ b. b && above) (sym c.is_eligible.ensures ∙ c.if-is_eligible.false)))
