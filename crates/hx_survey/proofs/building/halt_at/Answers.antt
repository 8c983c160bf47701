use Rattle.std.proofs.Common.{◌∙◌, sym}
use Rattle.hx_survey.proofs.Walked.{comes_back_by, halt_cycle, halt_apart_by}
use Rattle.hx_survey.proofs.building.halt_at.Goals as goal

pub returns-then-passes : goal.returns-then-passes
returns-then-passes c =
    halt_cycle c.args.nodes.now c.args.name.now
    (sym (comes_back_by c.args.nodes.now c.args.ups.now c.requires.ups c.args.name.now c.up_from-up.result c.args.place c.up_from-up.ensures c.requires.place) ∙ sym c.passes.ensures ∙ c.if-passes.true)

pub returns-else-passes : goal.returns-else-passes
returns-else-passes c =
    rw (c.halt_by.ensures, c.node_at.ensures, c.node_at-else-passes.ensures)
    (halt_apart_by c.args.nodes.now c.args.ups.now c.requires.ups c.args.name.now c.up_from-up.result c.args.place c.up_from-up.ensures c.requires.place
    (sym (comes_back_by c.args.nodes.now c.args.ups.now c.requires.ups c.args.name.now c.up_from-up.result c.args.place c.up_from-up.ensures c.requires.place) ∙ sym c.passes.ensures ∙ c.if-passes.false))
