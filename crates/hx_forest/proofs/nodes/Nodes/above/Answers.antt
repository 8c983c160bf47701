use Rattle.std.proofs.Common.{◌∙◌, option_copied, ap, sym}
use Rattle.hx_forest.proofs.ParentRefs.{step_index}
use Rattle.hx_forest.proofs.nodes.Nodes.above.Goals as goal

pub returns-in-Some : goal.returns-in-Some
returns-in-Some c = step_index c.args.self.now c.args.at c.in_ok-step.step.now c.in-Some.above c.step.ensures.unique c.requires (sym (ap option_copied c.in_ok-step.was) ∙ c.step.ensures.step) c.in-Some.ensures
