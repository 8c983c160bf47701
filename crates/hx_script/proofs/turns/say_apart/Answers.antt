use Rattle.std.proofs.Common.{false}
use Rattle.hx_model.specs.Machine.{Took, Finished}
use Rattle.hx_script.specs.Turns.{turn_line}
use Rattle.hx_script.proofs.Saying.{Said-of, SaysText-after, SaysText-cut}
use Rattle.hx_script.proofs.turns.say_apart.Goals as goal

pub returns-in_err-say_taken : goal.returns-in_err-say_taken
returns-in_err-say_taken g c = SaysText-cut _ (turn_line (Took 0 c.args.turned.now.key false)) (turn_line (Finished 0 c.args.turned.now.end)) _ _ _ c.from_residual.result c.from_residual.ensures.1 c.in_err-say_taken.ensures

pub returns : goal.returns
returns g c = SaysText-after (turn_line (Took 0 c.args.turned.now.key false)) (turn_line (Finished 0 c.args.turned.now.end)) _ _ _ _ (Said-of _ _ _ _ c.in_ok-say_taken.ensures) c.say_finish.ensures
