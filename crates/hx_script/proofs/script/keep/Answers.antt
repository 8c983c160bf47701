use Rattle.std.proofs.Common.{◌∙◌, arith, length, ◌-◌, refl}
use Rattle.hx_script.specs.Running.{most_kept}
use Rattle.hx_script.proofs.Kept.{take_room}
use Rattle.hx_script.proofs.script.keep.Goals as goal

pub returns : goal.returns
returns c = c.in_ok-extend_from_slice.ensures.items ∙ take_room most_kept (most_kept - length c.args.waiting.now.items) c.min-count.result c.args.waiting.now.items c.args.stretch.now c.requires refl (omega (arith, c.min-count.ensures, c.len-room.ensures))
