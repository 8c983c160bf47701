use Rattle.std.specs.Prelude.{option_copied}
use Rattle.hx_core.proofs.Marked.{marks_left}
use Rattle.hx_core.proofs.touched.keys_of.Goals as goal

pub returns-in-Ok-clause-keys : goal.returns-in-Ok-clause-keys
returns-in-Ok-clause-keys c =
    marks_left c.args.state.now.state c.args.writes.now (option_copied c.args.own) c.leave_out.new.keys.items c.in_ok-keys.keys.items c.in_ok-keys.ensures.covers c.in_ok-keys.ensures.within c.leave_out.ensures.some c.leave_out.ensures.none
