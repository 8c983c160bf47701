use Rattle.hx_ports.proofs.Keys.{front_taken}
use Rattle.hx_ports.proofs.held_row.front_of.Goals as goal

pub returns : goal.returns
returns c = front_taken c.args.key.now c.min.result c.min.ensures
