use Rattle.std.proofs.Common.{◌∙◌}
use Rattle.hx_object.specs.contracts.object.IdPartialEq.TheImpl as id_eq
use Rattle.hx_ports.proofs.Keys.{one_key}
use Rattle.hx_ports.proofs.held_row.have_one_key.Goals as goal

pub returns : goal.returns
returns c = one_key c.args.one.now c.args.other.now c.eq.result c.requires.0 c.requires.1 (c.eq.ensures ∙ (λ i. (id_eq.ghosts).eq (c.object.ensures i).id (c.object-2.ensures i).id))
