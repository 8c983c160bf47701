use Rattle.hx_model.specs.Texts.{key_text}
use Rattle.hx_ports.proofs.Found.{cut-rows_in}
use Rattle.hx_ports.proofs.row_map.cut_row.Goals as goal

pub returns : goal.returns
returns c = cut-rows_in c.args.held.now c.swap_remove.new.self (key_text c.args.id.now) c.swap_remove.ensures.keys c.swap_remove.ensures.updates.1 c.swap_remove.ensures.unique
