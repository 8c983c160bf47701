use Rattle.std.proofs.Common.{◌∙◌, ap}
use Rattle.std.specs.Ordering.{is_lt}
use Rattle.hx_object.specs.Texts.{bytes_cmp}
use Rattle.hx_ports.proofs.Placed.{order-is}
use Rattle.hx_ports.proofs.held_row.HeldRow.lies_behind.Goals as goal

pub returns : goal.returns
returns c = order-is is_lt c.lt.result c.args.after.now c.as_slice.result.now c.lt.ensures ∙ ap (λ k. is_lt (bytes_cmp c.args.after.now k)) (c.as_slice.ensures ∙ c.key.ensures)
