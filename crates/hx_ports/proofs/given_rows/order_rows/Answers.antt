use Rattle.std.proofs.Common.{◌∙◌}
use Rattle.hx_ports.specs.Rows.{rows_in, rows_over}
use Rattle.hx_ports.proofs.Placed.{laid_rows}
use Rattle.hx_ports.proofs.Unordered.{ordered-rows}
use Rattle.hx_ports.proofs.given_rows.order_rows.Goals as goal

pub returns-clause-ordered : goal.returns-clause-ordered
returns-clause-ordered c =
    let laid = laid_rows c.args.given.now.items c.lay_rows.new.given.items (rows_in c.args.held.now) (rows_in c.lay_rows.new.held) c.in_ok-lay_rows.ensures.laid c.lay_rows.ensures.same in
    ordered-rows c.sort_rows.result c.sort_rows.new.held (rows_over c.args.given.now.items (rows_in c.args.held.now)) c.sort_rows.ensures.sorted (c.sort_rows.ensures.same ∙ laid)
