use Rattle.std.proofs.Common.{◌∙◌, ap, sym, length}
use Rattle.std.specs.FinMap.{len}
use Rattle.hx_ports.specs.Rows.{rows_in}
use Rattle.hx_ports.proofs.Placed.{laid_rows}
use Rattle.hx_ports.proofs.Unordered.{count-given, len-rows_in, none_held}
use Rattle.hx_ports.proofs.given_rows.count_rows.Goals as goal

pub returns-then-is_empty-clause-count : goal.returns-then-is_empty-clause-count
returns-then-is_empty-clause-count c = ap length c.as_slice.ensures.value ∙ count-given c.args.given.now.items c.args.held.now c.requires.ascends (none_held c.args.held.now (c.is_empty.ensures.0 c.if-is_empty.true))

pub returns-clause-count : goal.returns-clause-count
returns-clause-count c =
    let laid = laid_rows c.args.given.now.items c.lay_rows.new.given.items (rows_in c.args.held.now) (rows_in c.lay_rows.new.held) c.in_ok-lay_rows.ensures.laid c.lay_rows.ensures.same in
    c.len.ensures.len ∙ sym (len-rows_in c.lay_rows.new.held c.len.ensures.unique) ∙ ap len laid
