use Rattle.hx_ports.proofs.Found.{same-rows_in}
use Rattle.hx_ports.proofs.Placed.{so-true}
use Rattle.hx_ports.proofs.Unordered.{sorted-distinct}
use Rattle.hx_ports.proofs.row_map.sort_rows.Goals as goal

pub returns-clause-sorted : goal.returns-clause-sorted
returns-clause-sorted c = so-true _ (sorted-distinct c.sort.new.self.keys c.in_ok-sort.ensures.sorted c.sort.ensures.unique)

pub returns-clause-same : goal.returns-clause-same
returns-clause-same c = same-rows_in c.args.held.now c.sort.new.self c.sort.ensures.reordered.0 c.sort.ensures.unique
