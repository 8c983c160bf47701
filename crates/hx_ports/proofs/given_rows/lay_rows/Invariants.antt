use Rattle.std.proofs.Common.{◌≡◌, ◌≤◌, length, true}
use Rattle.std.specs.FinMap.{is_sorted}
use Rattle.hx_object.specs.Texts.{bytes_cmp}
use Rattle.hx_ports.specs.Rows.{entries_of, rows_in, rows_over}
use Rattle.indexmap.specs.IndexSet.{spare}
use Rattle.hx_ports.proofs.given_rows.lay_rows.Given as goal

abbrev pub invariant-loop-held : goal.invariant-loop-held
invariant-loop-held l = record {
  same : rows_over l.given.items (rows_in l.held) ≡ rows_over l.fn.given.items (rows_in l.fn.held);
  ascends : is_sorted bytes_cmp (entries_of l.fn.given.items) ≡ true → is_sorted bytes_cmp (entries_of l.given.items) ≡ true;
  room : length l.given.items ≤ spare l.held;
}

abbrev pub decreases-loop-held : goal.decreases-loop-held
decreases-loop-held l = length l.given.items
