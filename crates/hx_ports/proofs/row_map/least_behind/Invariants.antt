use Rattle.std.proofs.Common.{◌≡◌, ◌++◌, map, option_copied}
use Rattle.std.specs.FinMap.{entries, from_entries}
use Rattle.std.specs.Map.Iter.{deref}
use Rattle.std.specs.Prelude.{find as find_first}
use Rattle.hx_object.specs.Texts.{bytes_cmp}
use Rattle.hx_ports.specs.Rows.{lies_behind}
use Rattle.hx_ports.proofs.row_map.least_behind.Given as goal

abbrev pub invariant-loop-row : goal.invariant-loop-row
invariant-loop-row l = record {
  parts : map deref l.yielded ++ l.row-iterator ≡ l.held.keys;
  least : option_copied l.least ≡ find_first (lies_behind l.after) (entries (from_entries {R = bytes_cmp} (map deref l.yielded)));
}
