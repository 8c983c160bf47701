use Rattle.std.proofs.Common.{◌≡◌, ◌<◌, drop}
use Rattle.std.specs.Prelude.{map}
use Rattle.std.specs.List.{AllByRecursion}
use Rattle.std.specs.Map.{lookup}
use Rattle.std.specs.Str.{bytes_eq}
use Rattle.hx_quantity.specs.Inside.{times}
use Rattle.hx_quantity.proofs.factor.factor_in.Given as goal

-- the rows that are left give what the suffix stands for, over more than nothing
abbrev pub invariant-loop-row : goal.invariant-loop-row
invariant-loop-row l = record {
  same :
      lookup (bytes_eq l.suffix) (map (λ row. (row.0.now, times (record { times = row.1; over = row.2 }))) (drop l.row-index l.rows))
      ≡ lookup (bytes_eq l.suffix) (map (λ row. (row.0.now, times (record { times = row.1; over = row.2 }))) l.rows);
  over : AllByRecursion (λ row. 0 < row.2) (drop l.row-index l.rows);
}
