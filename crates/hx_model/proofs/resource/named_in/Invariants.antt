use Rattle.std.proofs.Common.{◌≡◌, drop}
use Rattle.std.specs.Prelude.{map}
use Rattle.std.specs.Map.{lookup}
use Rattle.std.specs.Str.{bytes_eq}
use Rattle.hx_model.proofs.resource.named_in.Given as goal

-- the rows that are left give the resource
abbrev pub invariant-loop-row : goal.invariant-loop-row
invariant-loop-row l = lookup (bytes_eq l.name) (map (λ row. (row.0.now, row.1)) (drop l.row-index l.rows)) ≡ lookup (bytes_eq l.name) (map (λ row. (row.0.now, row.1)) l.rows)
