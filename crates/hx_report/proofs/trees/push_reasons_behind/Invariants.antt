use Rattle.std.proofs.Common.{◌≡◌, ◌++◌, drop, string_bytes}
use Rattle.std.specs.List.{flat_map}
use Rattle.hx_report.specs.Trees.{reason_behind}
use Rattle.hx_report.proofs.trees.push_reasons_behind.Given as goal

-- with the reasons that are left it is the whole
abbrev pub invariant-loop-condition : goal.invariant-loop-condition
invariant-loop-condition l = string_bytes l.out ++ flat_map reason_behind (drop l.condition-index l.conditions) ≡ string_bytes l.fn.out ++ flat_map reason_behind l.conditions
