use Rattle.std.proofs.Common.{◌≡◌, ◌++◌, string_bytes}
use Rattle.hx_report.specs.Trees.{indent}
use Rattle.hx_report.proofs.trees.push_indent.Given as goal

-- the spaces so far
abbrev pub invariant-loop-i : goal.invariant-loop-i
invariant-loop-i l = string_bytes l.out ≡ string_bytes l.fn.out ++ indent l.i
