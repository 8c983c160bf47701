use Rattle.std.proofs.Common.{◌≡◌, ◌++◌, map, ℕ, List}
use Rattle.std.specs.Borrow.{Bor}
use Rattle.hx_report.specs.Outline.{line_at}
use Rattle.hx_report.proofs.outline.open_all.Given as goal

-- those so far are opened
abbrev pub invariant-loop-name : goal.invariant-loop-name
invariant-loop-name l = l.opened.items ≡ l.fn.opened.items ++ map (line_at l.level) (map (λ (y : Bor (List ℕ)). y.now) l.yielded)
