-- Indents.
use Rattle.std.proofs.Common.{◌≡◌, ℕ, zero, suc, ◌+◌, ◌++◌, refl, sym, ap, ◌∙◌, add-one}
use Rattle.std.specs.Prelude.{codes}
use Rattle.hx_report.specs.Trees.{indent}

deeper : (level : ℕ) → indent level ++ codes "  " ≡ indent (suc level)
deeper zero = refl
deeper (suc level) = ap (λ xs. codes "  " ++ xs) (deeper level)

-- two more spaces are one more level
pub indent_more : (level : ℕ) → indent level ++ codes "  " ≡ indent (level + 1)
indent_more level = deeper level ∙ ap indent (sym (add-one level))
