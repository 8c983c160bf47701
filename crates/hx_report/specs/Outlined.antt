-- That the tree leaves nothing out, and says nothing twice.
--     lines_with n lines     how many of the lines are of n
--     HasOneLineEach         each namespace has exactly one line, and no other name has one
use Rattle.std.specs.Prelude.{◌≡◌, ℕ, ◌+◌, List, [], ◌∷◌, if◌then◌else◌}
use Rattle.std.specs.List.{IsDistinct}
use Rattle.std.specs.Str.{bytes_eq}
use Rattle.hx_model.specs.Forest.{Forest, names_of, is_there}
use Rattle.hx_report.specs.Outline.{lines_of}
use Rattle.hx_report.specs.declared.outline.Line.{Line}

-- how many of the lines are of n
abbrev pub lines_with : List ℕ → List Line → ℕ
lines_with n [] = 0
lines_with n (line ∷ lines) = (if bytes_eq n line.name then 1 else 0) + lines_with n lines

-- whatever names its parent, each namespace has exactly one line, and no other name has one
abbrev pub HasOneLineEach : Type 0
HasOneLineEach = (f : Forest) → IsDistinct bytes_eq (names_of f) → (n : List ℕ) → lines_with n (lines_of f) ≡ (if is_there f n then 1 else 0)
