-- Words for the inside of a report.
--     above_of f n       the namespace below whose line that of n stands: none where n stands at level 0
--     is_that above q    the name that may be none is q
--     list_at lists q    the names in the list of a name
--     opened_below       the lines that are opened below one, the last first
use Rattle.std.specs.Prelude.{ℕ, ◌+◌, Bool, false, List, [], map, reverse, nat_lt, Option, None, slice_get, if◌then◌else◌}
use Rattle.std.specs.Option.{option_map_or}
use Rattle.std.specs.Map.{lookup}
use Rattle.std.specs.Str.{bytes_eq}
use Rattle.hx_report.specs.Outline.{line_at}
use Rattle.hx_report.specs.declared.outline.Line.{Line}
use Rattle.hx_report.specs.declared.outline.Places.{Places}
use Rattle.hx_model.specs.Forest.{Forest, chain_of, comes_back}

-- the second member of its chain, unless it is in a cycle
abbrev pub above_of : Forest → List ℕ → Option (List ℕ)
above_of f n = if comes_back f n then None else slice_get (chain_of f n) 1

-- the name that may be none is q
abbrev pub is_that : Option (List ℕ) → List ℕ → Bool
is_that above q = option_map_or (λ a. bytes_eq a q) above false

-- the names in the list of a name
abbrev pub list_at : Places → List ℕ → List (List ℕ)
list_at p q = option_map_or (λ v. v.items) (lookup (bytes_eq q) p.below.entries) []

-- the lines that are opened below one, the last first: none where it is as deep as lines may be
abbrev pub opened_below : (List ℕ → List (List ℕ)) → ℕ → Line → List Line
opened_below below most line = if nat_lt line.level most then map (line_at (line.level + 1)) (reverse (below line.name)) else []
