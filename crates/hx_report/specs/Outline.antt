-- Which namespace stands on which line of the tree.
--     is_top f n         n stands at level 0
--     tops f             the namespaces that do
--     below f n          the namespaces whose lines stand below that of n, one level deeper
--     lines_under        a line with all those below it
--     lines_of f         all lines of the tree
-- A graph of parents may have cycles, and parents that aren't there. The members of a cycle stand at level 0, each with what hangs below it outside the cycle, so that no line stands twice.
use Rattle.std.specs.Prelude.{ℕ, zero, suc, ◌+◌, Bool, not, ◌&&◌, ◌||◌, ◌==◌, List, [], ◌∷◌, length, filter, map}
use Rattle.std.specs.List.{flat_map}
use Rattle.hx_model.specs.Forest.{Forest, names_of, is_child, depth_of, comes_back}
use Rattle.hx_report.specs.declared.outline.Line.{Line}

-- at level 0 stands a namespace whose chain is itself alone, and one in a cycle
abbrev pub is_top : Forest → List ℕ → Bool
is_top f n = (depth_of f n == 0) || comes_back f n

-- the namespaces at level 0, in byte order
abbrev pub tops : Forest → List (List ℕ)
tops f = filter (is_top f) (names_of f)

-- m is a child of n, and doesn't stand at level 0
abbrev pub stands_below : Forest → List ℕ → List ℕ → Bool
stands_below f n m = is_child f n m && not (is_top f m)

-- the children of n but for those at level 0, in byte order
abbrev pub below : Forest → List ℕ → List (List ℕ)
below f n = filter (stands_below f n) (names_of f)

abbrev pub line_at : ℕ → List ℕ → Line
line_at level name = record { level = level; name = name }

-- a line, and below it those of so many levels more, by what stands below each namespace
abbrev pub lines_under : (List ℕ → List (List ℕ)) → ℕ → Line → List Line
lines_under below zero line = line ∷ []
lines_under below (suc left) line = line ∷ flat_map (lines_under below left) (map (line_at (line.level + 1)) (below line.name))

-- all lines: no way down is longer than the forest
abbrev pub lines_of : Forest → List Line
lines_of f = flat_map (lines_under (below f) (length f)) (map (line_at 0) (tops f))
