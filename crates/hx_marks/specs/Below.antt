-- What lies below a namespace.
--     open_below f n     the namespaces of its subtree that take part
--     live_below f n     those that take part whenever it does
--     below_children     what lies below those that name it as their parent, whether it is there or not
--     below_created      itself, and that
--     differ             one of two tests holds, and not the other
--     apart, in_one      the names that aren't among others;  those of exactly one of two lists
use Rattle.std.specs.Prelude.{ℕ, Bool, true, false, not, List, ◌∷◌, ◌++◌, filter, flat_map}
use Rattle.std.specs.List.{list_all}
use Rattle.hx_model.specs.Forest.{Forest, is_in, chain_of, children_of, subtree_of}
use Rattle.hx_model.specs.Moves.{is_eligible, up_to}
use Rattle.hx_model.specs.TreeLabels.{is_open}

-- the namespaces of a subtree that take part
abbrev pub open_below : Forest → List ℕ → List (List ℕ)
open_below f n = filter (is_open f) (subtree_of f n)

-- those that take part whenever n does: all up to n are there, not on their way out, and included
abbrev pub live_below : Forest → List ℕ → List (List ℕ)
live_below f n = filter (λ m. list_all (is_eligible f) (up_to n (chain_of f m))) (subtree_of f n)

-- what lies below those that name it as their parent, whether it is there or not
abbrev pub below_children : Forest → List ℕ → List (List ℕ)
below_children f n = flat_map (subtree_of f) (children_of f n)

-- n, and that
abbrev pub below_created : Forest → List ℕ → List (List ℕ)
below_created f n = n ∷ below_children f n

-- one of two tests holds, and not the other
abbrev pub differ : Bool → Bool → Bool
differ true b = not b
differ false b = b

-- the names that aren't among others
abbrev pub apart : List (List ℕ) → List (List ℕ) → List (List ℕ)
apart names others = filter (λ a. not (is_in a others)) names

-- the names of exactly one of two lists
abbrev pub in_one : List (List ℕ) → List (List ℕ) → List (List ℕ)
in_one a b = apart a b ++ apart b a
