-- What a tree selector asks of the tree labels of a namespace, as requirements.
--     tree_need name test     a requirement on the tree label of a name
--     plain_needs plain       that of the plain name is there
--     absent_needs names      those of the others aren't
use Rattle.std.specs.Prelude.{ℕ, List, [], ◌∷◌, ◌++◌, map, Option, Some, None}
use Rattle.hx_object.specs.WellKnown.{tree_suffix}
use Rattle.hx_select.specs.declared.selector.Requirement.{Requirement}
use Rattle.hx_select.specs.declared.selector.Test.{Test}
use Rattle.hx_select.specs.declared.selector.Test.TheVariants.{There, Absent}
use Rattle.hx_select.specs.Selectors.{requirement}

-- a requirement on the tree label of a name
abbrev pub tree_need : List ℕ → Test → Requirement
tree_need name test = requirement (name ++ tree_suffix) test

-- the tree label of the plain name is there, where there is a plain name
abbrev pub plain_needs : Option (List ℕ) → List Requirement
plain_needs None = []
plain_needs (Some name) = tree_need name There ∷ []

-- the tree labels of the others aren't there
abbrev pub absent_needs : List (List ℕ) → List Requirement
absent_needs names = map (λ name. tree_need name Absent) names
