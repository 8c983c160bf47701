-- What is told of one namespace.
--     number_in test objects n   how many of the objects in a namespace the test takes
--     place_lines, counts_lines  where it stands in the tree, and why it is halted or misses its anchor;  how deep, and what lies in it
--     describe_text              all of them
use Rattle.std.specs.Prelude.{ℕ, Bool, ◌&&◌, List, [], ◌∷◌, ◌++◌, codes, map, count_by}
use Rattle.std.specs.Fmt.{decimal}
use Rattle.hx_object.specs.Json.{reason_text}
use Rattle.hx_object.specs.declared.object.Object.{Object}
use Rattle.hx_model.specs.Forest.{Forest, parent_of, children_of, depth_of}
use Rattle.hx_model.specs.Limits.{is_copy}
use Rattle.hx_model.specs.Propagation.{as_list, is_source}
use Rattle.hx_model.specs.Reports.{conditions_in}
use Rattle.hx_model.specs.State.{Objects, lies_in}
use Rattle.hx_model.specs.Tree.{forest_in}
use Rattle.hx_report.specs.Words.{named_line}

-- how many of the objects in a namespace the test takes
abbrev pub number_in : (Object → Bool) → Objects → List ℕ → ℕ
number_in test objects n = count_by (λ (x : Object). lies_in n x.id && test x) objects

-- its name, its parent, its children, and the reasons of its conditions
abbrev pub place_lines : Objects → Forest → List ℕ → List ℕ
place_lines objects f n =
    named_line (codes "namespace") (n ∷ [])
    ++ (named_line (codes "parent") (as_list (parent_of f n))
    ++ (named_line (codes "children") (children_of f n)
    ++ named_line (codes "conditions") (map reason_text (conditions_in objects f n))))

-- how far it is from the end of its chain, and how many sources and copies lie in it
abbrev pub counts_lines : Objects → Forest → List ℕ → List ℕ
counts_lines objects f n =
    named_line (codes "depth") (decimal (depth_of f n) ∷ [])
    ++ (named_line (codes "sources") (decimal (number_in is_source objects n) ∷ [])
    ++ named_line (codes "copies") (decimal (number_in is_copy objects n) ∷ []))

-- all that is told of a namespace
unfoldable pub describe_text : List (List ℕ) → Objects → List ℕ → List ℕ
describe_text excluded objects n = place_lines objects (forest_in excluded objects) n ++ counts_lines objects (forest_in excluded objects) n
