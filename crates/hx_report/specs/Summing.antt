-- What a whole cluster counts.
--     deepest_of f names   how deep the deepest of namespaces stands
--     summary_text         the lines of the counts
use Rattle.std.specs.Prelude.{ℕ, List, [], ◌∷◌, ◌++◌, codes, count_by, filter, length, max, None}
use Rattle.std.specs.Fmt.{decimal}
use Rattle.hx_object.specs.declared.kind.Kind.{Kind}
use Rattle.hx_object.specs.declared.kind.Kind.TheVariants.{Namespace, Pod}
use Rattle.hx_model.specs.Forest.{Forest, depth_of, names_of}
use Rattle.hx_model.specs.Limits.{is_copy}
use Rattle.hx_model.specs.Propagation.{is_source}
use Rattle.hx_model.specs.State.{Objects, is_listed}
use Rattle.hx_model.specs.Tree.{forest_in}
use Rattle.hx_report.specs.Words.{named_line}

-- how deep the deepest of namespaces stands, and 0 where there is none
abbrev pub deepest_of : Forest → List (List ℕ) → ℕ
deepest_of f [] = 0
deepest_of f (n ∷ names) = max (depth_of f n) (deepest_of f names)

-- how many objects have a kind
abbrev pub number_of_kind : Kind → Objects → ℕ
number_of_kind kind objects = length (filter (is_listed kind None) objects)

-- a line of a name and a number
abbrev pub number_line : List ℕ → ℕ → List ℕ
number_line name number = named_line name (decimal number ∷ [])

-- how many namespaces there are, and how deep the deepest stands
abbrev pub tree_lines : Objects → Forest → List ℕ
tree_lines objects f = number_line (codes "namespaces") (number_of_kind Namespace objects) ++ number_line (codes "deepest") (deepest_of f (names_of f))

-- how many sources, copies and Pods there are
abbrev pub object_lines : Objects → List ℕ
object_lines objects =
    number_line (codes "sources") (count_by is_source objects)
    ++ (number_line (codes "copies") (count_by is_copy objects)
    ++ number_line (codes "pods") (number_of_kind Pod objects))

-- all of them, by the names that are excluded
unfoldable pub summary_text : List (List ℕ) → Objects → List ℕ
summary_text excluded objects = tree_lines objects (forest_in excluded objects) ++ object_lines objects
