-- The text of a tree.
--     indent k             two spaces for each level
--     mark found           what stands before the name of a subnamespace
--     tree_line            the line of a namespace: its level, its mark, its name, and why it is halted or misses its anchor
--     tree_text            the lines of all namespaces
use Rattle.std.specs.Prelude.{ℕ, zero, suc, Bool, false, List, [], ◌++◌, codes, is_some, Option, if◌then◌else◌}
use Rattle.std.specs.List.{flat_map}
use Rattle.std.specs.Option.{option_map_or}
use Rattle.hx_object.specs.Json.{reason_text}
use Rattle.hx_object.specs.declared.object.Condition.{Condition}
use Rattle.hx_object.specs.declared.object.Object.{Object}
use Rattle.hx_model.specs.Forest.{Forest}
use Rattle.hx_model.specs.Reports.{conditions_in}
use Rattle.hx_model.specs.State.{Objects, object_at, namespace_id}
use Rattle.hx_model.specs.Tree.{forest_in, subnamespace_parent}
use Rattle.hx_report.specs.Outline.{lines_of}
use Rattle.hx_report.specs.declared.outline.Line.{Line}

-- two spaces for each level
abbrev pub indent : ℕ → List ℕ
indent zero = []
indent (suc level) = codes "  " ++ indent level

-- a subnamespace has the annotation that names its parent
abbrev pub is_subnamespace : Option Object → Bool
is_subnamespace found = option_map_or (λ x. is_some (subnamespace_parent x)) found false

abbrev pub mark : Option Object → List ℕ
mark found = if is_subnamespace found then codes "[s] " else []

-- the reason of a condition, behind a name
abbrev pub reason_behind : Condition → List ℕ
reason_behind condition = codes " (" ++ (reason_text condition ++ codes ")")

-- the line of a namespace
abbrev pub tree_line : Objects → Forest → Line → List ℕ
tree_line objects f line =
    indent line.level
    ++ (mark (object_at objects (namespace_id line.name))
    ++ (line.name
    ++ (flat_map reason_behind (conditions_in objects f line.name)
    ++ codes "\n")))

-- the lines of all namespaces
abbrev pub tree_of_lines : Objects → Forest → List ℕ
tree_of_lines objects f = flat_map (tree_line objects f) (lines_of f)

-- the same by the names that are excluded
unfoldable pub tree_text : List (List ℕ) → Objects → List ℕ
tree_text excluded objects = tree_of_lines objects (forest_in excluded objects)
