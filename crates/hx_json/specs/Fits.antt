-- What is asked of the tree of a row before it is read.
use Rattle.std.specs.Prelude.{Bool, ◌&&◌}
use Rattle.json.specs.Json.{Json}
use Rattle.hx_object.specs.declared.kind.Kind.{Kind}
use Rattle.hx_model.specs.Serving.{has_type}
use Rattle.hx_json.specs.Inside.{has_quantities}
use Rattle.hx_json.specs.Trees.{data_of, has_sorted_usages, is_ordered}

-- what is kept in order is in order, and members that are read have their types
abbrev pub is_fit : Kind → Json → Bool
is_fit kind j = is_ordered kind j && has_type kind (data_of j) && has_quantities kind (data_of j) && has_sorted_usages j
