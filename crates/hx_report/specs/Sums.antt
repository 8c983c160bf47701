-- What is told of quotas.
--     used_below         what the objects of a subtree are charged for a resource
--     used_by_name       the same by a name in `spec.hard`: 0 for one that stands for no resource
--     limit_line         the line of a limit: the namespace of its quota, the quota, the resource, what is used, and the limit
--     quota_text         the lines of all limits
use Rattle.std.specs.Prelude.{ℕ, List, [], ◌∷◌, filter, sum_by, None}
use Rattle.std.specs.List.{flat_map}
use Rattle.std.specs.Option.{option_map_or}
use Rattle.hx_object.specs.Quantities.{quantity_text}
use Rattle.hx_object.specs.declared.kind.Kind.TheVariants.{HierarchicalResourceQuota}
use Rattle.hx_object.specs.declared.object.Limit.{Limit}
use Rattle.hx_object.specs.declared.object.Object.{Object}
use Rattle.hx_model.specs.Charges.{hard_of, resource_named}
use Rattle.hx_model.specs.Forest.{Forest}
use Rattle.hx_model.specs.Quotas.{charge_below}
use Rattle.hx_model.specs.State.{Objects, is_listed}
use Rattle.hx_model.specs.Tree.{forest_in}
use Rattle.hx_model.specs.declared.resource.Resource.{Resource}
use Rattle.hx_report.specs.Words.{line_text}

-- what all objects of the subtree of a are charged, in thousandths
unfoldable pub used_below : Objects → Forest → List ℕ → Resource → ℕ
used_below objects f a r = sum_by (charge_below f a r) objects

-- the same by a name in `spec.hard`. One that stands for no resource counts nothing
abbrev pub used_by_name : Objects → Forest → List ℕ → List ℕ → ℕ
used_by_name objects f a name = option_map_or (used_below objects f a) (resource_named name) 0

-- the line of a limit of a quota
abbrev pub limit_line : Objects → Forest → Object → Limit → List ℕ
limit_line objects f q limit =
    line_text (q.id.ns ∷ q.id.name ∷ limit.resource ∷ quantity_text (used_by_name objects f q.id.ns limit.resource) ∷ quantity_text limit.amount ∷ [])

-- the lines of a quota, in the order of its limits
abbrev pub quota_lines : Objects → Forest → Object → List ℕ
quota_lines objects f q = flat_map (limit_line objects f q) (hard_of q.payload)

-- the lines of all quotas, in the order of namespaces and names
abbrev pub quotas_lines : Objects → Forest → List ℕ
quotas_lines objects f = flat_map (quota_lines objects f) (filter (is_listed HierarchicalResourceQuota None) objects)

-- the same by the names that are excluded
unfoldable pub quota_text : List (List ℕ) → Objects → List ℕ
quota_text excluded objects = quotas_lines objects (forest_in excluded objects)
