-- The rules on HierarchicalResourceQuotas.
--     limits_unknown x     a quota limits what stands for no resource
--     quota_rules c        the rule that a quota which is given breaks
-- What quotas refuse is in Quotas.
use Rattle.std.specs.Prelude.{Bool, is_none, List, [], ◌∷◌, Option}
use Rattle.std.specs.List.{list_any}
use Rattle.hx_object.specs.declared.object.Limit.{Limit}
use Rattle.hx_object.specs.declared.object.Object.{Object}
use Rattle.hx_model.specs.Cases.{Case, breaks, any_of}
use Rattle.hx_model.specs.Charges.{hard_of, resource_named}
use Rattle.hx_model.specs.declared.denial.Denial.{Denial}
use Rattle.hx_model.specs.declared.rule.Rule.TheVariants.{Q3}

-- the name of a limit stands for no resource
abbrev pub is_unknown : Limit → Bool
is_unknown limit = is_none (resource_named limit.resource)

abbrev pub limits_unknown : Object → Bool
limits_unknown x = list_any is_unknown (hard_of x.payload)

-- a quota is given whose limits are of resources that are known. `admission=skip` doesn't pass over it
abbrev pub quota_rules : Case → List (Option Denial)
quota_rules c = breaks Q3 (any_of limits_unknown c.new) ∷ []
