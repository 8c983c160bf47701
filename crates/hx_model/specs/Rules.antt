-- The rules of admission.
--     rules c      the denials by the rules that a write or a removal breaks, in the order in which they are tried
-- These are the rules of HNC's validators, with this project's choice of their order.
use Rattle.std.specs.Prelude.{not, ◌&&◌, List, ◌∷◌, Option, None}
use Rattle.hx_object.specs.declared.kind.Kind.{Kind}
use Rattle.hx_object.specs.declared.kind.Kind.TheVariants.{Namespace, HncConfiguration, HierarchyConfiguration, SubnamespaceAnchor, HierarchicalResourceQuota}
use Rattle.hx_model.specs.Cases.{Case, breaks}
use Rattle.hx_model.specs.RulesAnchors.{anchor_rules}
use Rattle.hx_model.specs.RulesConfig.{misses_config, config_rules}
use Rattle.hx_model.specs.RulesCopies.{touches_copy, source_rules}
use Rattle.hx_model.specs.RulesHierarchy.{misses_hierarchy, hierarchy_rules}
use Rattle.hx_model.specs.RulesNamespace.{enters_leaving, namespace_rules}
use Rattle.hx_model.specs.RulesQuotas.{quota_rules}
use Rattle.hx_model.specs.declared.denial.Denial.{Denial}
use Rattle.hx_model.specs.declared.rule.Rule.TheVariants.{X1, N4, H7, C1, O1}

-- the objects of two kinds have one name
abbrev pub name_rule : Kind → Case → Option Denial
name_rule HierarchyConfiguration c = breaks H7 (misses_hierarchy c)
name_rule HncConfiguration c = breaks C1 (misses_config c)
name_rule _ c = None

-- the rules on the objects of a kind
abbrev pub kind_rules : Kind → Case → List (Option Denial)
kind_rules Namespace c = namespace_rules c
kind_rules HierarchyConfiguration c = hierarchy_rules c
kind_rules HncConfiguration c = config_rules c
kind_rules SubnamespaceAnchor c = anchor_rules c
kind_rules HierarchicalResourceQuota c = quota_rules c
kind_rules _ c = source_rules c

-- skipping has to be allowed, what is on its way out takes nothing in, and copies are reconcilers' alone, for every kind
abbrev pub rules : Case → List (Option Denial)
rules c =
    breaks X1 (c.skip && not c.config.allow_skip)
    ∷ breaks N4 (enters_leaving c)
    ∷ name_rule c.id.kind c
    ∷ breaks O1 (touches_copy c)
    ∷ kind_rules c.id.kind c
