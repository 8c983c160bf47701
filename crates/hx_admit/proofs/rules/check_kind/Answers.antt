use Rattle.std.proofs.Common.{◌∙◌}
use Rattle.hx_admit.specs.Ruling.{case_of}
use Rattle.hx_admit.proofs.Ruling.{other_rules}
use Rattle.hx_admit.proofs.rules.check_kind.Goals as goal

pub returns-in_default : goal.returns-in_default
returns-in_default c =
    c.check_source.ensures ∙ other_rules c.args.case.now.id.now.kind (case_of c.args.case.now) c.in_default.not-Namespace c.in_default.not-HncConfiguration c.in_default.not-HierarchyConfiguration c.in_default.not-SubnamespaceAnchor c.in_default.not-HierarchicalResourceQuota
