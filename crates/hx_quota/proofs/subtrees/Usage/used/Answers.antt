use Rattle.std.proofs.Common.{sym, ap, ◌∙◌}
use Rattle.hx_model.specs.First.{so}
use Rattle.hx_quota.specs.SubtreeUsage.{UsageView}
use Rattle.hx_quota.proofs.Staged.{used_some}
use Rattle.hx_quota.proofs.subtrees.Usage.used.Goals as goal

pub returns-then-self : goal.returns-then-self
returns-then-self c =
    let es = c.self.inside.counters.entries in
    c.used.ensures ∙ used_some c.args.store.now.objects c.args.forest.now.nodes es c.args.self.now.now (sym (ap (λ b. so b es) c.if-self.true) ∙ ap (λ (v : UsageView). v.now) c.self.view_is) c.requires c.args.ns.now c.args.resource
