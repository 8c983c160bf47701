use Rattle.std.proofs.Common.{◌∙◌}
use Rattle.hx_model.specs.Conflicts.{labels_at}
use Rattle.hx_admit.proofs.conflicts.has_at.Goals as goal

pub returns : goal.returns
returns c = c.has-2.ensures ∙ c.looks_at_labels.ensures c.if-looks_at_labels.false _ (labels_at c.args.state.now.state c.args.ns.now)
