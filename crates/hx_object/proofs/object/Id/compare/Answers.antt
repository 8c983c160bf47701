use Rattle.std.proofs.Common.{◌∙◌}
use Rattle.hx_object.proofs.Identities.{derived_cmp}
use Rattle.hx_object.proofs.object.Id.compare.Goals as goal

pub returns : goal.returns
returns c = c.cmp.ensures ∙ derived_cmp c.args.self.now c.args.other.now
