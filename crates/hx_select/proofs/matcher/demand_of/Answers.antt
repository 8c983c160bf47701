use Rattle.std.proofs.Common.{◌∙◌}
use Rattle.hx_select.proofs.Members.{same_lookup}
use Rattle.hx_select.proofs.matcher.demand_of.Goals as goal

pub returns : goal.returns
returns c = c.get.ensures.value ∙ same_lookup c.args.key.now c.args.demands.now.entries
