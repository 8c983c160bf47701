use Rattle.std.proofs.Common.{◌∙◌}
use Rattle.hx_select.proofs.Members.{same_lookup}
use Rattle.hx_marks.proofs.live.Live.of.Goals as goal

pub returns : goal.returns
returns c = c.get.ensures.value ∙ same_lookup c.args.name.now c.args.self.now.known.entries
