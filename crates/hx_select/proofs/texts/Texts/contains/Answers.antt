use Rattle.std.proofs.Common.{◌∙◌}
use Rattle.hx_select.proofs.Members.{same_member}
use Rattle.hx_select.proofs.texts.Texts.contains.Goals as goal

pub returns : goal.returns
returns c = rw (← c.self.view_is) (c.contains.ensures ∙ same_member c.args.text.now c.self.inside.texts.keys)
