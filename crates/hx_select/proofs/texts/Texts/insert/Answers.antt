use Rattle.hx_select.proofs.Members.{inserted}
use Rattle.hx_select.proofs.texts.Texts.insert.Goals as goal

pub returns : goal.returns
returns c = rw (← c.self.view_is) (inserted c.args.text c.self.inside.texts.keys c.insert.new.self.keys c.in_ok-insert.ensures.updates.0)
