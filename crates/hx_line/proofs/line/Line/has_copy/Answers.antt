use Rattle.std.proofs.Common.{◌∙◌}
use Rattle.hx_model.specs.Keys.{same_key}
use Rattle.hx_model.specs.declared.key.Key.TheVariants as key
use Rattle.hx_line.proofs.Lining.{among_there}
use Rattle.hx_line.proofs.line.Line.has_copy.Goals as goal

pub returns : goal.returns
unfolding same_key
returns c = rw (← c.self.view_is) (c.contains_key.ensures ∙ among_there (same_key (key.Copy c.args.key.ns.now c.args.key.kind c.args.key.name.now)) c.self.inside.items.entries)
