use Rattle.std.proofs.Common.{◌∙◌, ap}
use Rattle.hx_object.specs.declared.object.Object.{Object}
use Rattle.hx_model.specs.Texts.{key_text}
use Rattle.hx_ports.specs.Held.{key_front}
use Rattle.hx_ports.proofs.Keys.{whole_key}
use Rattle.hx_ports.proofs.held_row.whole_key.Goals as goal

pub returns : goal.returns
returns c = c.key_front.ensures ∙ ap (λ (x : Object). key_front (key_text x.id)) c.object.ensures ∙ whole_key c.args.object.now c.requires
