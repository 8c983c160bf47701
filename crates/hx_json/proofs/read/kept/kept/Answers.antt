use Rattle.std.proofs.Common.{◌∙◌, ap, sym}
use Rattle.json.specs.Value.{value_view}
use Rattle.serde_json.specs.Data.{object}
use Rattle.serde_json.specs.Written.{compact_text}
use Rattle.hx_json.proofs.Kept.{kept_stand, placed}
use Rattle.hx_json.proofs.read.kept.kept.Goals as goal

pub new-requires : goal.new-requires
new-requires c =
    let text = c.in_ok-text.ensures ∙ c.as_str.ensures.value ∙ c.in_ok-places.ensures.text in
    placed (value_view c.args.value.now) c.in_ok-text.text c.in_ok-places.places c.requires.order c.requires.canonical c.requires.shallow text c.in_ok-places.ensures.places

pub returns : goal.returns
returns c =
    let text = c.in_ok-text.ensures ∙ c.as_str.ensures.value ∙ c.in_ok-places.ensures.text in
    c.new.ensures ∙ text ∙ ap (λ ms. compact_text (object ms)) (sym (kept_stand (value_view c.args.value.now) c.requires.order))
