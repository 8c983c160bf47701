use Rattle.std.proofs.Common.{◌≡◌, ◌∙◌, ap, sym, subst, true}
use Rattle.json.specs.Json as json
use Rattle.json.specs.Value.{members_view, value_view}
use Rattle.json.proofs.Trees.{view-Object}
use Rattle.hx_json.specs.Reading.{are_texts, is_texts}
use Rattle.hx_json.specs.Trees.{data_of, is_sorted, laid_members}
use Rattle.hx_json.proofs.Kept.{texts_stand}
use Rattle.hx_json.proofs.read.shapes.is_texts.Goals as goal

pub returns-in-Object : goal.returns-in-Object
returns-in-Object c =
    let ms = members_view c.in-Object.members.items in
    let seen : value_view c.args.found.now ≡ json.object ms = ap value_view c.in-Object.is ∙ view-Object c.in-Object.members in
    let order = subst (λ j. is_sorted j ≡ true) seen c.requires in
    c.are_texts.ensures ∙ ap (λ xs. are_texts (laid_members (members_view xs))) c.deref.ensures.value ∙ sym (texts_stand ms order) ∙ ap (λ j. is_texts (data_of j)) (sym seen)
