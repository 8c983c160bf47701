use Rattle.std.proofs.Common.{◌≡◌, ◌∙◌, ap, sym, subst, true, Some}
use Rattle.json.specs.Json as json
use Rattle.json.specs.Value.{members_view, value_view}
use Rattle.json.proofs.Trees.{view-Object}
use Rattle.hx_object.specs.Json.{members_in}
use Rattle.hx_json.specs.Reading.{are_quantities}
use Rattle.hx_json.specs.Trees.{data_of, is_sorted, laid_members}
use Rattle.hx_json.proofs.Kept.{members_stand}
use Rattle.hx_json.proofs.read.quota.are_quantities.Goals as goal

pub returns-in-Object : goal.returns-in-Object
returns-in-Object c =
    let ms = members_view c.in-Object.members.items in
    let seen : value_view c.args.hard.now ≡ json.object ms = ap value_view c.in-Object.is ∙ view-Object c.in-Object.members in
    let order = subst (λ j. is_sorted j ≡ true) seen c.requires in
    c.have_quantities.ensures ∙ ap (λ xs. are_quantities (laid_members (members_view xs))) c.deref.ensures.value ∙ sym (ap are_quantities (members_stand ms order)) ∙ ap (λ j. are_quantities (members_in (Some (data_of j)))) (sym seen)
