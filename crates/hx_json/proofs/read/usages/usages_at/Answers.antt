use Rattle.std.proofs.Common.{◌≡◌, ◌∙◌, ap, sym, subst, true, option_map, Some}
use Rattle.std.proofs.lemmas.Result.{IfOk-weaker}
use Rattle.json.specs.Json as json
use Rattle.json.specs.Value.{members_view, value_view}
use Rattle.json.proofs.Trees.{view-Object}
use Rattle.hx_object.specs.Json.{members_in}
use Rattle.hx_json.specs.Rows.{usages_of}
use Rattle.hx_json.specs.Trees.{data_of, is_sorted, laid_members, said}
use Rattle.hx_json.proofs.Kept.{members_stand}
use Rattle.hx_json.proofs.read.usages.usages_at.Goals as goal

pub returns-in-Object : goal.returns-in-Object
returns-in-Object c =
    let used = option_map (λ v. said v.now) c.args.used in
    let ms = members_view c.in-Object.members.items in
    let seen : value_view c.args.hard.now ≡ json.object ms = ap value_view c.in-Object.is ∙ view-Object c.in-Object.members in
    let order = subst (λ j. is_sorted j ≡ true) seen c.requires in
    IfOk-weaker c.usages_of.result _ _ (λ l h. h ∙ ap (λ xs. usages_of used (laid_members (members_view xs))) c.deref.ensures.value ∙ sym (ap (usages_of used) (members_stand ms order)) ∙ ap (λ j. usages_of used (members_in (Some (data_of j)))) (sym seen)) c.usages_of.ensures
