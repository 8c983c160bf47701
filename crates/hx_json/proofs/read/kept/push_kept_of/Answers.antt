use Rattle.std.proofs.Common.{◌≡◌, ◌∙◌, ap, sym}
use Rattle.std.proofs.lemmas.Result.{IfOk-weaker}
use Rattle.json.specs.Json as json
use Rattle.json.specs.Value.{members_view, value_view}
use Rattle.json.proofs.Trees.{view-Object}
use Rattle.hx_json.specs.Trees.{kept_of, laid_members, own_trees, places_in}
use Rattle.hx_json.proofs.read.kept.push_kept_of.Goals as goal

pub returns-in-Object-clause-places : goal.returns-in-Object-clause-places
returns-in-Object-clause-places c =
    let seen : value_view c.args.value.now ≡ json.object (members_view c.in-Object.members.items) = ap value_view c.in-Object.is ∙ view-Object c.in-Object.members in
    IfOk-weaker c.push_kept.result _ _ (λ p h. h ∙ ap (λ ms. places_in (laid_members (kept_of (members_view ms)))) c.deref.ensures.value ∙ ap (λ j. places_in (laid_members (kept_of (own_trees j)))) (sym seen)) c.push_kept.ensures.places
