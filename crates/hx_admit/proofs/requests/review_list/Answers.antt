use Rattle.std.proofs.Common.{◌≡◌, ◌∙◌, ap, filter, rules}
use Rattle.std.proofs.lemmas.Fn.{filter_same}
use Rattle.std.specs.Prelude.{option_copied}
use Rattle.hx_object.specs.declared.object.Object.{Object}
use Rattle.hx_select.specs.Selectors.{selects}
use Rattle.hx_model.specs.Answers.{is_listed, selected}
use Rattle.hx_model.specs.Fields.{has_fields}
use Rattle.hx_model.specs.declared.ask.Answer.TheVariants.{Many}
use Rattle.hx_admit.proofs.Reviewing.{listed_legal, passes_list}
use Rattle.hx_admit.proofs.requests.review_list.Goals as goal

pub returns-clause-passes : goal.returns-clause-passes
returns-clause-passes c =
    let kind = c.args.kind in
    let ns = option_copied c.args.ns in
    let selector = c.args.selector in
    let fields = c.args.fields.now in
    let holds = λ (x : Object). selects selector x.labels in
    let has = λ (x : Object). has_fields fields x.id in
    let kept = filter_same _ holds _ (λ x b f k. search rules) _ _ c.retain.ensures.filtered in
    let left = filter_same _ has _ (λ x b f k. search rules) _ _ c.retain-2.ensures.filtered in
    let listed : c.of-2.result ≡ selected kind ns selector fields c.args.state.now.state.objects =
    c.of-2.ensures ∙ left ∙ ap (filter has) (kept ∙ ap (filter holds) (c.in_ok-objects.ensures ∙ ap (filter (is_listed kind ns)) c.store.ensures.objects)) in
    passes_list c.args.state.now.state kind ns selector fields _ _ (listed_legal c.args.state.now.state c.law_of_validity.ensures kind ns selector fields) c.unchanged.ensures.writing
    (c.unchanged.ensures.answers ∙ (λ i. Many kind (listed i) (c.version.ensures i)))
