use Rattle.std.proofs.Common.{◌≡◌, ◌++◌, List, [], ◌∙◌, ap, rules}
use Rattle.hx_object.specs.declared.object.Object.{Object}
use Rattle.hx_marks.specs.Law.{all_sent, in_one}
use Rattle.hx_marks.proofs.moves.sent_apart.Goals as goal

pub returns : goal.returns
returns c =
    let objects = c.args.current.now.store.now.objects in
    let before = c.deref.ensures.value ∙ c.in_ok-before.ensures in
    let after = c.deref-2.ensures.value ∙ c.in_ok-after.ensures in
    let names = c.deref-3.ensures.value ∙ c.in_ok-names.ensures ∙ (λ i. in_one (before i) (after i)) in
    let none : c.new-sent.result.items ≡ [] = search rules in
    c.in_ok-all_sent.ensures ∙ ap (λ (xs : List Object). xs ++ all_sent objects c.deref-3.result.now) none ∙ ap (all_sent objects) names
