use Rattle.std.proofs.Common.{◌≡◌, ◌++◌, ◌∷◌, [], ℕ, List, ap, ◌∙◌, rules}
use Rattle.hx_marks.specs.Senders.{senders_of}
use Rattle.hx_marks.proofs.Linking.{found_links}
use Rattle.hx_marks.proofs.links.step.Goals as goal

pub returns-in_ok-put_first-in-Some : goal.returns-in_ok-put_first-in-Some
returns-in_ok-put_first-in-Some c = λ above are.
    let objects = c.args.current.now.store.now.objects in
    let first = senders_of objects c.args.kinds.now (c.args.member.now ∷ []) in
    let none : c.new-senders.result.items ≡ [] = search rules in
    found_links objects c.args.kinds.now c.args.current.now.forest.now.nodes c.args.top.now above c.args.links.now c.args.member.now c.in-Some.above.now c.put_first.new.senders.items c.in-Some.ensures
    (c.in_ok-put_first-in-Some.ensures ∙ ap (λ (xs : List (List ℕ)). first ++ xs) (c.in_ok-push_names-in-Some.ensures ∙ ap (λ (xs : List (List ℕ)). xs ++ c.in-Some.above.now) none)) are
