use Rattle.std.proofs.Common.{rules, ◌≡◌, [], true, ap, subst, sym, ◌∙◌, arith, filter}
use Rattle.std.specs.List.Sorted.{IsPermutation}
use Rattle.std.proofs.lemmas.List.Sorted.{IsPermutation-refl}
use Rattle.hx_object.specs.declared.object.Object.{Object}
use Rattle.hx_model.specs.Answers.{is_listed}
use Rattle.hx_store.proofs.Listing.{places_listed}
use Rattle.hx_store.proofs.store.Store.may_have.Goals as goal

pub returns : goal.returns
returns c = λ none ns.
    let places = c.self.inside.places in
    let empty : c.is_empty.result ≡ true = search rules in
    sym (places_listed places c.self.invariant.ready.sound c.args.kind ns [] (subst (λ xs. IsPermutation xs []) (sym (c.is_empty.ensures empty ns)) (IsPermutation-refl {X = Object} [])) (λ k d from within. absurd (omega (arith, within)))
    ∙ ap (λ s. filter (is_listed c.args.kind ns) s.objects) c.self.view_is)
