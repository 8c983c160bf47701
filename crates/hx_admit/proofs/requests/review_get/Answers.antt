use Rattle.std.proofs.Common.{◌≡◌, Some, sym}
use Rattle.hx_model.specs.State.{object_at}
use Rattle.hx_admit.proofs.Reviewing.{passes_get, served_found}
use Rattle.hx_admit.proofs.requests.review_get.Goals as goal

pub returns-in_ok-shown-in-Some-clause-passes : goal.returns-in_ok-shown-in-Some-clause-passes
returns-in_ok-shown-in-Some-clause-passes c =
    let there : object_at c.args.state.now.state.objects c.args.id.now ≡ Some c.in-Some.object.now = rw c.store.ensures.objects at (sym c.in-Some.ensures) in
    passes_get c.args.state.now.state c.args.id.now c.in-Some.object.now _ _ there (served_found c.args.state.now.state c.args.id.now _ c.law_of_validity.ensures there) c.in_ok-shown-in-Some.ensures.writing c.in_ok-shown-in-Some.ensures.answers
