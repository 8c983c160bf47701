use Rattle.std.proofs.Common.{◌≡◌, ◌∙◌, ◌&&◌, ap, filter, None}
use Rattle.std.specs.List.{list_any}
use Rattle.hx_object.specs.declared.object.Object.{Object}
use Rattle.hx_model.specs.Answers.{is_listed}
use Rattle.hx_model.specs.Propagation.{is_source}
use Rattle.hx_admit.specs.Conflicting.{would_go, has_overwritten}
use Rattle.hx_admit.proofs.ConflictingModes.{has_is}
use Rattle.hx_admit.proofs.conflicts.has_overwritten.Goals as goal

pub returns : goal.returns
returns c =
    let is : list_any (λ (y : Object). is_source y && would_go c.args.state.now.state y.id) c.deref.result.now ≡ has_overwritten c.args.state.now.state c.args.kind =
    ap (list_any (λ (y : Object). is_source y && would_go c.args.state.now.state y.id)) (c.deref.ensures.value ∙ c.in_ok-listed.ensures ∙ ap (filter (is_listed c.args.kind None)) c.store.ensures.objects)
    ∙ has_is c.args.state.now.state c.args.kind in
    rw (← is) c.any_overwritten.ensures
