use Rattle.std.proofs.Common.{◌≡◌, ◌&&◌, drop}
use Rattle.std.specs.List.{list_any}
use Rattle.hx_object.specs.declared.object.Object.{Object}
use Rattle.hx_model.specs.Propagation.{is_source}
use Rattle.hx_admit.specs.Conflicting.{would_go}
use Rattle.hx_admit.proofs.conflicts.any_overwritten.Given as goal

-- those that are left tell what all do
abbrev pub invariant-loop-object : goal.invariant-loop-object
invariant-loop-object l = list_any (λ (y : Object). is_source y && would_go l.state.state y.id) (drop l.object-index l.objects) ≡ list_any (λ (y : Object). is_source y && would_go l.state.state y.id) l.objects
