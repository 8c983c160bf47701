use Rattle.std.proofs.Common.{◌∙◌, ℕ, List, sym, subst}
use Rattle.hx_store.specs.Sources.{HasNoneBeside}
use Rattle.hx_model.specs.State.{Objects}
use Rattle.hx_admit.proofs.Conflicting.{reached_none, unreached}
use Rattle.hx_admit.proofs.conflicts.may_be_reached.Goals as goal

pub returns-then-not-is_propagated : goal.returns-then-not-is_propagated
returns-then-not-is_propagated c = λ _. sym (unreached c.args.state.now.state c.args.new.now.id.ns c.args.new.now.id.kind c.args.new.now.id.name c.mode.result c.mode.ensures (sym c.is_propagated.ensures ∙ c.if-not-is_propagated.true))

pub returns : goal.returns
returns c = λ out.
    let id = c.args.new.now.id in
    reached_none c.args.state.now.state id.ns id.kind id.name
    (subst (λ (objects : Objects). HasNoneBeside objects id.kind id.name id.ns) c.store.ensures.objects
    (subst (λ (m : List ℕ). HasNoneBeside c.store.result.now.objects id.kind id.name m) c.as_str-2.ensures.value
    (subst (λ (n : List ℕ). HasNoneBeside c.store.result.now.objects id.kind n c.as_str-2.result.now) c.as_str.ensures.value (c.may_lie_beside.ensures out))))
