use Rattle.std.proofs.Common.{[], sym, ◌∙◌}
use Rattle.std.specs.Prelude.{flat_map}
use Rattle.std.proofs.lemmas.List.{at_drop_all, get_or_default}
use Rattle.hx_object.specs.declared.kind.Kind.{Kind}
use Rattle.hx_marks.specs.Law.{sent_from}
use Rattle.hx_marks.proofs.Adding.{carried}
use Rattle.hx_marks.proofs.wants.may_send_any.Goals as goal

pub loop-kind-preserved : goal.loop-kind-preserved
loop-kind-preserved c = λ names.
    carried (λ (kind : Kind). sent_from c.args.store.now.objects kind names) c.args.kinds.now c.loop-kind.kind-index _ [] [] (flat_map (λ kind. sent_from c.args.store.now.objects kind names) c.args.kinds.now) c.loop-kind-test.true
    (get_or_default c.args.kinds.now c.loop-kind.kind-index _ _ c.loop-kind-test.true) (sym (c.may_send_kind.ensures c.if-may_send_kind.false names)) (c.loop-kind.invariant names)

pub returns : goal.returns
returns c = λ _ names.
    let all = flat_map (λ (kind : Kind). sent_from c.args.store.now.objects kind names) in
    sym (c.loop-kind.invariant names) ∙ at_drop_all all c.args.kinds.now c.loop-kind.kind-index c.loop-kind-test.false
