use Rattle.std.proofs.Common.{rules, ◌≡◌, true≢false, sym, ◌∙◌}
use Rattle.hx_model.specs.Wanted.{usages}
use Rattle.hx_reconcile.proofs.Placing.{usages_stand, usages_differ, usages_elsewhere}
use Rattle.hx_reconcile.proofs.usage.wanted_usages.Goals as goal

pub returns-in_default : goal.returns-in_default
returns-in_default c = usages_elsewhere c.args.sums.now c.args.quota.now c.in_default.not-Quota

pub returns-then-is_same : goal.returns-then-is_same
returns-then-is_same c =
    let told : c.of-told.result ≡ usages c.in-Quota.hard c.args.sums.now = search rules in
    usages_stand c.args.sums.now c.args.quota.now c.in-Quota.hard c.in-Quota.status c.in-Quota.is (c.is_same.ensures.0 c.if-is_same.true ∙ told)

pub returns : goal.returns
returns c =
    let id = c.in_ok-clone.ensures.cases in
    let told : c.of-told.result ≡ usages c.in-Quota.hard c.args.sums.now = search rules in
    let hard : c.in_ok-clone-4.field-0 ≡ c.in-Quota.hard = search rules in
    usages_differ c.args.sums.now c.args.quota.now c.in-Quota.hard c.in_ok-clone-4.field-0 c.in-Quota.status c.of-told.result c.in_ok-clone.field-0 c.in_ok-clone-2.field-0 c.in_ok-clone-3.field-0
    (λ i. record { kind = id.0 i; ns = id.1.0 i; name = id.1.1 i }) c.in_ok-clone-2.ensures.cases c.in_ok-clone-3.ensures.cases
    c.in-Quota.is hard told
    (λ e. true≢false (sym (c.is_same.ensures.1 e) ∙ c.if-is_same.false))
