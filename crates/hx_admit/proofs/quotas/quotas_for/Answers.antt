use Rattle.std.proofs.Common.{rules, ◌≡◌, false, Some, sym, ◌∙◌}
use Rattle.hx_model.specs.Quotas.{quotas_in}
use Rattle.hx_store.proofs.Listing.{flat_none}
use Rattle.hx_admit.proofs.quotas.quotas_for.Goals as goal

pub returns-then-not-may_have : goal.returns-then-not-may_have
returns-then-not-may_have c =
    let none : c.may_have.result ≡ false = search rules in
    c.new.ensures.items ∙ sym (flat_none (quotas_in c.args.state.now.state.objects) (λ a. rw c.store.ensures.objects at (c.may_have.ensures none (Some a))) _)
