use Rattle.std.proofs.Common.{rules, ◌≡◌, ℕ, [], List, ◌++◌, option_copied, sym, ap, ◌∙◌}
use Rattle.std.proofs.lemmas.List.{append-nil}
use Rattle.hx_model.specs.Quotas.{quotas_in}
use Rattle.hx_marks.specs.Reads.{state_in}
use Rattle.hx_marks.proofs.Unlimited.{none_charged}
use Rattle.hx_marks.proofs.usage.charged_usage.Goals as goal

pub returns-then-not-has_quotas : goal.returns-then-not-has_quotas
returns-then-not-has_quotas c =
    let keys = c.args.keys.now.items in
    let none : (ns : List ℕ) → quotas_in c.args.current.now.store.now.objects ns ≡ [] = search rules in
    sym (ap (λ more. keys ++ more) (none_charged (state_in c.args.current.now) c.args.ns.now (option_copied c.args.old) (option_copied c.args.new) none) ∙ append-nil keys)
