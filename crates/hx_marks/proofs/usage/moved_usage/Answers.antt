use Rattle.std.proofs.Common.{rules, ◌≡◌, ℕ, [], List, ◌++◌, sym, ap, ◌∙◌}
use Rattle.std.proofs.lemmas.List.{append-nil}
use Rattle.hx_model.specs.Quotas.{quotas_in}
use Rattle.hx_marks.proofs.Unlimited.{none_used}
use Rattle.hx_marks.proofs.usage.moved_usage.Goals as goal

pub returns-then-not-has_quotas : goal.returns-then-not-has_quotas
returns-then-not-has_quotas c =
    let keys = c.args.keys.now.items in
    let objects = c.args.current.now.store.now.objects in
    let none : (ns : List ℕ) → quotas_in objects ns ≡ [] = search rules in
    sym (ap (λ more. keys ++ more) (none_used objects none _) ∙ append-nil keys)
