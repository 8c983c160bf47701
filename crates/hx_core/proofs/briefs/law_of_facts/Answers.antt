use Rattle.std.proofs.Common.{◌<◌, ◌^◌, length, subst}
use Rattle.std.specs.List.{AllByRecursion}
use Rattle.hx_reconcile.specs.Briefs.{planned_by}
use Rattle.hx_core.proofs.Keeping.{short_by}
use Rattle.hx_core.proofs.briefs.law_of_facts.Goals as goal

pub returns : goal.returns
returns c =
    short_by c.args.brief.now.facts (planned_by c.args.brief.now) (subst (λ xs. length xs < 2 ^ 64) c.chain_in.ensures c.law_of_chain.ensures)
    (subst (λ xs. AllByRecursion (λ sum. sum < 2 ^ 128) xs) c.sums_in.ensures c.law_of_sums.ensures)
