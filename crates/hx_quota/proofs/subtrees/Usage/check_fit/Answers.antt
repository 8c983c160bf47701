use Rattle.std.proofs.Common.{ℕ, List, [], ◌∷◌, ap, subst}
use Rattle.hx_quota.specs.Counters.{Entries, AllFit, with_shifted}
use Rattle.hx_quota.specs.Inside.{OwnFit}
use Rattle.hx_quota.specs.SubtreeUsage.{UsageView, MayShift}
use Rattle.hx_quota.proofs.Staged.{if_so}
use Rattle.hx_quota.proofs.Totals.{totals_fit}
use Rattle.hx_quota.proofs.subtrees.Usage.check_fit.Goals as goal

pub returns : goal.returns
returns c =
    let es = c.self.inside.counters.entries in
    let deltas = c.args.deltas.now in
    let fits = subst OwnFit c.in_ok-totals_after.ensures.after c.in_ok-totals_after.ensures.fits in
    if_so (λ (es : Entries). (n : List ℕ) → MayShift es n deltas → AllFit (with_shifted (n ∷ []) deltas es)) c.self.inside.counts es c.args.self.now.now (ap (λ (v : UsageView). v.now) c.self.view_is)
    (λ n. totals_fit c.self.inside.totals es c.self.invariant.regular c.totals_after.ensures.long c.self.invariant.whole n deltas fits)
