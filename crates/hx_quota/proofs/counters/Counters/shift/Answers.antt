use Rattle.std.proofs.Common.{◌≡◌, Some, option_copied, ap, sym, subst, ◌∙◌}
use Rattle.std.specs.Prelude.{slice_get}
use Rattle.hx_quota.specs.Counters.{Entries, AllFit}
use Rattle.hx_quota.proofs.Deltas.{shifted_first}
use Rattle.hx_quota.proofs.Shifted.{first_there}
use Rattle.hx_quota.proofs.UsedSums.{in_tree}
use Rattle.hx_quota.proofs.counters.Counters.shift.Goals as goal

pub shift_at-requires-clause-there : goal.shift_at-requires-clause-there
shift_at-requires-clause-there c =
    let es = c.args.self.now.entries in
    let ns = c.in-Some.ns.now in
    let first : slice_get c.args.chain.now 0 ≡ Some ns = sym c.first.ensures.value ∙ ap option_copied c.in-Some.is in
    sym (in_tree es ns) ∙ first_there es c.args.chain.now ns c.requires.chain first

pub shift_at-requires-clause-fits : goal.shift_at-requires-clause-fits
shift_at-requires-clause-fits c =
    let es = c.args.self.now.entries in
    let ns = c.in-Some.ns.now in
    let first : slice_get c.args.chain.now 0 ≡ Some ns = sym c.first.ensures.value ∙ ap option_copied c.in-Some.is in
    subst (λ (xs : Entries). AllFit xs) (shifted_first es c.args.chain.now c.args.deltas.now ns first) c.requires.fits
