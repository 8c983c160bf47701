use Rattle.std.proofs.Common.{[], ◌∷◌, sym, subst}
use Rattle.hx_quota.specs.Counters.{Entries, CountersView, with_shifted, AllFit}
use Rattle.hx_quota.proofs.counters.Counters.shift_at.Goals as goal

pub shift-requires-clause-fits : goal.shift-requires-clause-fits
shift-requires-clause-fits c = subst (λ (v : CountersView). AllFit (with_shifted (c.args.ns.now ∷ []) c.args.deltas.now v.entries)) (sym c.self.view_is) c.requires.fits

pub invariant_of-self : goal.invariant_of-self
invariant_of-self c =
    let fits = subst (λ (v : CountersView). AllFit (with_shifted (c.args.ns.now ∷ []) c.args.deltas.now v.entries)) (sym c.self.view_is) c.requires.fits in
    (subst (λ (es : Entries). AllFit es) (sym c.shift.ensures.entries) fits, c.shift.ensures.kept)
