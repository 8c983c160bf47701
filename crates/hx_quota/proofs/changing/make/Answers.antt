use Rattle.std.proofs.Common.{rules, ◌≡◌, ℕ, List, [], ◌∷◌, length, sym, ap, subst, ◌∙◌}
use Rattle.std.specs.Prelude.{slice_index}
use Rattle.hx_quota.specs.declared.change.CounterChange.{CounterChange}
use Rattle.hx_quota.specs.declared.entry.Delta.{Delta}
use Rattle.hx_quota.specs.Counters.{Entries, place_of, total_of, shifted, with_shifted, HaveOld, AllFit}
use Rattle.hx_quota.specs.Counting.{MayChange}
use Rattle.hx_quota.specs.Inside.{OwnFit}
use Rattle.hx_quota.proofs.Totals.{totals_added, totals_removed, old_totals, fit_totals, shifted_totals}
use Rattle.hx_quota.proofs.changing.make.Goals as goal

pub shift-requires-clause-old : goal.shift-requires-clause-old
shift-requires-clause-old c =
    let es = c.args.counters.now.entries in
    let long : length c.args.totals.now ≡ 15 = search rules in
    let may = subst (λ (x : CounterChange). MayChange x es) c.in-Shift.is c.requires.may in
    subst (λ (ds : List Delta). HaveOld ds c.args.totals.now) (sym c.as_slice.ensures) (old_totals c.args.totals.now es c.requires.regular long c.requires.totals c.in-Shift.ns c.in-Shift.deltas (may.0, may.1, may.2))

pub shift-requires-clause-fits : goal.shift-requires-clause-fits
shift-requires-clause-fits c =
    let es = c.args.counters.now.entries in
    let long : length c.args.totals.now ≡ 15 = search rules in
    let may = subst (λ (x : CounterChange). MayChange x es) c.in-Shift.is c.requires.may in
    subst (λ (ds : List Delta). OwnFit (shifted ds c.args.totals.now)) (sym c.as_slice.ensures) (fit_totals c.args.totals.now es c.requires.regular long c.requires.totals c.in-Shift.ns c.in-Shift.deltas (may.0, may.1, may.2) may.3)

pub returns-in-Add-clause-totals : goal.returns-in-Add-clause-totals
returns-in-Add-clause-totals c =
    let es = c.args.counters.now.entries in
    totals_added c.args.totals.now es c.add.new.self.entries c.in-Add.name (subst (λ (x : CounterChange). MayChange x es) c.in-Add.is c.requires.may) c.add.ensures.entries c.requires.totals

pub returns-in-Shift-clause-totals : goal.returns-in-Shift-clause-totals
returns-in-Shift-clause-totals c = λ r.
    let es = c.args.counters.now.entries in
    let long : length c.args.totals.now ≡ 15 = search rules in
    let may = subst (λ (x : CounterChange). MayChange x es) c.in-Shift.is c.requires.may in
    ap (λ (xs : List ℕ). slice_index xs (place_of r)) (c.shift.ensures.sums ∙ ap (λ (ds : List Delta). shifted ds c.args.totals.now) c.as_slice.ensures)
    ∙ shifted_totals c.args.totals.now es c.requires.regular long c.requires.totals c.in-Shift.ns c.in-Shift.deltas (may.0, may.1, may.2) r
    ∙ sym (ap (λ (xs : Entries). total_of xs r) (c.shift_at.ensures.entries ∙ ap (λ (ds : List Delta). with_shifted (c.in-Shift.ns ∷ []) ds es) c.as_slice-in-Shift.ensures))

pub returns-in-Remove-clause-totals : goal.returns-in-Remove-clause-totals
returns-in-Remove-clause-totals c =
    let es = c.args.counters.now.entries in
    let may = subst (λ (x : CounterChange). MayChange x es) c.in-Remove.is c.requires.may in
    totals_removed c.args.totals.now es c.remove.new.self.entries c.in-Remove.name c.requires.regular may.1 c.remove.ensures.entries c.requires.totals

pub shift_at-requires-clause-fits : goal.shift_at-requires-clause-fits
shift_at-requires-clause-fits c =
    let es = c.args.counters.now.entries in
    let may = subst (λ (x : CounterChange). MayChange x es) c.in-Shift.is c.requires.may in
    subst (λ (ds : List Delta). AllFit (with_shifted (c.in-Shift.ns ∷ []) ds es)) (sym c.as_slice-in-Shift.ensures) may.3
