use Rattle.std.proofs.Common.{◌≡◌, List, ℕ, Some, slice_get, sym, subst, ◌∙◌, ap}
use Rattle.hx_quota.specs.Counters.{shifted, HaveOld}
use Rattle.hx_quota.specs.Inside.{OwnFit}
use Rattle.hx_quota.specs.PlaceRows.{Place, PlacesView, Rows, joined, IsTable, linked}
use Rattle.std.specs.List.{IsDistinct}
use Rattle.std.specs.Str.{bytes_eq}
use Rattle.hx_quota.proofs.Joined.{keys_joined, joined_own, own_found, own_such, table_shifted}
use Rattle.hx_quota.proofs.place_table.PlaceTable.shift_own.Goals as goal

pub shift_row-requires-clause-old : goal.shift_row-requires-clause-old
shift_row-requires-clause-old c =
    let t = c.self.inside in
    let links = linked t.names.keys t.names.keys t.ups.items in
    own_such (λ (own : List ℕ). HaveOld c.args.deltas.now own) links t.own.items t.sums.rows c.self.invariant.0.own c.args.at
    (subst (λ (v : PlacesView). (n : List ℕ) (p : Place) → slice_get v.entries c.args.at ≡ Some (n, p) → HaveOld c.args.deltas.now p.entry.own) (sym c.self.view_is) c.requires.old)

pub shift_row-requires-clause-fits : goal.shift_row-requires-clause-fits
shift_row-requires-clause-fits c =
    let t = c.self.inside in
    let links = linked t.names.keys t.names.keys t.ups.items in
    own_such (λ (own : List ℕ). OwnFit (shifted c.args.deltas.now own)) links t.own.items t.sums.rows c.self.invariant.0.own c.args.at
    (subst (λ (v : PlacesView). (n : List ℕ) (p : Place) → slice_get v.entries c.args.at ≡ Some (n, p) → OwnFit (shifted c.args.deltas.now p.entry.own)) (sym c.self.view_is) c.requires.fits)

pub invariant_of-self : goal.invariant_of-self
invariant_of-self c =
    let t = c.self.inside in
    let links = linked t.names.keys t.names.keys t.ups.items in (
      subst (λ (rows : Rows). IsTable links rows t.sums.rows) (sym c.shift_row.ensures.rows) (table_shifted links t.own.items t.sums.rows c.args.at (shifted c.args.deltas.now) c.self.invariant.0),
      c.self.invariant.1,
      c.self.invariant.2,
    )

pub returns-clause-entries : goal.returns-clause-entries
returns-clause-entries c =
    let t = c.self.inside in
    let links = linked t.names.keys t.names.keys t.ups.items in
    rw (← c.self.view_is) (ap (λ (rows : Rows). joined links rows t.sums.rows) c.shift_row.ensures.rows ∙ joined_own links t.own.items t.sums.rows c.self.invariant.0.own c.args.at (shifted c.args.deltas.now))

pub returns-clause-long : goal.returns-clause-long
returns-clause-long c = λ n p is.
    let t = c.self.inside in
    let links = linked t.names.keys t.names.keys t.ups.items in
    c.shift_row.ensures.long p.entry.own (own_found links t.own.items t.sums.rows c.self.invariant.0.own c.args.at n p (ap (λ (v : PlacesView). slice_get v.entries c.args.at) c.self.view_is ∙ is))

pub returns-clause-distinct : goal.returns-clause-distinct
returns-clause-distinct c =
    let t = c.self.inside in
    rw (← c.self.view_is) (subst (λ (ks : List (List ℕ)). IsDistinct bytes_eq ks) (sym (keys_joined (linked t.names.keys t.names.keys t.ups.items) t.own.items t.sums.rows)) c.self.invariant.0.distinct)
