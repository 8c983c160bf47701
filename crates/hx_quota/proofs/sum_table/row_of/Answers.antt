use Rattle.std.proofs.Common.{rules, ◌≡◌, ℕ, ◌<◌, ◌+◌, slice_index, slice_set, subst, length, arith, sym, ap, ◌∙◌}
use Rattle.std.proofs.lemmas.List.{get_or_default, length-set}
use Rattle.std.proofs.lemmas.List.Edits.{fill_by_more}
use Rattle.hx_quota.specs.SumRows.{ColumnView, no_column, column_at}
use Rattle.hx_quota.proofs.sum_table.row_of.Goals as goal

pub loop-place-preserved : goal.loop-place-preserved
loop-place-preserved c =
    let f : ℕ → ℕ = λ k. slice_index (column_at c.args.columns.now k).sums c.args.at in
    let all : length c.args.columns.now ≡ 15 = search rules in
    let column = get_or_default c.args.columns.now c.loop-place.place no_column c.index-columns-place.result (omega (arith, all, c.loop-place-test.true)) in
    let read : f c.loop-place.place ≡ c.get_filled.result = ap (λ (x : ColumnView). slice_index x.sums c.args.at) column ∙ sym c.get_filled.ensures in
    record {
      long = length-set c.loop-place.row c.loop-place.place c.get_filled.result ∙ c.loop-place.invariant.long;
      done = subst (λ (n : ℕ). (k : ℕ) → k < c.loop-place.place + 1 → slice_index (slice_set c.loop-place.row c.loop-place.place n) k ≡ f k) read
          (fill_by_more f c.loop-place.row c.loop-place.place 0 (omega (arith, c.loop-place.invariant.long, c.loop-place-test.true)) c.loop-place.invariant.done);
    }
