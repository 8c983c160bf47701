use Rattle.std.proofs.Common.{◌≡◌, ◌<◌, List, ℕ, Some, length, slice_get, slice_set, ap, sym, subst, ◌∙◌, arith}
use Rattle.std.proofs.lemmas.Option.{same_Some, slice_get_read, slice_get_within}
use Rattle.hx_quota.specs.Counters.{shifted}
use Rattle.hx_quota.proofs.Joined.{set_row, no_row}
use Rattle.hx_quota.proofs.place_table.shift_row.Goals as goal

pub returns-then-at-len-clause-rows : goal.returns-then-at-len-clause-rows
returns-then-at-len-clause-rows c =
    let rows = c.args.rows.now.items in
    let deltas = c.args.deltas.now in
    let long : c.len.result ≡ length rows = c.len.ensures ∙ c.args.rows.now.ok.0 in
    let row : slice_get rows c.args.at ≡ Some c.index_mut.result.now = slice_get_read rows c.len.result c.args.at c.index_mut.result.now long c.if-at-len.true c.index_mut.ensures.value in
    ap (λ (own : List ℕ). slice_set rows c.args.at own) c.shift.ensures.sums ∙ set_row c.args.at (shifted deltas) rows c.index_mut.result.now row

pub returns-then-at-len-clause-long : goal.returns-then-at-len-clause-long
returns-then-at-len-clause-long c = λ own is.
    let rows = c.args.rows.now.items in
    let long : c.len.result ≡ length rows = c.len.ensures ∙ c.args.rows.now.ok.0 in
    let row : slice_get rows c.args.at ≡ Some c.index_mut.result.now = slice_get_read rows c.len.result c.args.at c.index_mut.result.now long c.if-at-len.true c.index_mut.ensures.value in
    subst (λ (xs : List ℕ). length xs ≡ 15) (same_Some c.index_mut.result.now own (sym row ∙ is)) c.shift.ensures.long

pub returns-else-at-len-clause-rows : goal.returns-else-at-len-clause-rows
returns-else-at-len-clause-rows c =
    let rows = c.args.rows.now.items in
    let long : c.len.result ≡ length rows = c.len.ensures ∙ c.args.rows.now.ok.0 in
    no_row c.args.at (shifted c.args.deltas.now) rows (omega (arith, long, c.if-at-len.false))

pub returns-else-at-len-clause-long : goal.returns-else-at-len-clause-long
returns-else-at-len-clause-long c = λ own is.
    let rows = c.args.rows.now.items in
    let long : c.len.result ≡ length rows = c.len.ensures ∙ c.args.rows.now.ok.0 in
    let within : c.args.at < length rows = slice_get_within rows c.args.at own is in
    absurd (omega (arith, long, within, c.if-at-len.false))
