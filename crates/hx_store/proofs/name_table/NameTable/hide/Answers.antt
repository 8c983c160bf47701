use Rattle.std.proofs.Common.{◌≡◌, ◌-◌, ◌<◌, ◌≤◌, ap, length, slice_get, subst, swap, sym, ◌∙◌, true≢false, eqb-true, arith}
use Rattle.hx_store.proofs.Shown.{distinct_shown, hidden_already, hidden_last, still_descend, swapped_slot}
use Rattle.hx_store.proofs.name_table.NameTable.hide.Goals.{then-self, else-self}
use Rattle.hx_store.proofs.name_table.NameTable.hide.Goals as goal

pub returns-then-self-index-clause-places : goal.returns-then-self-index-clause-places
returns-then-self-index-clause-places c = λ e at. hidden_already c.args.self.now.shown c.args.index c.args.self.now.places.keys e c.len-len.ensures.unique at c.if-self-index.true

pub returns-clause-name_table : goal.returns-clause-name_table
returns-clause-name_table c = λ name_table. (
  distinct_shown (c.min-last.result - 1) c.swap_indices.new.self.keys c.swap_indices.ensures.unique,
  elim c.if-self.branch [
    | then-self w ↦ λ t.
        let last = c.min-last.result - 1 in
        let same : c.args.index ≡ last = eqb-true c.args.index last (sym w.self-is ∙ t) in
        still_descend c.args.self.now.shown last c.args.self.now.places.keys c.swap_indices.new.self.keys (omega (arith, c.min-last.ensures))
        (subst (λ i. c.swap_indices.new.self.keys ≡ swap c.args.self.now.places.keys i last) same c.swap_indices.ensures.keys) (name_table.1 w.if-self.true)
    | else-self w ↦ λ t. absurd (true≢false (sym t ∙ w.self-is ∙ w.if-self.false))
  ],
)

pub returns-clause-places : goal.returns-clause-places
returns-clause-places c = λ e at.
    let last = c.min-last.result - 1 in
    let es = c.args.self.now.places.keys in
    let min-is = c.min-last.ensures in
    let len-is : c.len-len.result ≡ length es = c.len-len.ensures.len in
    let shown = c.args.self.now.shown in
    let up : c.args.index ≤ last = omega (arith, min-is, len-is, c.requires, c.if-self-index.false) in
    let below : last < shown = omega (arith, min-is, len-is, c.requires, c.if-self-index.false) in
    let inside : last < length es = omega (arith, min-is, len-is, c.requires, c.if-self-index.false) in
    hidden_last shown c.args.index es e c.len-len.ensures.unique at last c.swap_indices.new.self.keys c.requires up below inside (λ j past within. omega (arith, min-is, len-is, past, within))
    c.swap_indices.ensures.keys c.swap_indices.ensures.unique c.swap_indices.ensures.reordered.2

pub returns-clause-at : goal.returns-clause-at
returns-clause-at c =
    let last = c.min-last.result - 1 in
    let es = c.args.self.now.places.keys in
    let inside : last < length es = omega (arith, c.min-last.ensures, c.len-len.ensures.len, c.requires, c.if-self-index.false) in
    ap (λ l. slice_get l last) c.swap_indices.ensures.keys ∙ swapped_slot es c.args.index last c.requires inside
