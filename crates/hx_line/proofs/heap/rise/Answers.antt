use Rattle.std.proofs.Common.{◌≡◌, ◌<◌, ◌-◌, ◌+◌, ◌/◌, length, ap, ◌∙◌, arith}
use Rattle.std.proofs.lemmas.List.Sorted.{IsPermutation-refl, IsPermutation-swap, IsPermutation-trans}
use Rattle.hx_line.specs.Heap.{placed_cmp}
use Rattle.hx_line.proofs.Heaping.{as_long, rise_begins, rise_steps, rise_rests, rise_tops, keeps_all, keeps_all_itself, keeps_all-trans, keeps_rest, keeps_rest_itself, keeps_rest-trans}
use Rattle.hx_line.proofs.Placing.{placed_total}
use Rattle.hx_line.proofs.heap.rise.Goals as goal

pub loop-at-init : goal.loop-at-init
loop-at-init c =
    let xs = c.args.items.now.entries in
    record {
      within = c.requires;
      down = omega arith;
      moved = IsPermutation-refl xs;
      rising = λ n l. rise_begins placed_cmp placed_total n xs c.args.at;
      kept = λ n l. keeps_all_itself n xs;
      rest = keeps_rest_itself (c.args.at + 1) xs;
      room = omega arith;
    }

pub loop-at-preserved : goal.loop-at-preserved
loop-at-preserved c =
    let l = c.loop-at in
    let old = c.args.items.now.entries in
    let is = c.swap_indices.ensures.entries in
    let xs = l.items.entries in
    let ys = c.swap_indices.new.self.entries in
    let up = c.loop-at-test.true in
    let in' = l.invariant.within in
    let down = l.invariant.down in
    let long : length ys ≡ length xs = ap length is ∙ as_long xs ((l.at - 1) / 2) l.at in
    let before = l.invariant.room in
    let room = c.swap_indices.ensures.room.0 in
    let over : (l.at - 1) / 2 < length xs = omega arith in
    record {
      within = omega (arith, long);
      down = omega arith;
      moved = IsPermutation-trans _ _ _ l.invariant.moved (IsPermutation-swap xs ys ((l.at - 1) / 2) l.at over in' is);
      rising = λ n f. rise_steps placed_cmp placed_total n old xs ys c.args.at l.at up (omega (arith, f, down)) in' is (λ d. c.precedes.ensures d ∙ c.if-precedes.true) (l.invariant.rising n f);
      kept = λ n f. keeps_all-trans n old xs ys (l.invariant.kept n f) (keeps_all n xs ys ((l.at - 1) / 2) l.at (omega (arith, f, down)) (omega (arith, f, down)) over in' is);
      rest = keeps_rest-trans (c.args.at + 1) (c.args.at + 1) old xs ys (omega arith) l.invariant.rest (keeps_rest (c.args.at + 1) xs ys ((l.at - 1) / 2) l.at (omega (arith, down)) (omega (arith, down)) over in' is);
      room = omega (arith, before, room);
    }

pub returns-else-precedes-clause-rises : goal.returns-else-precedes-clause-rises
returns-else-precedes-clause-rises c n f = rise_rests placed_cmp placed_total n c.args.items.now.entries c.loop-at.items.entries c.args.at c.loop-at.at (λ d. c.precedes.ensures d ∙ c.if-precedes.false) (c.loop-at.invariant.rising n f)

pub returns-after-loop-at-clause-rises : goal.returns-after-loop-at-clause-rises
returns-after-loop-at-clause-rises c n f = let none = c.loop-at-test.false in rise_tops placed_cmp placed_total n c.args.items.now.entries c.loop-at.items.entries c.args.at c.loop-at.at (omega (arith, none)) (c.loop-at.invariant.rising n f)
