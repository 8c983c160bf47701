use Rattle.std.proofs.Common.{◌≡◌, ◌<◌, length, ap, ◌∙◌, arith}
use Rattle.std.proofs.lemmas.List.Sorted.{IsPermutation-refl, IsPermutation-swap, IsPermutation-trans}
use Rattle.hx_line.specs.Heap.{placed_cmp}
use Rattle.hx_line.proofs.Heaping.{as_long, sinks_on, keeps_all, keeps_all_itself, keeps_all-trans, keeps_rest, keeps_rest_itself, keeps_rest-trans}
use Rattle.hx_line.proofs.heap.sink.Goals as goal

pub loop-at-init : goal.loop-at-init
loop-at-init c =
    let xs = c.args.items.now.entries in
    record {
      at = c.requires.at;
      within = c.requires.within;
      moved = IsPermutation-refl xs;
      holed = λ h. h;
      kept = keeps_all_itself c.args.ordered xs;
      rest = keeps_rest_itself c.args.ordered xs;
      room = omega arith;
    }

pub loop-at-preserved : goal.loop-at-preserved
loop-at-preserved c =
    let l = c.loop-at in
    let old = c.args.items.now.entries in
    let is = c.swap_indices.ensures.entries in
    let xs = l.items.entries in
    let ys = c.swap_indices.new.self.entries in
    let child = c.least_child-child.result in
    let bound = c.least_child-child.ensures.bound in
    let long : length ys ≡ length xs = ap length is ∙ as_long xs l.at child in
    let before = l.invariant.room in
    let room = c.swap_indices.ensures.room.0 in
    let below = bound.0 in
    let within = l.invariant.within in
    let here = l.invariant.at in
    let from : l.at < length xs = omega (arith, here, within) in
    let to : child < length xs = omega (arith, below, within) in
    record {
      at = below;
      within = omega (arith, long, within);
      moved = IsPermutation-trans _ _ _ l.invariant.moved (IsPermutation-swap xs ys l.at child from to is);
      holed = λ h. sinks_on placed_cmp c.args.ordered xs ys l.at child bound.1 bound.2 below within is c.least_child-child.ensures.least (l.invariant.holed h);
      kept = keeps_all-trans c.args.ordered old xs ys l.invariant.kept (keeps_all c.args.ordered xs ys l.at child here below from to is);
      rest = keeps_rest-trans c.args.ordered c.args.ordered old xs ys (omega arith) l.invariant.rest (keeps_rest c.args.ordered xs ys l.at child here below from to is);
      room = omega (arith, before, room);
    }
