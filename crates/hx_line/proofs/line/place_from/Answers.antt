use Rattle.std.proofs.Common.{◌∙◌, arith}
use Rattle.std.proofs.lemmas.List.Sorted.{IsPermutation-trans}
use Rattle.hx_line.specs.Line.{keys_in}
use Rattle.hx_line.proofs.Lining.{as_many}
use Rattle.hx_line.proofs.line.place_from.Goals as goal

pub loop-at-preserved : goal.loop-at-preserved
loop-at-preserved c =
    let l = c.loop-at in
    let p = c.place in
    let before = l.invariant.room in
    let room = p.ensures.room in
    record {
      long = as_many l.items.entries p.new.items.entries p.ensures.keys ∙ l.invariant.long;
      keys = IsPermutation-trans (keys_in c.args.items.now.entries) (keys_in l.items.entries) (keys_in p.new.items.entries) l.invariant.keys p.ensures.keys;
      heap = p.ensures.heap;
      right = λ h. p.ensures.right (l.invariant.right h);
      room = omega (arith, before, room);
    }
