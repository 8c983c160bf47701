use Rattle.std.proofs.Common.{◌≡◌, ◌∙◌, sym, subst, drop, arith}
use Rattle.hx_model.specs.Windows.{events_since}
use Rattle.hx_watch.proofs.Finding.{none-up-to, all-from, begin-at}
use Rattle.hx_watch.proofs.window.first_over.Goals as goal

pub loop-low-preserved-then-is_over : goal.loop-low-preserved-then-is_over
loop-low-preserved-then-is_over c = record {
  order = omega arith;
  within = omega (arith, c.loop-low.invariant.within);
  low = c.loop-low.invariant.low;
  high = all-from c.requires.0 c.args.version c.args.ring.now.items _ c.requires.1 (sym c.is_over.ensures ∙ c.if-is_over.true);
}

pub loop-low-preserved : goal.loop-low-preserved
loop-low-preserved c = record {
  order = omega arith;
  within = c.loop-low.invariant.within;
  low = none-up-to c.requires.0 c.args.version c.args.ring.now.items _ c.requires.1 (sym c.is_over.ensures ∙ c.if-is_over.false);
  high = c.loop-low.invariant.high;
}

pub returns : goal.returns
returns c =
    let met : c.loop-low.high ≡ c.loop-low.low = omega (arith, c.loop-low.invariant.order) in
    begin-at c.args.version c.args.ring.now.items c.loop-low.low c.loop-low.invariant.low
    (subst (λ m. events_since c.args.version (drop m c.args.ring.now.items) ≡ drop m c.args.ring.now.items) met c.loop-low.invariant.high)
