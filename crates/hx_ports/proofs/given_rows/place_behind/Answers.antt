use Rattle.std.proofs.Common.{◌≡◌, ◌∙◌, ap, subst, sym, arith}
use Rattle.hx_ports.specs.declared.keeper.Row.{Row}
use Rattle.hx_ports.proofs.Behind.{Lies, found-at, lies-at, lies-is, low-step}
use Rattle.hx_ports.proofs.given_rows.place_behind.Goals as goal
use Rattle.hx_ports.proofs.given_rows.place_behind.Goals.{After-lt}

-- what the test of the key in the middle says
middle : (c : After-lt) → c.as_slice.result.now ≡ c.index-given-middle.result.key
middle c = c.as_slice.ensures ∙ sym (ap (λ (row : Row). row.key) c.index-given-middle.is)

pub loop-low-preserved-then-lt : goal.loop-low-preserved-then-lt
loop-low-preserved-then-lt c = record {
  order = omega arith;
  within = omega arith;
  low = c.loop-low.invariant.low;
  high = lies-at c.args.after.now c.args.given.now _ c.index-given-middle.result (omega arith) c.index-given-middle.is
      (lies-is c.args.after.now c.index-given-middle.result.key c.as_slice.result.now c.lt.result _ c.lt.ensures (middle c.before) c.if-lt.true);
}

pub loop-low-preserved : goal.loop-low-preserved
loop-low-preserved c = record {
  order = omega arith;
  within = c.loop-low.invariant.within;
  low = low-step c.args.after.now c.args.given.now _ c.index-given-middle.result c.requires (omega arith) c.index-given-middle.is
      (lies-is c.args.after.now c.index-given-middle.result.key c.as_slice.result.now c.lt.result _ c.lt.ensures (middle c.before) c.if-lt.false);
  high = c.loop-low.invariant.high;
}

pub returns : goal.returns
returns c =
    let met : c.loop-low.high ≡ c.loop-low.low = omega arith in
    found-at c.args.after.now c.args.given.now c.loop-low.low (subst (Lies c.args.after.now c.args.given.now) met c.loop-low.invariant.high) ∙ c.loop-low.invariant.low
