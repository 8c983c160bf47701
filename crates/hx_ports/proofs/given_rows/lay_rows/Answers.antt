use Rattle.std.proofs.Common.{◌≡◌, ◌∙◌, ◌+◌, ap, arith, length, length-append}
use Rattle.hx_ports.specs.Rows.{rows_in}
use Rattle.hx_ports.proofs.Placed.{lay_rows-ascends, lay_rows-step}
use Rattle.hx_ports.proofs.given_rows.lay_rows.Goals as goal

pub loop-held-preserved : goal.loop-held-preserved
loop-held-preserved c = record {
  same = lay_rows-step c.loop-held.given.items c.pop.new.self.items c.in-Some.row (rows_in c.loop-held.held) (rows_in c.lay_row.new.held) _ c.in-Some.ensures.items c.lay_row.ensures.put c.loop-held.invariant.same;
  ascends = λ up. lay_rows-ascends c.loop-held.given.items c.pop.new.self.items c.in-Some.row c.in-Some.ensures.items (c.loop-held.invariant.ascends up);
  room =
      let long : length c.loop-held.given.items ≡ length c.pop.new.self.items + 1 = ap length c.in-Some.ensures.items ∙ (simp length-append (omega arith)) in
      omega (arith, long, c.loop-held.invariant.room, c.lay_row.ensures.room);
}
