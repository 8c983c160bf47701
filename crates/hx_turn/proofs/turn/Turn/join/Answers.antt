use Rattle.std.proofs.Common.{arith, ◌∙◌, sym}
use Rattle.hx_turn.proofs.Steps.{joins, hears_joined}
use Rattle.hx_turn.proofs.turn.Turn.join.Goals as goal

pub join_seat-requires : goal.join_seat-requires
join_seat-requires g c =
    let n = c.self.invariant.0 in
    let v = c.requires.outside in
    let w = c.requires.idle in (
      c.requires.own ∙ sym c.self.view_is,
      c.requires.other ∙ sym c.self.view_is,
      w.3,
      omega (arith, n),
      joins g.T.Stands.stands (g.T.Stands.opening c.self.inside.table.shared.key.value) c.args.pass.now.id c.args.pass.now.me.0 c.args.other.id c.args.other.me.0 (v.0, v.1, v.2) (w.0, w.1, w.2),
    )

pub load-requires : goal.load-requires
load-requires g c =
    let n = c.self.invariant.0 in
    let v = c.requires.outside in
    let e = c.join_seat.ensures in (
      e.0 ∙ (c.requires.own ∙ sym c.self.view_is),
      omega (arith, n),
      hears_joined g.T.Stands.stands (g.T.Stands.opening c.self.inside.table.shared.key.value) c.self.inside.table.shared.table_id.slots c.join_seat.new.seat.id c.args.pass.now.me.0 c.args.other.me.0 c.args.pass.now.me.1 c.join_seat.new.seat.me e.2 (v.0, v.1, v.2),
    )
