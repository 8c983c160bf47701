use Rattle.std.proofs.Common.{arith, ◌∙◌, sym}
use Rattle.hx_turn.proofs.Steps.{leaves_after}
use Rattle.hx_turn.proofs.turn.Turn.leave.Goals as goal

pub fetch_add-served-requires : goal.fetch_add-served-requires
fetch_add-served-requires g c =
    let n = c.self.invariant in
    let e = c.exchange-none.ensures in
    let r = c.requires.inside in
    let w = c.requires.stands in
    let seat = c.exchange-none.new.seat in (
      e.0 ∙ (c.requires.own ∙ sym c.self.view_is),
      omega (arith, n.0),
      leaves_after g.T.Stands.stands (g.T.Stands.opening c.self.inside.table.shared.key.value) c.self.inside.table.shared.table_id.slots seat.id c.args.pass.now.me seat.me c.args.value g.L.Entry.entry w.0 n.1 r.0 r.1 e.3 w.1 w.2,
    )
