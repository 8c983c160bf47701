use Rattle.std.proofs.Common.{ap, arith, ◌∙◌, sym, Some}
use Rattle.hx_turn.proofs.Steps.{draws, taken}
use Rattle.hx_turn.proofs.turn.Turn.enter.Goals as goal

pub fetch_add-ticket-requires : goal.fetch_add-ticket-requires
fetch_add-ticket-requires g c =
    let r = c.requires.outside in
    let n = c.self.invariant.0 in (
      c.requires.own ∙ sym c.self.view_is,
      omega (arith, n),
      draws g.T.Stands.stands (g.T.Stands.opening c.self.inside.table.shared.key.value) c.self.inside.table.shared.table_id.slots c.args.pass.now.id c.args.pass.now.me r.0 r.1 r.2,
    )

pub exchange-requires : goal.exchange-requires
exchange-requires g c =
    let e = c.wait.ensures in
    let s = e.served in (e.own ∙ sym c.self.view_is, (Some s.0, taken c.wait.new.pass.me.1 c.fetch_add-ticket.new.seat.me.1 (0, Some s.0) (ap (λ m. m.1) s.2)))
