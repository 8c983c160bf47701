use Rattle.std.proofs.Common.{arith, ◌∙◌, sym}
use Rattle.hx_turn.proofs.Steps.{looks_still}
use Rattle.hx_turn.proofs.turn.Turn.wait.Goals as goal

pub load-serving-requires : goal.load-serving-requires
load-serving-requires g c =
    let n = c.self.invariant.0 in
    let i = c.loop.invariant in
    let d = c.requires.drawn in (
      i.0 ∙ (c.requires.own ∙ sym c.self.view_is),
      omega (arith, n),
      looks_still g.T.Stands.stands (g.T.Stands.opening c.self.inside.table.shared.key.value) c.self.inside.table.shared.table_id.slots c.loop.pass.id c.args.pass.now.me c.loop.pass.me i.1 d.0 d.2 c.requires.outside,
    )
