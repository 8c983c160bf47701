use Rattle.std.proofs.Common.{arith, ◌∙◌, sym}
use Rattle.hx_turn.proofs.Steps.{splits}
use Rattle.hx_turn.proofs.turn.Turn.split.Goals as goal

pub split_seat-requires : goal.split_seat-requires
split_seat-requires g c =
    let n = c.self.invariant.0 in (
      c.requires.own ∙ sym c.self.view_is,
      omega (arith, n),
      splits g.T.Stands.stands (g.T.Stands.opening c.self.inside.table.shared.key.value) c.args.pass.now.id c.args.pass.now.me.0 c.requires.first c.requires.outside.0 c.requires.room,
    )
