use Rattle.hx_team.proofs.Teaming.{served, stayed_then, worked}
use Rattle.hx_team.proofs.session.serve_one.Goals as goal

pub returns-clause-stayed : goal.returns-clause-stayed
returns-clause-stayed g c =
    let turns = c.work.ensures in
    stayed_then _ _ _ (served _ _ _ _ _ c.serve_seat-end.ensures.serves) (worked _ _ _ _ _ turns.worked, turns.legal)
