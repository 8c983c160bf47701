use Rattle.hx_shared.proofs.Turning.{worked_so}
use Rattle.hx_team.proofs.Teaming.{worked}
use Rattle.hx_team.proofs.worker.work.Goals as goal

pub returns-clause-stayed : goal.returns-clause-stayed
returns-clause-stayed g c =
    let all = c.work-worked.ensures in
    let made = worked_so _ _ _ c.work-worked.result.end _ _ all.used (λ e. let s = all.stopped e in (s.0, s.2)) in (worked _ made.0 _ _ _ made.1, all.legal)
