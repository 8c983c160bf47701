use Rattle.std.proofs.Common.{◌∙◌}
use Rattle.hx_team.proofs.Teaming.{served_out}
use Rattle.hx_team.proofs.threads.serve_beside.Goals as goal

pub returns-clause-served : goal.returns-clause-served
returns-clause-served g c = λ links old is.
    served_out links old c.serve_in_threads-hands.result.pass.me.0 c.close.result c.into_parts-door.result.1 (g.D.Door.shown c.into_parts-door.result.0)
    c.close.ensures (c.serve_in_threads-hands.ensures.gone.1.opening ∙ is) c.serve_in_threads-hands.ensures.over c.into_parts-door.ensures.door c.into_parts-door.ensures.end
