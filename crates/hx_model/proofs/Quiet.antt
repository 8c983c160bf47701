-- States as the examples compare them: without their events.
--     quiet, quietly     a state without events;  an answer with one
use Rattle.hx_model.specs.declared.ask.Answer.{Answer}
use Rattle.hx_model.specs.State.{State}
use Rattle.hx_model.specs.Windows.{opened}

abbrev pub quiet : State → State
quiet s = record s { window = opened 0 }

abbrev pub quietly : Answer × State → Answer × State
quietly p = (p.0, quiet p.1)
