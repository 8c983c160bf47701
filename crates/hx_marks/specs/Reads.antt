-- What is read of the state before a write.
--     state_in c   the state
use Rattle.hx_model.specs.State.{State}
use Rattle.hx_marks.specs.Before.{state_of}
use Rattle.hx_marks.specs.declared.current.Current as code

abbrev pub state_in : code.Current → State
state_in c = state_of c.store.now c.config.now c.window.now
