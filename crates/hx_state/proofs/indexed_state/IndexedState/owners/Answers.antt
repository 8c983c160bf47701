use Rattle.hx_state.proofs.Seen.{told_seen}
use Rattle.hx_state.proofs.indexed_state.IndexedState.owners.Goals as goal

pub returns-clause-tells : goal.returns-clause-tells
returns-clause-tells c = told_seen c.self.view_is c.self.invariant.now
