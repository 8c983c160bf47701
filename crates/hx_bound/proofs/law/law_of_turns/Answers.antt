use Rattle.hx_bound.proofs.Ledgers.{ledgers_grow, turns_spend, stays_within}
use Rattle.hx_bound.proofs.law.law_of_turns.Goals as goal

pub returns-clause-ledger : goal.returns-clause-ledger
returns-clause-ledger c = ledgers_grow

pub returns-clause-spent : goal.returns-clause-spent
returns-clause-spent c = turns_spend

pub returns-clause-within : goal.returns-clause-within
returns-clause-within c = stays_within
