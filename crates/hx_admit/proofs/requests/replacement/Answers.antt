use Rattle.std.proofs.Common.{sym, subst}
use Rattle.hx_admit.specs.Inside.{IsReplacement}
use Rattle.hx_admit.proofs.requests.replacement.Goals as goal

pub returns-in-Err-clause-refused : goal.returns-in-Err-clause-refused
returns-in-Err-clause-refused c = c.in-Err.ensures.refused

pub returns-clause-gives : goal.returns-clause-gives
returns-clause-gives c =
    subst (IsReplacement c.args.state.now.state c.args.object c.args.old.now c.args.expected c.args.skip) (sym c.in_ok-replaced_by.ensures) c.in_default.ensures.gives
