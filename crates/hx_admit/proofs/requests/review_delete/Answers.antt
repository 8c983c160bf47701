use Rattle.std.proofs.Common.{None, Some, ap}
use Rattle.hx_model.specs.declared.ask.Ask.TheVariants.{Delete}
use Rattle.hx_admit.specs.Refusing.{fault_in}
use Rattle.hx_admit.proofs.Refusing.{delete_rest}
use Rattle.hx_admit.proofs.Removing.{may_delete}
use Rattle.hx_admit.proofs.Reviewing.{refused_by, passes_delete}
use Rattle.hx_admit.proofs.requests.review_delete.Goals as goal

pub returns-in-Err-clause-refused : goal.returns-in-Err-clause-refused
returns-in-Err-clause-refused c =
    let refusal = delete_rest c.args.state.now.state c.args.id.now c.object.result.now c.args.skip c.in_ok-writes.writes.items c.check_version_left.result (Some c.in-Err.denial) c.in_ok-writes.ensures.gives (rw c.deref.ensures.value at c.check_version_left.ensures.fault) (ap fault_in c.in-Err.is) in
    refused_by c.args.state.now.state (Delete c.args.id.now c.args.skip) c.args.id.now c.in-Err.denial _ refusal c.refusal-in-Err.ensures

pub returns-clause-passes : goal.returns-clause-passes
returns-clause-passes c =
    let passes = delete_rest c.args.state.now.state c.args.id.now c.object.result.now c.args.skip c.in_ok-writes.writes.items c.check_version_left.result None c.in_ok-writes.ensures.gives (rw c.deref.ensures.value at c.check_version_left.ensures.fault) (ap fault_in c.in_default-check_version_left.is) in
    passes_delete c.args.state.now.state c.args.id.now c.object.result.now c.args.skip c.in_ok-writes.writes.items _ _ c.in_ok-writes.ensures.gives passes c.deleted.ensures.writing c.deleted.ensures.answers

pub returns-clause-may : goal.returns-clause-may
returns-clause-may c =
    rw c.deleted.ensures.writing (may_delete c.args.state.now.state c.args.id.now c.object.result.now c.args.skip c.in_ok-writes.writes.items c.in_ok-writes.ensures.gives (rw c.deref.ensures.value at c.in_default-check_version_left.ensures.fits))
