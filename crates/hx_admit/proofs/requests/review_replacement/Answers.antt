use Rattle.std.proofs.Common.{◌+◌, ◌≢◌, None, Some, sym, ap, ◌∙◌, refl, true≢false}
use Rattle.hx_model.specs.State.{with_version}
use Rattle.hx_model.specs.declared.ask.Ask.TheVariants.{Replace}
use Rattle.hx_model.specs.declared.key.Write.TheVariants.{Put}
use Rattle.hx_admit.specs.Refusing.{fault_in}
use Rattle.hx_admit.proofs.Refusing.{replace_grown}
use Rattle.hx_admit.proofs.Reviewing.{refused_by, passes_unchanged, passes_replace, may_one, may_replace}
use Rattle.hx_admit.proofs.requests.review_replacement.Goals as goal

pub returns-then-is_same-clause-passes : goal.returns-then-is_same-clause-passes
returns-then-is_same-clause-passes c = λ x expected skip r.
    passes_unchanged c.args.state.now.state x _ _ expected skip _ _ r (c.if-is_same.ensures.0 refl ∙ c.object.ensures) c.in_ok-shown.ensures.writing c.in_ok-shown.ensures.answers

pub check_growth-requires-clause-served : goal.check_growth-requires-clause-served
check_growth-requires-clause-served c = (c.requires.served, refl)

pub returns-in-Err-clause-refused : goal.returns-in-Err-clause-refused
returns-in-Err-clause-refused c = λ x expected skip r.
    let apart : c.args.next ≢ c.args.old.now = λ e. true≢false (sym (c.if-is_same.ensures.1 (e ∙ sym c.object.ensures))) in
    let refusal = replace_grown c.args.state.now.state x _ _ expected skip r c.check_growth.result (Some c.in-Err.denial) apart c.check_growth.ensures.refusal (ap fault_in c.in-Err.is) in
    refused_by c.args.state.now.state (Replace x expected skip) c.args.next.id c.in-Err.denial _ refusal c.refusal-refusal.ensures

pub returns-clause-passes : goal.returns-clause-passes
returns-clause-passes c = λ x expected skip r.
    let apart : c.args.next ≢ c.args.old.now = λ e. true≢false (sym (c.if-is_same.ensures.1 (e ∙ sym c.object.ensures))) in
    let passes = replace_grown c.args.state.now.state x _ _ expected skip r c.check_growth.result None apart c.check_growth.ensures.refusal (ap fault_in c.in_default.is) in
    passes_replace c.args.state.now.state x _ _ expected skip _ _ r apart passes c.in_ok-put.ensures

pub returns-clause-may : goal.returns-clause-may
returns-clause-may c = λ x expected skip r.
    let may = may_replace c.args.state.now.state x _ _ expected skip r in
    may_one c.args.state.now.state (Put (with_version c.args.next (c.args.state.now.state.last + 1))) _ may c.in_default.ensures.fits c.in_ok-put.ensures.writing
