use Rattle.std.proofs.Common.{◌≡◌, None, sym, ◌∙◌, inr}
use Rattle.hx_model.specs.Answers.{quota_refusal}
use Rattle.hx_model.specs.declared.ask.Ask.TheVariants.{Create}
use Rattle.hx_admit.proofs.Refusing.{create_first, create_over, create_rest}
use Rattle.hx_admit.proofs.Reviewing.{refused_by}
use Rattle.hx_admit.proofs.requests.check_creation.Goals as goal

pub returns-in-Err-clause-refused : goal.returns-in-Err-clause-refused
returns-in-Err-clause-refused c =
    refused_by c.args.state.now.state (Create c.args.object.now c.args.skip) c.args.object.now.id c.in-Err.denial _
    (create_first c.args.state.now.state c.args.object.now c.args.skip _ (sym c.in-Err.ensures.refusal)) c.refusal.ensures

pub returns-in-Some-clause-refused : goal.returns-in-Some-clause-refused
returns-in-Some-clause-refused c =
    inr (create_over c.args.state.now.state c.args.object.now c.args.skip c.in-Some.refusal (sym c.in_default.ensures.refusal) (sym c.in_ok-refusal.ensures ∙ c.in-Some.is))

pub returns-in-Err-check_limits-clause-refused : goal.returns-in-Err-check_limits-clause-refused
returns-in-Err-check_limits-clause-refused c =
    let within : quota_refusal c.args.state.now.state (Create c.args.object.now c.args.skip) ≡ None = sym c.in_ok-refusal.ensures ∙ c.in_default-2.is in
    let rest = create_rest c.args.state.now.state c.args.object.now c.args.skip (sym c.in_default.ensures.refusal) within in
    refused_by c.args.state.now.state (Create c.args.object.now c.args.skip) c.args.object.now.id c.in-Err-check_limits.denial _ (rest ∙ sym (c.in-Err-check_limits.ensures.refusal c.args.skip)) c.refusal-in-Err-check_limits.ensures

pub returns-clause-passes : goal.returns-clause-passes
returns-clause-passes c =
    let within : quota_refusal c.args.state.now.state (Create c.args.object.now c.args.skip) ≡ None = sym c.in_ok-refusal.ensures ∙ c.in_default-2.is in
    let rest = create_rest c.args.state.now.state c.args.object.now c.args.skip (sym c.in_default.ensures.refusal) within in
    record {
      free = c.in_default.ensures.free;
      home = c.in_default.ensures.home;
      passes = rest ∙ sym (c.in_default-check_limits.ensures.refusal c.args.skip);
      fits = c.in_default-check_limits.ensures.fits;
    }
