use Rattle.std.proofs.Common.{Some, None, sym, ◌∙◌, inr, refl}
use Rattle.hx_model.specs.declared.ask.Ask.TheVariants.{Replace}
use Rattle.hx_model.specs.Denials.{refusal_by}
use Rattle.hx_admit.proofs.Refusing.{replace_first, replace_over, quotas_found}
use Rattle.hx_admit.proofs.Reviewing.{refused_by}
use Rattle.hx_admit.proofs.requests.check_replacement.Goals as goal

pub returns-in-Err-clause-refused : goal.returns-in-Err-clause-refused
returns-in-Err-clause-refused c =
    let refused = replace_first c.args.state.now.state c.args.object.now c.args.old.now c.args.expected c.args.skip (refusal_by c.args.object.now.id c.in-Err.denial) c.requires.there (sym c.in-Err.ensures.refusal) in
    refused_by c.args.state.now.state (Replace c.args.object.now c.args.expected c.args.skip) c.args.object.now.id c.in-Err.denial _ refused c.refusal.ensures

pub returns-in-Some-clause-refused : goal.returns-in-Some-clause-refused
returns-in-Some-clause-refused c =
    let s = c.args.state.now.state in
    let over = quotas_found s c.args.object.now c.args.old.now c.args.expected c.args.skip (Some c.in-Some.refusal) c.requires.there (sym c.in-Some.is ∙ c.in_ok-refusal.ensures) in
    inr (replace_over s c.args.object.now c.args.old.now c.args.expected c.args.skip c.in-Some.refusal c.requires.there (sym c.in_default.ensures.refusal) over)

pub returns-clause-gives : goal.returns-clause-gives
returns-clause-gives c = record {
  valid = c.in_default.ensures.valid;
  served = c.requires.served;
  there = c.requires.there;
  passes = sym c.in_default.ensures.refusal;
  quotas = quotas_found c.args.state.now.state c.args.object.now c.args.old.now c.args.expected c.args.skip None c.requires.there (sym c.in_default-2.is ∙ c.in_ok-refusal.ensures);
  gives = refl;
}
