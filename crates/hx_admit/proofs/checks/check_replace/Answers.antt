use Rattle.std.proofs.Common.{◌≡◌, None, Some, sym, ap, ◌∙◌, rules}
use Rattle.std.specs.Prelude.{option_map}
use Rattle.hx_object.specs.declared.object.Id.{Id}
use Rattle.hx_model.specs.Answers.{other_version, rule_refusal}
use Rattle.hx_model.specs.First.{or_else}
use Rattle.hx_model.specs.declared.ask.Ask.TheVariants.{Replace}
use Rattle.hx_model.proofs.Objects.{found_id}
use Rattle.hx_admit.specs.Refusing.{fault_in}
use Rattle.hx_model.specs.Denials.{refusal_by}
use Rattle.hx_admit.proofs.Refusing.{replace_two}
use Rattle.hx_admit.proofs.checks.check_replace.Goals as goal

pub returns-in_err-check_version-clause-refusal : goal.returns-in_err-check_version-clause-refusal
returns-in_err-check_version-clause-refusal c =
    let refused : fault_in c.from_residual.result ≡ Some c.in_err-check_version.field-0.0 = search rules in
    let other : other_version c.args.expected (Some c.args.old.now) ≡ Some (refusal_by c.args.object.now.id c.in_err-check_version.field-0.0) =
    sym c.check_version.ensures ∙ ap (λ r. option_map (refusal_by c.args.old.now.id) (fault_in r)) c.in_err-check_version.was ∙ ap (λ (id : Id). Some (refusal_by id c.in_err-check_version.field-0.0)) (sym (found_id _ _ _ c.requires.there)) in
    ap (option_map (refusal_by c.args.object.now.id)) refused
    ∙ sym (ap (λ o. or_else o (or_else (rule_refusal c.args.state.now.state (Replace c.args.object.now c.args.expected c.args.skip)) None)) (ap (other_version c.args.expected) c.requires.there ∙ other))

pub returns-in_err-check_case-clause-refusal : goal.returns-in_err-check_case-clause-refusal
returns-in_err-check_case-clause-refusal c =
    let same : other_version c.args.expected (Some c.args.old.now) ≡ None = sym c.check_version.ensures ∙ ap (λ r. option_map (refusal_by c.args.old.now.id) (fault_in r)) c.in_ok-check_version.was in
    let ruled = c.check_case.ensures.fault in
    let refused : fault_in c.from_residual-in_err-check_case.result ≡ Some c.in_err-check_case.field-0.0 = search rules in
    ap (option_map (refusal_by c.args.object.now.id)) refused
    ∙ sym (replace_two c.args.state.now.state c.args.object.now c.args.old.now c.args.expected c.args.skip None (Some c.in_err-check_case.field-0.0) c.requires.there (sym same) (sym (ap fault_in c.in_err-check_case.was) ∙ ruled))

pub returns-clause-refusal : goal.returns-clause-refusal
returns-clause-refusal c =
    let same : other_version c.args.expected (Some c.args.old.now) ≡ None = sym c.check_version.ensures ∙ ap (λ r. option_map (refusal_by c.args.old.now.id) (fault_in r)) c.in_ok-check_version.was in
    let ruled = c.check_case.ensures.fault in
    sym (replace_two c.args.state.now.state c.args.object.now c.args.old.now c.args.expected c.args.skip None None c.requires.there (sym same) (sym (ap fault_in c.in_ok-check_case.was) ∙ ruled))
