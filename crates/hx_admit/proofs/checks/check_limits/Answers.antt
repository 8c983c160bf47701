use Rattle.std.proofs.Common.{◌≡◌, None, Some, sym, ap, ◌∙◌, rules}
use Rattle.std.specs.Prelude.{option_map}
use Rattle.hx_model.specs.Denials.{refusal_by}
use Rattle.hx_model.specs.First.{first}
use Rattle.hx_model.specs.Limits.{counts}
use Rattle.hx_admit.specs.Limiting.{count_denials}
use Rattle.hx_admit.specs.Refusing.{fault_in}
use Rattle.hx_admit.proofs.Refusing.{create_counted, create_grown}
use Rattle.hx_admit.proofs.checks.check_limits.Goals as goal

pub returns-in_err-check_counts-clause-refusal : goal.returns-in_err-check_counts-clause-refusal
returns-in_err-check_counts-clause-refusal c = λ skip.
    let counted : first (count_denials c.args.brings_name (counts c.args.object.now) c.limit_counts.result) ≡ Some c.in_err-check_counts.field-0.0 =
    ap (λ b. first (count_denials c.args.brings_name b c.limit_counts.result)) (sym c.counts.ensures) ∙ sym c.check_counts.ensures ∙ ap fault_in c.in_err-check_counts.was in
    let refused : fault_in c.from_residual.result ≡ Some c.in_err-check_counts.field-0.0 = search rules in
    ap (option_map (refusal_by c.args.object.now.id)) refused
    ∙ sym (create_counted c.args.state.now.state c.limit_counts.result c.limit_counts.ensures c.args.object.now skip c.args.brings_name c.requires.brings c.in_err-check_counts.field-0.0 counted)

pub returns-clause-refusal : goal.returns-clause-refusal
returns-clause-refusal c = λ skip.
    let counted : first (count_denials c.args.brings_name (counts c.args.object.now) c.limit_counts.result) ≡ None =
    ap (λ b. first (count_denials c.args.brings_name b c.limit_counts.result)) (sym c.counts.ensures) ∙ sym c.check_counts.ensures ∙ ap fault_in c.in_ok-check_counts.was in
    c.check_growth.ensures.refusal
    ∙ sym (create_grown c.args.state.now.state c.limit_counts.result c.limit_counts.ensures c.args.object.now skip c.args.brings_name c.requires.brings counted)
