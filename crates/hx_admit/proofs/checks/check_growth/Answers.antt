use Rattle.std.proofs.Common.{ap, ◌∙◌}
use Rattle.std.specs.Prelude.{option_copied, option_map}
use Rattle.hx_model.specs.First.{first}
use Rattle.hx_admit.specs.Limiting.{growth_denials}
use Rattle.hx_model.specs.Denials.{refusal_by}
use Rattle.hx_state.proofs.Counting.{is_part}
use Rattle.hx_admit.proofs.Refusing.{small_found, small_new, grown}
use Rattle.hx_admit.proofs.checks.check_growth.Goals as goal

pub check_growth-requires-clause-small : goal.check_growth-requires-clause-small
check_growth-requires-clause-small c =
    (small_found c.args.state.now.state c.args.id.now (option_copied c.args.old) c.law_of_validity.ensures c.requires.there, small_new c.args.id.now (option_copied c.args.new) c.requires.served)

pub check_growth-requires-clause-counted : goal.check_growth-requires-clause-counted
check_growth-requires-clause-counted c =
    is_part c.args.state.now.state.objects c.limit_counts.result c.args.id.now (option_copied c.args.old) c.law_of_validity.ensures.in_order c.limit_counts.ensures c.requires.there

pub returns-clause-refusal : goal.returns-clause-refusal
returns-clause-refusal c =
    ap (option_map (refusal_by c.args.id.now)) (c.check_growth.ensures ∙ ap (λ n. first (growth_denials c.limit_counts.result (option_copied c.args.old) (option_copied c.args.new) n)) c.version.ensures)
    ∙ grown c.args.state.now.state c.limit_counts.result c.args.id.now (option_copied c.args.old) (option_copied c.args.new) c.law_of_validity.ensures c.limit_counts.ensures c.requires.there c.requires.served
