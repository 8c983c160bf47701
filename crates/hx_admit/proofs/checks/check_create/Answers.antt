use Rattle.std.proofs.Common.{◌≡◌, None, sym, ap, ◌∙◌}
use Rattle.std.specs.Prelude.{option_map}
use Rattle.hx_model.specs.Denials.{refusal_by}
use Rattle.hx_model.specs.First.{first}
use Rattle.hx_admit.specs.Inside.{place_refusals}
use Rattle.hx_admit.specs.Refusing.{fault_in}
use Rattle.hx_admit.proofs.Refusing.{create_ruled}
use Rattle.hx_admit.proofs.checks.check_create.Goals as goal

pub returns-clause-refusal : goal.returns-clause-refusal
returns-clause-refusal c =
    let place : first (place_refusals c.args.state.now.state c.args.object.now.id) ≡ None = sym c.check_place.ensures.refusal ∙ ap (λ r. option_map (refusal_by c.args.object.now.id) (fault_in r)) c.in_ok-check_place.was in
    sym (create_ruled c.args.state.now.state c.args.object.now c.args.skip (fault_in c.check_case.result) place (sym c.check_case.ensures.fault))
