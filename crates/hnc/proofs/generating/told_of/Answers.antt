use Rattle.std.proofs.Common.{◌≡◌, ◌∙◌, true, subst, sym}
use Rattle.hx_model.specs.State.{Objects}
use Rattle.hx_survey.specs.Surveyed.{namespaces_lie_alone}
use Rattle.hx_survey.proofs.Homes.{homes_valid}
use Rattle.hnc.proofs.generating.told_of.Goals as goal

pub told_on-requires-clause-homes : goal.told_on-requires-clause-homes
told_on-requires-clause-homes g c =
    subst (λ (objects : Objects). namespaces_lie_alone objects ≡ true) (sym (c.deref.ensures.value ∙ c.in_ok-rows.ensures)) (homes_valid c.args.cluster.now.state c.law_of_worlds.ensures.valid)
