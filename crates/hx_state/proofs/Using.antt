-- What subtrees use.
--     used_seen       what is used is the sum over all objects of the subtree
use Rattle.std.proofs.Common.{◌≡◌, ℕ, List, refl, ap, ◌∙◌, sum_by}
use Rattle.hx_model.specs.Forest.{Forest}
use Rattle.hx_model.specs.Quotas.{charge_below, used}
use Rattle.hx_model.specs.State.{State, Objects}
use Rattle.hx_model.specs.Tree.{forest_in, forest_of}
use Rattle.hx_model.specs.Windows.{WindowView}
use Rattle.hx_model.specs.declared.config.RunConfig.{RunConfig}
use Rattle.hx_model.specs.declared.resource.Resource.{Resource}
use Rattle.hx_state.specs.StateView.{state_in}

used_in : (s : State) (a : List ℕ) (r : Resource) → sum_by (charge_below (forest_of s) a r) s.objects ≡ used s a r
unfolding used
used_in s a r = refl

-- it is what all objects of the subtree are charged
pub used_seen : (config : RunConfig) (objects : Objects) (last : ℕ) (window : WindowView) (s : State) (nodes : Forest) (a : List ℕ) (r : Resource) → state_in config objects last window ≡ s → nodes ≡ forest_in config.excluded objects
    → sum_by (charge_below nodes a r) objects ≡ used s a r
used_seen config objects last window s nodes a r same planted =
    ap (λ f. sum_by (charge_below f a r) objects) planted ∙ used_in (state_in config objects last window) a r ∙ ap (λ (t : State). used t a r) same
