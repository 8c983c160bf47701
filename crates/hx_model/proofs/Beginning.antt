-- Where an excess begins.
--     holds_on                  limits hold on from one state to another where no excess may begin
--     excess_begins_only_there  so it is at each entry of a history
--     no_excess_by_fault        and where a fault made the state uncertain
use Rattle.std.proofs.Common.{◌≡◌, ◌≤◌, ◌<◌, ◌⊎◌, ℕ, true, false, ◌||◌, List, [], ◌∷◌, inl, inr, refl, nat_le}
use Rattle.std.proofs.lemmas.Bool.{leb-true, leb-false}
use Rattle.hx_model.specs.Machine.{World, History, opening_world, replay, world_after}
use Rattle.hx_model.specs.Overruns.{HoldsIn, IsHeldBetween, KeepsLimits}
use Rattle.hx_model.specs.Quotas.{used}
use Rattle.hx_model.specs.State.{State}
use Rattle.hx_model.specs.Tree.{forest_of}
use Rattle.hx_model.specs.declared.resource.Resource.{Resource}
use Rattle.hx_model.proofs.Overrunning.{holds_throughout}
use Rattle.hx_model.proofs.Parents.{out_head, out_tail}
use Rattle.hx_model.proofs.Tearing.{holds_after_fault}
use Rattle.hx_model.specs.Excess.{limits_more, gets_parent, gives_parent, gives_home, HoldsOn, BeginsOnlyThere, ExcessBeginsOnlyThere, NoExcessByFault}
use Rattle.hx_model.proofs.Limiting.{holds_still}
use Rattle.hx_model.proofs.Staying.{takes_in_none}

less_or_more : (m n : ℕ) → (m ≤ n) ⊎ (n < m)
less_or_more m n = elim (nat_le m n) as (λ b. nat_le m n ≡ b → (m ≤ n) ⊎ (n < m)) [
  | true ↦ λ is. inl (leb-true m n is)
  | false ↦ λ is. inr (leb-false m n is)
] refl

holds_on : (s t : State) → ((a : List ℕ) (r : Resource) → IsHeldBetween s t a r) → HoldsOn s t
holds_on s t between a r none held = by (less_or_more (used t a r) (used s a r))
  where
    by : (used t a r ≤ used s a r) ⊎ (used s a r < used t a r) → HoldsIn t a r
    by (inl less) = holds_still s t a r less (out_head (limits_more s t a) _ none) held
    by (inr more) =
        let f = forest_of s in
        let g = forest_of t in
        let moves = out_tail (limits_more s t a) (gets_parent f g a || (gives_parent f g a || gives_home s t a)) none in
        let comes = out_tail (gets_parent f g a) (gives_parent f g a || gives_home s t a) moves in
        between a r (takes_in_none s t a (out_head (gets_parent f g a) _ moves) (out_head (gives_parent f g a) _ comes) (out_tail (gives_parent f g a) (gives_home s t a) comes)) more

begins_only_there : (w : World) (es : History) → KeepsLimits w es → BeginsOnlyThere w es
begins_only_there w [] keeps = tt
begins_only_there w (e ∷ es) keeps = (holds_on w.state (world_after w e).state keeps.0, begins_only_there (world_after w e) es keeps.1)

pub excess_begins_only_there : ExcessBeginsOnlyThere
excess_begins_only_there broken s es up = begins_only_there (opening_world broken s) es (holds_throughout broken s es up)

pub no_excess_by_fault : NoExcessByFault
no_excess_by_fault broken s es t up legal torn = holds_on (replay (opening_world broken s) es).state t (λ a r. holds_after_fault broken s es t a r up legal torn)
