-- What a history leaves that ends quiet.
--     quiet_settled      a settled state
use Rattle.std.proofs.Common.{[], ◌∷◌, refl, sym, subst}
use Rattle.hx_model.specs.Machine.{World, Entry, History, IsLegal, IsHistory, world_after, replay}
use Rattle.hx_model.specs.Settled.{IsSettled}
use Rattle.hnc.specs.Headline.{EndsQuiet}

pub quiet_settled : (w : World) (h : History) → IsHistory w h → EndsQuiet h → IsSettled (replay w h).state
quiet_settled w [] legal quiet = absurd quiet
quiet_settled w (e ∷ []) legal quiet =
    let P : Entry → Type 0 = λ x. IsLegal w x → IsSettled (world_after w x).state in
    subst P (sym quiet) (λ checked. checked.2 refl refl) legal.0
quiet_settled w (e ∷ next ∷ entries) legal quiet = quiet_settled (world_after w e) (next ∷ entries) legal.1 quiet
