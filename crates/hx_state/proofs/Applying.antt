-- The state once the staged writes are made.
--     applied      it has their events
use Rattle.std.proofs.Common.{◌≡◌, ◌==◌, ◌+◌, ℕ, false, List, [], ◌∷◌, length, refl, true≢false}
use Rattle.hx_model.specs.State.{Objects, after_writes, events_of, state_after}
use Rattle.hx_model.specs.Windows.{WindowView, most_events, with_events}
use Rattle.hx_model.specs.declared.config.RunConfig.{RunConfig}
use Rattle.hx_model.specs.declared.key.Write.{Write}
use Rattle.hx_state.specs.StateView.{state_in}

-- it has their events
pub applied : (config : RunConfig) (objects : Objects) (version : ℕ) (window : WindowView) (staged : List Write) → length staged == 0 ≡ false
    → state_in config (after_writes staged objects) (version + 1) (with_events most_events window (events_of (state_in config objects version window) staged)) ≡ state_after (state_in config objects version window) staged
applied config objects version window [] some = absurd (true≢false some)
applied config objects version window (w ∷ ws) some = refl
