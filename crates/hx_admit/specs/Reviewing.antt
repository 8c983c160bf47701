-- What a review promises.
--     Passes          nothing refuses the ask, which makes these writes and has this answer
--     AreKept         a version isn't over the last one, and all events after it are kept
use Rattle.std.specs.Prelude.{◌≡◌, ◌≤◌, ℕ, List, None}
use Rattle.hx_model.specs.Answers.{refusal_of, writes_of, success}
use Rattle.hx_model.specs.Serving.{IsLegalAnswer}
use Rattle.hx_model.specs.State.{State, state_after}
use Rattle.hx_model.specs.declared.ask.Ask.{Ask}
use Rattle.hx_model.specs.declared.ask.Answer.{Answer}
use Rattle.hx_model.specs.declared.key.Write.{Write}

-- nothing refuses the ask, which makes these writes and has this answer
pub record Passes (s : State) (ask : Ask) (writes : List Write) (answer : Answer) : Type 0 where
  pub passes : refusal_of s ask ≡ None
  pub changes : writes_of s ask ≡ writes
  pub says : success s (state_after s writes) ask ≡ answer
  pub legal : IsLegalAnswer answer

-- a version isn't over the last one, and all events after it are kept
pub record AreKept (s : State) (since : ℕ) : Type 0 where
  pub known : since ≤ s.last
  pub kept : s.window.floor ≤ since
