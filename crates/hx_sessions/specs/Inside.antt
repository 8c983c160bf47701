-- What serves the code alone.
--     IsCalled reading old answer new      a seat was answered what was read, or the reading was refused
use Rattle.std.specs.Prelude.{◌≡◌, ◌⊎◌, Ok, Err}
use Rattle.std.specs.declared.result.Result.{Result}
use Rattle.hx_model.specs.declared.ask.Answer.{Answer}
use Rattle.hx_model.specs.declared.ask.Answer.TheVariants.{Refused}
use Rattle.hx_model.specs.declared.ask.Ask.{Ask}
use Rattle.hx_model.specs.declared.refusal.Refusal.{Refusal}
use Rattle.hx_model.specs.declared.refusal.Refusal.TheVariants.{NoMemory}
use Rattle.hx_shared.specs.Seats.{Adds, HasHistory, SeatView}
use Rattle.hx_shared.specs.declared.call.Call.TheVariants as call

-- the seat asked what was read
pub record IsMade (reading : Result Ask Refusal) (old : SeatView) (answer : Answer) (new : SeatView) : Type 0 where
  pub ask : Ask
  pub reads : reading ≡ Ok ask
  pub adds : Adds old (call.Request ask answer) new
  pub legal : HasHistory new

-- it was refused where it was read, for want of memory too, and the seat stays
pub record IsUnread (reading : Result Ask Refusal) (old : SeatView) (answer : Answer) (new : SeatView) : Type 0 where
  pub refusal : Refusal
  pub refused : answer ≡ Refused refusal
  pub cause : (refusal ≡ NoMemory) ⊎ (reading ≡ Err refusal)
  pub same : new ≡ old

abbrev pub IsCalled : Result Ask Refusal → SeatView → Answer → SeatView → Type 0
IsCalled reading old answer new = IsMade reading old answer new ⊎ IsUnread reading old answer new
