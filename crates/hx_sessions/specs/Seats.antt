-- The exchanges of a seat: what is asked of a cluster that others ask too.
--     SeatExchange           a message that was asked of the cluster, with its answer; one that wasn't; or the fault of a head
--     exchange_of            the same as an exchange with a cluster of one caller
--     calls_by               the call that the seat made for it, if any
--     IsUncalled, IsCalledFor        nothing was asked;  the call is that of the message
--     IsSeatExchange         the message makes what its exchange has
--     seat_plain             the questions of exchanges, and their replies
--     HasAsked               exchanges lead from one view of a seat to another
--     IsServedBy             a link with these ends was served over a seat
use Rattle.std.specs.Prelude.{◌≡◌, ◌≢◌, Bool, List, [], ◌∷◌, map, flat_map, Ok}
use Rattle.std.specs.List.{AllByRecursion}
use Rattle.hx_http.specs.Messages.{Message}
use Rattle.hx_http.specs.Streams.{Question}
use Rattle.hx_http.specs.declared.fault.HeadFault.{HeadFault}
use Rattle.hx_model.specs.Machine.{Entry, Refused as Turned, LostRequest, NoMemory}
use Rattle.hx_model.specs.Requests.{request_entry}
use Rattle.hx_model.specs.declared.ask.Answer.{Answer}
use Rattle.hx_model.specs.declared.ask.Ask.{Ask}
use Rattle.hx_ports.specs.Pieces.{IsCalm}
use Rattle.hx_link.specs.Exchanges.{Exchange as Plain}
use Rattle.hx_link.specs.declared.link.LinkEnd.{LinkEnd}
use Rattle.hx_link.specs.declared.link.LinkEnd.TheVariants as end
use Rattle.hx_script.specs.Exchanges.{One}
use Rattle.hx_serve.specs.Exchanges.{Exchange, Answered, Refused as RefusedHead, IsExchange, plain, reading_of}
use Rattle.hx_serve.specs.Visits.{IsEnd, LinkView}
use Rattle.hx_shared.specs.Seats.{HasHistory, SeatView}
use Rattle.hx_shared.specs.Working.{HasCalled}
use Rattle.hx_shared.specs.declared.call.Call.{Call}
use Rattle.hx_shared.specs.declared.call.Call.TheVariants as call

-- ---- one message

-- A message that was asked of the cluster, with the answer to the seat's own call; one that was refused as it was read, or whose reading found no memory, with that entry; or the fault of a head. The text of a reply may have found no memory
pub data SeatExchange : Type 0 where
  Called : (message : Message) (ask : Ask) (answer : Answer) (unsaid : Bool) → SeatExchange
  Uncalled : (message : Message) (entry : Entry) (unsaid : Bool) → SeatExchange
  Refused : (fault : HeadFault) → SeatExchange

-- the same as an exchange with a cluster of one caller
abbrev pub exchange_of : SeatExchange → Exchange
exchange_of (Called message ask answer unsaid) = Answered message (One (request_entry ask answer)) unsaid
exchange_of (Uncalled message entry unsaid) = Answered message (One entry) unsaid
exchange_of (Refused fault) = RefusedHead fault

-- the call that the seat made for it, if any
abbrev pub calls_by : SeatExchange → List Call
calls_by (Called message ask answer unsaid) = call.Request ask answer ∷ []
calls_by (Uncalled message entry unsaid) = []
calls_by (Refused fault) = []

-- nothing was asked: the message was refused as it was read, or its reading found no memory
abbrev pub IsUncalled : Entry → Type 0
IsUncalled (Turned refusal) = Unit {0}
IsUncalled (LostRequest ask NoMemory) = Unit {0}
IsUncalled _ = ⊥

-- the call is that of the message
abbrev pub IsCalledFor : SeatExchange → Type 0
IsCalledFor (Called message ask answer unsaid) = reading_of message ≡ Ok ask
IsCalledFor (Uncalled message entry unsaid) = IsUncalled entry
IsCalledFor (Refused fault) = Unit {0}

-- the message makes what its exchange has
abbrev pub IsSeatExchange : SeatExchange → Type 0
IsSeatExchange exchange = IsExchange (exchange_of exchange) × IsCalledFor exchange

-- the questions of exchanges, and their replies: the reply to a call says its own answer
abbrev pub seat_plain : List SeatExchange → List (Plain Question)
seat_plain exchanges = plain (map exchange_of exchanges)

-- Exchanges lead from one view of a seat to another: the seat made just their calls, one behind the other, and has seen more. What it has seen stays legal
pub record HasAsked (old : SeatView) (asked : List (Plain Question)) (new : SeatView) : Type 0 where
  pub exchanges : List SeatExchange
  pub are : asked ≡ seat_plain exchanges
  pub each : AllByRecursion IsSeatExchange exchanges
  pub called : HasCalled (flat_map calls_by exchanges) old new
  pub legal : HasHistory old → HasHistory new

-- ---- one link

-- A link with these ends was served over a seat: how it ended, what was asked and answered, by which calls; and no read or write failed where the end isn't that
pub record IsServedBy (how : LinkEnd) (before after : LinkView) (old new : SeatView) : Type 0 where
  pub exchanges : List SeatExchange
  pub each : AllByRecursion IsSeatExchange exchanges
  pub ends : IsEnd how before after (map exchange_of exchanges)
  pub called : HasCalled (flat_map calls_by exchanges) old new
  pub legal : HasHistory old → HasHistory new
  pub read_calm : how ≢ end.ReadFault → after.source.faults ≡ before.source.faults
  pub write_calm : how ≢ end.WriteFault → IsCalm before.sink after.sink
