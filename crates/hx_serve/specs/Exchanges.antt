-- The exchanges of HTTP: each message with what it made, and each head that is refused.
--     reading_of, order_of   what a message asks, or the refusal that it fixes;  the same as an order of a script
--     reply_of last answer   the reply that says an answer; `last` says that the link ends after it
--     Exchange, IsExchange   a message, what it made, and whether the text of its reply found no memory, or the fault of a head;  the message makes that
--     plain_of               the question of an exchange, and its reply
--     made_by, entries_of    the entries of one exchange, and of several
--     HasAnswered            exchanges lead from one view of a cluster to another
--     HasSettled             so does a settle
-- What a message makes is said as for a line of a script: both order something, and `Makes` says what comes of it.
use Rattle.std.specs.Prelude.{◌≡◌, ℕ, Bool, List, [], map, flat_map, Option, Some, None, Ok, if◌then◌else◌}
use Rattle.std.specs.declared.result.Result.{Result}
use Rattle.std.specs.List.{AllByRecursion}
use Rattle.hx_model.specs.Bodies.{answer_code, answer_text}
use Rattle.hx_model.specs.Machine.{History, answer_of}
use Rattle.hx_model.specs.declared.ask.Answer.{Answer}
use Rattle.hx_model.specs.declared.ask.Ask.{Ask}
use Rattle.hx_model.specs.declared.refusal.Refusal.{Refusal}
use Rattle.hx_http.specs.Messages.{Message}
use Rattle.hx_http.specs.Replies.{fault_text, no_memory_text, reply_text}
use Rattle.hx_http.specs.Streams.{Question, Asked, Rejected}
use Rattle.hx_http.specs.declared.fault.HeadFault.{HeadFault}
use Rattle.hx_api.specs.Asks.{ask_of}
use Rattle.hx_link.specs.Exchanges.{Exchange as Plain}
use Rattle.hx_core.specs.Refinement.{ClusterView, HasWorld, Simulates}
use Rattle.hx_script.specs.Exchanges.{Made, One, Turns, made_entries, Makes, MayBeUnsaid}
use Rattle.hx_script.specs.Forms.{asking_for}
use Rattle.hx_script.specs.declared.order.Order.{Order}
use Rattle.hx_script.specs.declared.order.Order.TheVariants as order

-- ---- what a message orders

-- what a message asks, or the refusal that its target or its body fixes
abbrev pub reading_of : Message → Result Ask Refusal
reading_of message = ask_of message.method message.target message.body

-- the same as an order
abbrev pub order_of : Message → Result Order Refusal
order_of message = asking_for (reading_of message)

-- ---- replies

-- the reply that says an answer
abbrev pub reply_of : Bool → Answer → List ℕ
reply_of last answer = reply_text (answer_code answer) (answer_text answer) last

-- the reply to an entry that is a request's or a refusal
abbrev pub entry_reply : Bool → Option Answer → List ℕ
entry_reply last (Some answer) = reply_of last answer
entry_reply last None = []

-- the reply to what was made. No message makes the turns of a settle
abbrev pub made_reply : Bool → Made → List ℕ
made_reply last (One entry) = entry_reply last (answer_of entry)
made_reply last (Turns turns end) = []

-- what is written of what was made: its reply, or the fixed one for want of memory in its place
abbrev pub said_reply : Bool → Made → Bool → List ℕ
said_reply last made unsaid = if unsaid then no_memory_text last else made_reply last made

-- ---- exchanges

-- a message, what it made, and whether its reading or the text of its reply found no memory; or the fault of a head that is refused, which makes nothing
pub data Exchange : Type 0 where
  Answered : (message : Message) (made : Made) (unsaid : Bool) → Exchange
  Refused : (fault : HeadFault) → Exchange

-- the message makes that, and its reply is left unsaid only where that may be
pub record IsAnswered (message : Message) (made : Made) (unsaid : Bool) : Type 0 where
  pub makes : Makes (order_of message) made
  pub said : MayBeUnsaid made unsaid

-- the message makes what its exchange has
abbrev pub IsExchange : Exchange → Type 0
IsExchange (Answered message made unsaid) = IsAnswered message made unsaid
IsExchange (Refused fault) = Unit {0}

-- the question of an exchange, and its reply. The link ends after a head that is refused
abbrev pub plain_of : Exchange → Plain Question
plain_of (Answered message made unsaid) = record { question = Asked message; text = said_reply message.last made unsaid }
plain_of (Refused fault) = record { question = Rejected fault; text = fault_text fault }

-- the questions of exchanges, and their replies
abbrev pub plain : List Exchange → List (Plain Question)
plain exchanges = map plain_of exchanges

-- the entries of an exchange
abbrev pub made_by : Exchange → History
made_by (Answered message made unsaid) = made_entries made
made_by (Refused fault) = []

-- the entries of exchanges
abbrev pub entries_of : List Exchange → History
entries_of exchanges = flat_map made_by exchanges

-- ---- a cluster that answers

-- Exchanges lead from one view of a cluster to another: each makes its own entries, and the cluster made these, one behind the other, if it stood for a world
pub record HasAnswered (old : ClusterView) (asked : List (Plain Question)) (new : ClusterView) : Type 0 where
  pub exchanges : List Exchange
  pub are : asked ≡ plain exchanges
  pub each : AllByRecursion IsExchange exchanges
  pub simulates : HasWorld old → Simulates old (entries_of exchanges) new

-- a settle of at most so many turns was made
pub record HasSettled (most : ℕ) (old new : ClusterView) : Type 0 where
  pub made : Made
  pub makes : Makes (Ok (order.Settle most)) made
  pub simulates : HasWorld old → Simulates old (made_entries made) new
