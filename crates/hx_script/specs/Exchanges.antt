-- The exchanges of a script: each line that is answered, with what it made: entries of the machine.
--     Made                 one entry, or the turns of a settle and its end
--     Exchange, IsExchange         a line, what it made, and whether the text of its answer found no memory;  the line makes that
--     lines_of, entries_of the lines and the entries of exchanges
--     answer_lines         what exchanges write
--     last_lines           what an exchange writes at once, at its end
use Rattle.std.specs.Prelude.{◌≡◌, ◌≢◌, ◌≤◌, ◌⊎◌, ℕ, Bool, true, false, List, [], ◌∷◌, ◌++◌, length, map, flat_map, Ok, Err, Option, Some, None, if◌then◌else◌}
use Rattle.std.specs.declared.result.Result.{Result}
use Rattle.hx_model.specs.declared.ask.Answer.{Answer}
use Rattle.hx_model.specs.declared.ask.Ask.{Ask}
use Rattle.hx_model.specs.declared.ask.Answer.TheVariants.{Refused as Refusing}
use Rattle.hx_model.specs.declared.key.Finish.{Finish}
use Rattle.hx_model.specs.declared.key.Key.{Key}
use Rattle.hx_model.specs.declared.refusal.Refusal.{Refusal}
use Rattle.hx_model.specs.declared.refusal.Refusal.TheVariants.{NoMemory}
use Rattle.hx_model.specs.Machine.{Entry, Refused, Request, LostRequest, Took, Idle, Already, HeldBy, LostTake, Finished, Dropped, Checked, History, answer_of}
use Rattle.hx_core.specs.Turns.{turns_entries, end_entries, loss_of, LoseLast}
use Rattle.hx_core.specs.declared.turns.Settle.{Settle}
use Rattle.hx_core.specs.declared.turns.Settle.TheVariants as settled
use Rattle.hx_core.specs.declared.turns.Turned.{Turned}
use Rattle.hx_script.specs.Lines.{Line}
use Rattle.hx_script.specs.Forms.{reading_of}
use Rattle.hx_script.specs.Replies.{answer_line}
use Rattle.hx_script.specs.Turns.{turn_line, turned_lines, settle_lines, settled_line}
use Rattle.hx_script.specs.declared.order.Order.{Order}
use Rattle.hx_script.specs.declared.order.Order.TheVariants as order

-- one entry, or the turns of a settle and its end
pub data Made : Type 0 where
  One : (entry : Entry) → Made
  Turns : (turns : List Turned) (end : Settle) → Made

-- the entries of what was made
abbrev pub made_entries : Made → History
made_entries (One entry) = entry ∷ []
made_entries (Turns turns end) = turns_entries turns ++ end_entries end

-- a line, what it made, and whether its reading or the text of its answer found no memory
pub record Exchange : Type 0 where
  pub line : Line
  pub made : Made
  pub unsaid : Bool

-- ---- which line makes what

-- a key was taken that the line names, or, where it names none, any
abbrev pub IsNamed : Option Key → Key → Bool → Type 0
IsNamed None k named = named ≡ false
IsNamed (Some wanted) k named = (k ≡ wanted) × (named ≡ true)

-- a worker asks for a key
abbrev pub IsTake : ℕ → Option Key → Entry → Type 0
IsTake worker wanted (Took w k named) = (w ≡ worker) × IsNamed wanted k named
IsTake worker wanted (Idle w) = (w ≡ worker) × (wanted ≡ None)
IsTake worker wanted (Already w k) = w ≡ worker
IsTake worker wanted (HeldBy w k holder) = (w ≡ worker) × (wanted ≡ Some k)
IsTake worker wanted (LostTake w) = w ≡ worker
IsTake worker wanted _ = ⊥

abbrev pub IsRequest : Ask → Entry → Type 0
IsRequest ask (Request asked answer) = asked ≡ ask
IsRequest ask (LostRequest asked cause) = asked ≡ ask
IsRequest ask _ = ⊥

-- A settle ends by its last turn, where that was lost. Else it ends where no key waits or is held; or the turns are used up and keys wait, or none waits and some are held; or for want of memory
abbrev pub EndsBy : Option Settle → ℕ → List Turned → Settle → Type 0
EndsBy (Some loss) most turns end = end ≡ loss
EndsBy None most turns settled.Settled = Unit {0}
EndsBy None most turns (settled.Unsettled waiting held) = ((length turns ≡ most) × (waiting ≢ 0)) ⊎ ((waiting ≡ 0) × (held ≢ 0))
EndsBy None most turns settled.NoMemory = Unit {0}
EndsBy None most turns _ = ⊥

-- at most so many turns were made, of which none but the last was lost
pub record IsSettle (most : ℕ) (turns : List Turned) (end : Settle) : Type 0 where
  pub few : length turns ≤ most
  pub whole : LoseLast turns
  pub ends : EndsBy (loss_of turns) most turns end

-- what an order makes, and a line that is refused
abbrev pub Makes : Result Order Refusal → Made → Type 0
Makes (Err refusal) (One entry) = entry ≡ Refused refusal
Makes (Ok (order.Ask ask)) (One entry) = IsRequest ask entry
Makes (Ok (order.Take worker wanted)) (One entry) = IsTake worker wanted entry
Makes (Ok (order.Finish worker)) (One entry) = (end : Finish) × (entry ≡ Finished worker end)
Makes (Ok (order.Drop worker)) (One entry) = (k : Option Key) × (entry ≡ Dropped worker k)
Makes (Ok order.Check) (One entry) = (waiting : ℕ) × (held : ℕ) × (entry ≡ Checked waiting held)
Makes (Ok (order.Settle most)) (Turns turns end) = IsSettle most turns end
Makes _ _ = ⊥

-- memory may be wanting for the answer of such an entry. The lines of a loss are fixed, and those of workers need none
abbrev pub MayBeUnsaid : Made → Bool → Type 0
MayBeUnsaid made false = Unit {0}
MayBeUnsaid (One (Refused refusal)) true = Unit {0}
MayBeUnsaid (One (Request ask answer)) true = Unit {0}
MayBeUnsaid _ true = ⊥

-- the line makes what its exchange has, and its answer is left unsaid only where that may be
pub record IsExchange (exchange : Exchange) : Type 0 where
  pub makes : Makes (reading_of exchange.line) exchange.made
  pub said : MayBeUnsaid exchange.made exchange.unsaid

-- the lines of exchanges
abbrev pub lines_of : List Exchange → List Line
lines_of exchanges = map (λ (exchange : Exchange). exchange.line) exchanges

-- the entries of exchanges
abbrev pub entries_of : List Exchange → History
entries_of exchanges = flat_map (λ (exchange : Exchange). made_entries exchange.made) exchanges

-- ---- what they write

-- the fixed line that stands for an answer whose text found no memory
abbrev pub no_memory_line : List ℕ
no_memory_line = answer_line (Refusing NoMemory)

-- the line of an entry: that of a request's answer, or of a turn
abbrev pub entry_line_by : Option Answer → Entry → List ℕ
entry_line_by (Some answer) entry = answer_line answer
entry_line_by None entry = turn_line entry

abbrev pub entry_line : Entry → List ℕ
entry_line entry = entry_line_by (answer_of entry) entry

-- the lines of what was made
abbrev pub made_lines : Made → List ℕ
made_lines (One entry) = entry_line entry
made_lines (Turns turns end) = settle_lines turns end

-- the lines of its last turn, with that of the end
abbrev pub last_turn_lines : List Turned → Settle → List ℕ
last_turn_lines [] end = settled_line end
last_turn_lines (turned ∷ []) end = turned_lines turned ++ settled_line end
last_turn_lines (turned ∷ next ∷ turns) end = last_turn_lines (next ∷ turns) end

-- what of the lines is written at once, at their end: the line of an entry; of a settle the lines of its last turn, with that of its end
abbrev pub last_made_lines : Made → List ℕ
last_made_lines (One entry) = entry_line entry
last_made_lines (Turns turns end) = last_turn_lines turns end

-- what is written of what was made: its lines, or the fixed one in their place
abbrev pub said_lines : Made → Bool → List ℕ
said_lines made unsaid = if unsaid then no_memory_line else made_lines made

-- what of that is written at once, at its end
abbrev pub said_last : Made → Bool → List ℕ
said_last made unsaid = if unsaid then no_memory_line else last_made_lines made

-- what an exchange writes
abbrev pub exchange_line : Exchange → List ℕ
exchange_line exchange = said_lines exchange.made exchange.unsaid

-- what of it is written at once, at its end
abbrev pub last_lines : Exchange → List ℕ
last_lines exchange = said_last exchange.made exchange.unsaid

-- what exchanges write
abbrev pub answer_lines : List Exchange → List ℕ
answer_lines [] = []
answer_lines (exchange ∷ exchanges) = exchange_line exchange ++ answer_lines exchanges
