-- What the run of lines does, piece by piece.
--     Ran lines rest lacking ..    all lines but the rest were answered, and what was written lacks an end of the last lines that are written at once
--     Does, Cuts                   nothing is left, and nothing is lacking;  something may be
--     SaysText, SaysAnswer         a text was written, or a front of it;  an answer
--     Said                         a text was written by calls that counted nothing
--     HasMade                      a reading makes something whose lines are a text, of which an end is written at once
--     Serves                       it was made, and its lines were written, or a front of them
--     MadeTurns                    so many turns of a settle were made, and their lines written
--     IsWaiting, IsKept            what is kept of a line that hasn't ended;  behind which bytes
--     Feeds, CutsPiece             a piece of the script was taken;  it was being taken
--     ReadsOn                      what was read of the script was answered, but for what waits
--     ReadsFront                   a read failed: each line that ended before was answered
use Rattle.std.specs.Prelude.{◌≡◌, ◌≢◌, ◌≤◌, ◌<◌, ◌+◌, ℕ, Bool, false, List, [], ◌∷◌, ◌++◌, ◌⊎◌, ◌==◌, flat_map, length, take, slice_index, OnOk, OnErr}
use Rattle.std.specs.declared.option.Option.{Option}
use Rattle.std.specs.declared.result.Result.{Result}
use Rattle.std.specs.List.{AllByRecursion}
use Rattle.std.specs.Io.KnownBytes.{Appends, Consumes}
use Rattle.hx_ports.specs.Pieces.{IsCalm, WriteCause, WritesFront}
use Rattle.hx_ports.specs.Views.{SinkView}
use Rattle.hx_model.specs.declared.ask.Answer.{Answer}
use Rattle.hx_model.specs.declared.ask.Answer.TheVariants.{Refused}
use Rattle.hx_model.specs.declared.refusal.Refusal.{Refusal}
use Rattle.hx_model.specs.declared.refusal.Refusal.TheVariants.{StoreFailed}
use Rattle.hx_core.specs.Bounding.{AreCounted}
use Rattle.hx_core.specs.Refinement.{ClusterView, HasWorld, Simulates}
use Rattle.hx_core.specs.Settling.{IsWhole}
use Rattle.hx_core.specs.Turns.{turns_entries}
use Rattle.hx_core.specs.declared.turns.Turned.{Turned}
use Rattle.hx_script.specs.Lines.{Line, most_line_bytes, script_lines, unended}
use Rattle.hx_script.specs.Replies.{answer_line}
use Rattle.hx_script.specs.Bounded.{AreBounded, SettlesFor}
use Rattle.hx_script.specs.Exchanges.{Made, made_entries, Makes, MayBeUnsaid, Exchange, IsExchange, lines_of, entries_of, answer_lines, said_lines, said_last, last_lines, no_memory_line}
use Rattle.hx_script.specs.Turns.{turned_lines}
use Rattle.hx_script.specs.declared.order.Order.{Order}

-- an end of a text
abbrev pub IsEndOf : List ℕ → List ℕ → Type 0
IsEndOf text end = (front : List ℕ) × (text ≡ front ++ end)

-- What is lacking of the exchanges' lines is an end of the last ones that are written at once. So no line was begun whose predecessor wasn't written, nor a turn of a settle
abbrev pub LacksLast : List Exchange → List ℕ → Type 0
LacksLast exchanges lacking = (lacking ≡ []) ⊎ ((before : List Exchange) × (last : Exchange) × (exchanges ≡ before ++ last ∷ []) × IsEndOf (last_lines last) lacking)

-- All lines but the rest were answered by exchanges, whose entries the cluster made if it stood for a world. What was written are their lines, but for what is lacking of the last one.
-- A settle that had turns enough by the bound, while no worker held a key, didn't end unsettled.
-- Where a write failed in a settle, its exchange has the turns that were made, and ends with the loss of the last one, or else with a take that was lost: that changes nothing, and its line is among what is lacking.
pub record Ran (lines rest : List Line) (lacking : List ℕ) (old new : ClusterView) (before after : Option (List ℕ)) : Type 0 where
  pub exchanges : List Exchange
  pub text : List ℕ
  pub each : AllByRecursion IsExchange exchanges
  pub split : lines ≡ lines_of exchanges ++ rest
  pub simulates : HasWorld old → Simulates old (entries_of exchanges) new
  pub bounded : AreBounded exchanges old new
  pub says : answer_lines exchanges ≡ text ++ lacking
  pub lacks : LacksLast exchanges lacking
  pub wrote : Appends before after text

-- all lines were answered
abbrev pub Does : List Line → ClusterView → ClusterView → Option (List ℕ) → Option (List ℕ) → Type 0
Does lines old new before after = Ran lines [] [] old new before after

-- some first lines were answered, the last of them perhaps not whole
pub record Cuts (lines : List Line) (old new : ClusterView) (before after : Option (List ℕ)) : Type 0 where
  pub rest : List Line
  pub lacking : List ℕ
  pub ran : Ran lines rest lacking old new before after

-- an answer was said by its line or, but for that of a loss, by the fixed line for want of memory
abbrev pub IsSaid : Answer → List ℕ → Type 0
IsSaid answer text = (text ≡ answer_line answer) ⊎ ((text ≡ no_memory_line) × (answer ≢ Refused StoreFailed))

-- a text was written, or a front of it
pub record SaysText {T E : Type 0} (text : List ℕ) (old new : SinkView) (result : Result T E) : Type 0 where
  pub whole : OnOk result (Appends old.written new.written text)
  pub cut : OnErr result (WritesFront text old.written new.written)
  pub cause : WriteCause old new result

-- an answer was written, or a front of it
pub record SaysAnswer {T E : Type 0} (answer : Answer) (old new : SinkView) (result : Result T E) : Type 0 where
  pub text : List ℕ
  pub said : IsSaid answer text
  pub says : SaysText text old new result

-- a line was written by calls that counted nothing
pub record Said (text : List ℕ) (old new : SinkView) : Type 0 where
  pub calm : IsCalm old new
  pub wrote : Appends old.written new.written text

-- a reading makes something whose lines are a head and an end, of which the end is written at once
pub record HasMade (reading : Result Order Refusal) (head end : List ℕ) (old new : ClusterView) : Type 0 where
  pub made : Made
  pub unsaid : Bool
  pub makes : Makes reading made
  pub said : MayBeUnsaid made unsaid
  pub simulates : HasWorld old → Simulates old (made_entries made) new
  pub bounded : SettlesFor made reading old
  pub whole : said_lines made unsaid ≡ head ++ end
  pub last : IsEndOf (said_last made unsaid) end

-- what a line orders, or refuses, was made, and its lines were written, or a front of them that lacks an end of the last ones
pub record Serves {T E : Type 0} (reading : Result Order Refusal) (old new : ClusterView) (before after : SinkView) (result : Result T E) : Type 0 where
  pub head : List ℕ
  pub end : List ℕ
  pub made : HasMade reading head end old new
  pub between : SinkView
  pub said : Said head before between
  pub says : SaysText end between after result

-- so many turns of a settle were made, none of them was lost, and their lines were written
pub record MadeTurns (count : ℕ) (old new : ClusterView) (before after : SinkView) : Type 0 where
  pub turns : List Turned
  pub many : length turns ≡ count
  pub whole : IsWhole turns
  pub simulates : HasWorld old → Simulates old (turns_entries turns) new
  pub counted : AreCounted old count new
  pub said : Said (flat_map turned_lines turns) before after

-- no line ends in it
abbrev pub HasNoEnd : List ℕ → Type 0
HasNoEnd bytes = AllByRecursion (λ byte. (byte == 10) ≡ false) bytes

-- the first line feed stands there
pub record EndsAt (bytes : List ℕ) (end : ℕ) : Type 0 where
  pub within : end < length bytes
  pub is : slice_index bytes end ≡ 10
  pub before : HasNoEnd (take end bytes)

-- the most bytes that are kept of a line: enough to tell that it is too long, with or without a carriage return
abbrev pub most_kept : ℕ
most_kept = most_line_bytes + 2

-- what is kept of a line that hasn't ended
pub record IsWaiting (bytes : List ℕ) : Type 0 where
  pub no_end : HasNoEnd bytes
  pub few : length bytes ≤ most_kept

-- what is kept behind the last line feed of these bytes
pub record IsKept (bytes waiting : List ℕ) : Type 0 where
  pub is : waiting ≡ take most_kept (unended bytes)

-- whatever follows, these are the lines that the piece ends, and then those of what waits and what follows
abbrev pub Splits : List ℕ → List ℕ → List Line → List ℕ → Type 0
Splits old piece lines new = (rest : List ℕ) → script_lines (old ++ (piece ++ rest)) ≡ lines ++ script_lines (new ++ rest)

-- a piece was taken: the lines that it ends were answered, and the rest waits
pub record Feeds (waiting piece waiting' : List ℕ) (old new : ClusterView) (before after : Option (List ℕ)) : Type 0 where
  pub lines : List Line
  pub splits : Splits waiting piece lines waiting'
  pub does : Does lines old new before after

-- whatever follows the piece, the run was cut short in it
abbrev pub CutsPiece : List ℕ → List ℕ → ClusterView → ClusterView → Option (List ℕ) → Option (List ℕ) → Type 0
CutsPiece waiting piece old new before after = (rest : List ℕ) → Cuts (script_lines (waiting ++ (piece ++ rest))) old new before after

-- so many bytes were read, and what they ask was answered, but for what waits
pub record ReadsOn (told left : Option (List ℕ)) (total : ℕ) (waiting : List ℕ) (old new : ClusterView) (before after : Option (List ℕ)) : Type 0 where
  pub bytes : List ℕ
  pub read : Consumes told left bytes
  pub many : length bytes ≡ total
  pub kept : IsKept bytes waiting
  pub feeds : Feeds [] bytes waiting old new before after

-- A read failed behind some bytes. Whatever follows them, the lines that they end were answered, and those from the one that hasn't ended on are left
pub record ReadsFront (told left : Option (List ℕ)) (old new : ClusterView) (before after : Option (List ℕ)) : Type 0 where
  pub bytes : List ℕ
  pub read : Consumes told left bytes
  pub ran : (more : List ℕ) → Ran (script_lines (bytes ++ more)) (script_lines (unended bytes ++ more)) [] old new before after
