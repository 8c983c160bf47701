-- What the run of a link does: it makes exchanges of a service, and writes their texts.
--     Doing                                  which exchanges lead from one state of a service to another
--     Ran does questions rest lacking ..     all questions but the rest were answered, and what was written lacks an end of the last text
--     Does, Cuts                   nothing is left, and nothing is lacking;  something may be
--     Feeds, Ends, CutsPiece       bytes were answered up to what waits;  up to the end of the link;  they were being answered
--     HasRead told left P          so many bytes were read
--     IsClosed, IsCutShort         how a stream ends
--     ReadsOn                      what was read was answered, but for what waits
use Rattle.std.specs.Prelude.{◌≡◌, ◌≢◌, ◌⊎◌, ℕ, true, false, List, [], ◌++◌, length}
use Rattle.std.specs.declared.option.Option.{Option}
use Rattle.std.specs.Io.KnownBytes.{Appends, Consumes}
use Rattle.hx_http.specs.Streams.{Question, Stream, behind, stream_of}
use Rattle.hx_link.specs.Exchanges.{Exchange, questions_of, texts_of, LacksLast}

-- exchanges lead from one state of a service to another
abbrev pub Doing : Type 0 → Type 0 → Type 1
Doing Q V = V → List (Exchange Q) → V → Type 0

-- All questions but the rest were answered by exchanges that the service made. What was written are their texts in order, but for what is lacking of the last one
pub record Ran {Q V : Type 0} (does : Doing Q V) (questions rest : List Q) (lacking : List ℕ) (old new : V) (before after : Option (List ℕ)) : Type 0 where
  pub exchanges : List (Exchange Q)
  pub text : List ℕ
  pub split : questions ≡ questions_of exchanges ++ rest
  pub does_them : does old exchanges new
  pub says : texts_of exchanges ≡ text ++ lacking
  pub lacks : LacksLast exchanges lacking
  pub wrote : Appends before after text

-- all questions were answered
abbrev pub Does : {Q V : Type 0} → Doing Q V → List Q → V → V → Option (List ℕ) → Option (List ℕ) → Type 0
Does does questions old new before after = Ran does questions [] [] old new before after

-- some first questions were answered, the last of them perhaps not whole
pub record Cuts {Q V : Type 0} (does : Doing Q V) (questions : List Q) (old new : V) (before after : Option (List ℕ)) : Type 0 where
  pub rest : List Q
  pub lacking : List ℕ
  pub ran : Ran does questions rest lacking old new before after

-- ---- a stream in pieces

-- the bytes were used up to what waits: whatever follows, they ask these questions first, and these were answered
pub record Feeds {V : Type 0} (does : Doing Question V) (bytes waiting : List ℕ) (old new : V) (before after : Option (List ℕ)) : Type 0 where
  pub questions : List Question
  pub splits : (rest : List ℕ) → stream_of (bytes ++ rest) ≡ behind questions (stream_of (waiting ++ rest))
  pub does_them : Does does questions old new before after

-- whatever follows, the link ends after the questions that the bytes ask, and these were answered
pub record Ends {V : Type 0} (does : Doing Question V) (bytes : List ℕ) (old new : V) (before after : Option (List ℕ)) : Type 0 where
  pub questions : List Question
  pub asks : (rest : List ℕ) → (stream_of (bytes ++ rest)).questions ≡ questions
  pub ends : (rest : List ℕ) → (stream_of (bytes ++ rest)).ends ≡ true
  pub does_them : Does does questions old new before after

-- whatever follows the bytes, the run was cut short in what they ask
abbrev pub CutsPiece : {V : Type 0} → Doing Question V → List ℕ → V → V → Option (List ℕ) → Option (List ℕ) → Type 0
CutsPiece does bytes old new before after = (rest : List ℕ) → Cuts does (stream_of (bytes ++ rest)).questions old new before after

-- ---- a link

-- the source gave so many bytes
abbrev pub HasRead : Option (List ℕ) → Option (List ℕ) → (ℕ → Type 0) → Type 0
HasRead told left P = (bytes : List ℕ) × Consumes told left bytes × P (length bytes)

-- a reply ends the link, or no byte is left unused
abbrev pub IsClosed : Stream → Type 0
IsClosed stream = (stream.ends ≡ true) ⊎ (stream.unused ≡ [])

-- bytes of a request that isn't whole are left
abbrev pub IsCutShort : Stream → Type 0
IsCutShort stream = (stream.ends ≡ false) × (stream.unused ≢ [])

-- so many bytes were read, and what they ask was answered, but for what waits
pub record ReadsOn {V : Type 0} (does : Doing Question V) (told left : Option (List ℕ)) (total : ℕ) (waiting : List ℕ) (old new : V) (before after : Option (List ℕ)) : Type 0 where
  pub bytes : List ℕ
  pub read : Consumes told left bytes
  pub many : length bytes ≡ total
  pub feeds : Feeds does bytes waiting old new before after
