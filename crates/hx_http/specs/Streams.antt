-- What a stream of bytes asks.
--     Question          a message, or a head that is refused
--     Stream            what is asked in order, whether the link then ends, and what isn't used
--     stream_of         what bytes ask
use Rattle.std.specs.Prelude.{ℕ, zero, suc, Bool, true, false, List, [], ◌∷◌, ◌++◌, length, drop, if◌then◌else◌}
use Rattle.hx_http.specs.Messages.{Message, Next, More, Whole, Refused, next_of}
use Rattle.hx_http.specs.declared.fault.HeadFault.{HeadFault}

-- a message, or why a head is refused
pub data Question : Type 0 where
  Asked : (message : Message) → Question
  Rejected : (fault : HeadFault) → Question

-- what is asked in order, whether the link then ends, and the bytes that no question used
pub record Stream : Type 0 where
  pub questions : List Question
  pub ends : Bool
  pub unused : List ℕ

-- a stream behind questions
abbrev pub behind : List Question → Stream → Stream
behind questions stream = record { questions = questions ++ stream.questions; ends = stream.ends; unused = stream.unused }

-- a message and what the bytes behind it ask, if it doesn't end the link
abbrev pub asked : Message → List ℕ → (List ℕ → Stream) → Stream
asked message unused rest = if message.last then record { questions = Asked message ∷ []; ends = true; unused = unused } else behind (Asked message ∷ []) (rest unused)

-- what is asked, by the first message
abbrev pub stream_by : Next → List ℕ → (List ℕ → Stream) → Stream
stream_by More bytes rest = record { questions = []; ends = false; unused = bytes }
stream_by (Refused fault) bytes rest = record { questions = Rejected fault ∷ []; ends = true; unused = bytes }
stream_by (Whole message n) bytes rest = asked message (drop n bytes) rest

-- what is asked in so many steps
abbrev pub stream_within : ℕ → List ℕ → Stream
stream_within zero bytes = record { questions = []; ends = false; unused = bytes }
stream_within (suc steps) bytes = stream_by (next_of bytes) bytes (stream_within steps)

-- what bytes ask. A message takes a byte at least, so a step for each byte is enough
abbrev pub stream_of : List ℕ → Stream
stream_of bytes = stream_within (length bytes) bytes
