-- The head of a message, found by its lines.
--     Front          how many bytes the head takes, with what is passed over before it, and its lines
--     front_of       the front that bytes begin with, where its last line has come
--     IsFront bytes lines      the bytes are a front, of these lines
-- A line ends with a line feed, and a carriage return before that is dropped. Empty lines are passed over, and the head goes from the first other line to the next empty one (RFC 9112, section 2.2, with its leave to take a line feed alone).
use Rattle.std.specs.Prelude.{◌≡◌, ℕ, ◌+◌, Bool, true, false, ◌==◌, List, [], ◌∷◌, ◌++◌, length, Option, Some, None, if◌then◌else◌}
use Rattle.std.specs.Option.{option_map}
use Rattle.std.specs.Str.Lines.{strip_carriage_return}

-- the bytes up to the end of the empty line, and the lines before it that aren't empty, without their ends
pub record Front : Type 0 where
  pub length : ℕ
  pub lines : List (List ℕ)

-- the same front, one byte further on
abbrev pub further : Front → Front
further front = record { length = front.length + 1; lines = front.lines }

-- the same front, with a line before its others
abbrev pub with_line : List ℕ → Front → Front
with_line line front = record { length = front.length; lines = line ∷ front.lines }

-- where a line ends: an empty one ends the head, if that has begun, and is passed over before
abbrev pub line_ended : Bool → List ℕ → (Bool → Option Front) → Option Front
line_ended false [] rest = rest false
line_ended true [] rest = Some (record { length = 0; lines = [] })
line_ended begun (byte ∷ line) rest = option_map (with_line (byte ∷ line)) (rest true)

-- the front, by whether the head has begun and what has come of the line
abbrev pub front_from : List ℕ → Bool → List ℕ → Option Front
front_from [] begun line = None
front_from (byte ∷ bytes) begun line =
    option_map further (if byte == 10 then line_ended begun (strip_carriage_return line) (λ (begun : Bool). front_from bytes begun []) else front_from bytes begun (line ++ byte ∷ []))

-- the front that bytes begin with
abbrev pub front_of : List ℕ → Option Front
front_of bytes = front_from bytes false []

-- the bytes are a front, and nothing behind it
abbrev pub IsFront : List ℕ → List (List ℕ) → Type 0
IsFront bytes lines = front_of bytes ≡ Some (record { length = length bytes; lines = lines })
