-- The lines of a script.
--     Line            the text of a line, or that it is too long
--     is_asking       whether a line is answered: an empty line and one that begins with `#` aren't
--     asking          the line of a part between line feeds, where it is answered
--     script_lines    the lines of a script that are answered, in order
--     unended         the bytes behind the last line feed, which are of a line that hasn't ended
-- A line ends with a line feed or at the end of the input, and a carriage return before that is dropped.
use Rattle.std.specs.Prelude.{ℕ, Bool, false, not, ◌==◌, nat_le, List, [], ◌∷◌, filter, length, map, if◌then◌else◌}
use Rattle.std.specs.List.{list_any, slice_split}
use Rattle.std.specs.Str.Lines.{strip_carriage_return}

-- the most bytes of a line, without the carriage return at its end
abbrev pub most_line_bytes : ℕ
most_line_bytes = 131072

-- a line that is answered: its text, or that it has more bytes than a line may have
pub data Line : Type 0 where
  Short : (text : List ℕ) → Line
  Long : Line

-- the line of a text
abbrev pub line_of_text : List ℕ → Line
line_of_text text = if nat_le (length text) most_line_bytes then Short text else Long

-- an empty line and a comment ask nothing
abbrev pub is_asking : List ℕ → Bool
is_asking [] = false
is_asking (byte ∷ line) = not (byte == 35)

-- the lines of parts between line feeds, where they ask something
abbrev pub lines_of_parts : List (List ℕ) → List Line
lines_of_parts parts = map line_of_text (filter is_asking (map strip_carriage_return parts))

-- the line of one part, where it asks something
abbrev pub asking : List ℕ → List Line
asking part = lines_of_parts (part ∷ [])

-- the lines that are answered
abbrev pub script_lines : List ℕ → List Line
script_lines bytes = lines_of_parts (slice_split (λ byte. byte == 10) bytes)

-- a line ends in them
abbrev pub has_end : List ℕ → Bool
has_end bytes = list_any (λ byte. byte == 10) bytes

-- the bytes behind the last line feed, and all where there is none
abbrev pub unended : List ℕ → List ℕ
unended [] = []
unended (byte ∷ bytes) = if has_end (byte ∷ bytes) then unended bytes else byte ∷ bytes
