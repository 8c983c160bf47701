-- The head of a request, read from its lines.
--     Head           the method's word, the target, the minor version, and names with values
--     head_of        the head that lines are
--     parts_of       the parts of a head of httparse's grammar
-- The first line is METHOD TARGET HTTP/1.MINOR, joined by single spaces, with a minor version of 0 or 1. Each other line is NAME:VALUE, and spaces and tabs around a value are dropped (RFC 9112, sections 3 and 5). So a line that goes on the one before, a space before the colon and a carriage return within a line make no head.
use Rattle.std.specs.Prelude.{ℕ, Bool, ◌&&◌, ◌==◌, nat_lt, List, [], ◌∷◌, length, map, codes, Option, Some, None, if◌then◌else◌}
use Rattle.std.specs.List.{list_all}
use Rattle.std.specs.Str.{bytes_eq, is_utf8}
use Rattle.httparse.specs.Grammar.{is_token_byte, is_uri_byte, is_value_byte, trim_ows, RequestHead}
use Rattle.httparse.specs.Spans.{name_and_value}

-- the parts of a head
pub record Head : Type 0 where
  pub method : List ℕ
  pub target : List ℕ
  pub minor : ℕ
  pub fields : List (List ℕ × List ℕ)

-- a byte more in front of what was cut
abbrev pub with_byte : ℕ → List ℕ × List ℕ → List ℕ × List ℕ
with_byte byte cut = (byte ∷ cut.0, cut.1)

-- the same, if a cut was made
abbrev pub grown : ℕ → Option (List ℕ × List ℕ) → Option (List ℕ × List ℕ)
grown byte None = None
grown byte (Some cut) = Some (with_byte byte cut)

-- the bytes before the first byte of this value, and those behind it
abbrev pub cut_at : ℕ → List ℕ → Option (List ℕ × List ℕ)
cut_at stop [] = None
cut_at stop (byte ∷ bytes) = if byte == stop then Some ([], bytes) else grown byte (cut_at stop bytes)

-- at least one byte, each of a kind
abbrev pub is_word : (ℕ → Bool) → List ℕ → Bool
is_word test bytes = nat_lt 0 (length bytes) && list_all test bytes

-- the minor version
abbrev pub minor_of : List ℕ → Option ℕ
minor_of text = if bytes_eq text (codes "HTTP/1.1") then Some 1 else (if bytes_eq text (codes "HTTP/1.0") then Some 0 else None)

-- a head whose version is known
abbrev pub start_by : List ℕ → List ℕ → List (List ℕ × List ℕ) → Option ℕ → Option Head
start_by method target fields None = None
start_by method target fields (Some minor) =
    if is_word is_token_byte method && (is_word is_uri_byte target && is_utf8 target) then Some (record { method = method; target = target; minor = minor; fields = fields }) else None

-- a head whose target and version were cut
abbrev pub start_behind : List ℕ → List (List ℕ × List ℕ) → Option (List ℕ × List ℕ) → Option Head
start_behind method fields None = None
start_behind method fields (Some cut) = start_by method cut.0 fields (minor_of cut.1)

-- a head whose method was cut
abbrev pub start_in : List (List ℕ × List ℕ) → Option (List ℕ × List ℕ) → Option Head
start_in fields None = None
start_in fields (Some cut) = start_behind cut.0 fields (cut_at 32 cut.1)

-- a header that was cut at its colon
abbrev pub field_in : Option (List ℕ × List ℕ) → Option (List ℕ × List ℕ)
field_in None = None
field_in (Some cut) = if is_word is_token_byte cut.0 && list_all is_value_byte cut.1 then Some (cut.0, trim_ows cut.1) else None

-- the header that a line is
abbrev pub field_of : List ℕ → Option (List ℕ × List ℕ)
field_of line = field_in (cut_at 58 line)

-- a header and those behind it, if all are headers
abbrev pub both : Option (List ℕ × List ℕ) → Option (List (List ℕ × List ℕ)) → Option (List (List ℕ × List ℕ))
both (Some field) (Some fields) = Some (field ∷ fields)
both (Some field) None = None
both None fields = None

-- the headers that lines are
abbrev pub fields_of : List (List ℕ) → Option (List (List ℕ × List ℕ))
fields_of [] = Some []
fields_of (line ∷ lines) = both (field_of line) (fields_of lines)

-- the head of a first line and its headers
abbrev pub head_by : List ℕ → Option (List (List ℕ × List ℕ)) → Option Head
head_by line None = None
head_by line (Some fields) = start_in fields (cut_at 32 line)

-- the head that lines are
unfoldable pub head_of : List (List ℕ) → Option Head
head_of [] = None
head_of (line ∷ lines) = head_by line (fields_of lines)

-- the parts of a head of httparse's grammar
abbrev pub parts_of : RequestHead → Head
parts_of h = record { method = h.method; target = h.target; minor = h.minor; fields = map name_and_value h.fields }
