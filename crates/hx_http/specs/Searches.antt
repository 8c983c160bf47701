-- How far the first message was read, and what the code's values stand for.
--     AreSearched bytes s     the end of the head was looked for so far
--     IsRead bytes f          the head was read, and decides this
--     IsSearched bytes s      one or the other
--     HasLooked bytes s       none of these bytes is looked at again for the end of a head
--     next_seen, framing_at      the answer, and what a head decides, as the definitions have them
--     OnMore, UnlessMore, IfWhole     what holds where more bytes are needed, where they aren't, and of how many bytes a message takes
use Rattle.std.specs.Prelude.{◌≡◌, ◌≤◌, ℕ, Bool, nat_lt, List, ◌+◌, ◌++◌, length, take, slice_range, Option, Some, None, Ok, IsUtf8}
use Rattle.httparse.specs.Spans.{IsWithin, span_bytes}
use Rattle.hx_http.specs.Fronts.{Front, front_from, front_of}
use Rattle.hx_http.specs.Messages.{Framing, framing_of, Message, Next, Whole, More, Refused, most_front_bytes}
use Rattle.hx_http.specs.declared.message.Framing.{Framing as Read}
use Rattle.hx_http.specs.declared.message.Message.{Message as Borrowed}
use Rattle.hx_http.specs.declared.message.Next.{Next as Answered}
use Rattle.hx_http.specs.declared.message.Next.TheVariants as next_case
use Rattle.hx_http.specs.declared.search.LineSearch.{LineSearch}
use Rattle.hx_http.specs.declared.search.Search.{Search}
use Rattle.hx_http.specs.declared.search.Search.TheVariants as search_case

-- ---- answers

-- the message whose parts lie in the bytes
abbrev pub message_seen : Borrowed → Message
message_seen m = record { method = m.method; target = m.target.now; body = m.body.now; last = m.last }

-- the answer, as the definition has it
abbrev pub next_seen : Answered → Next
next_seen (next_case.Whole m n) = Whole (message_seen m) n
next_seen next_case.More = More
next_seen (next_case.Refused fault) = Refused fault

-- a whole message takes so many bytes
abbrev pub IfWhole : Answered → (ℕ → Type 0) → Type 0
IfWhole (next_case.Whole m n) P = P n
IfWhole _ P = Unit {0}

-- where more bytes are needed
abbrev pub OnMore : Answered → Type 0 → Type 0
OnMore next_case.More P = P
OnMore _ P = Unit {0}

-- where there is a message, or a fault
abbrev pub UnlessMore : Answered → Type 0 → Type 0
UnlessMore next_case.More P = Unit {0}
UnlessMore _ P = P

-- ---- the end of a head

-- the same front, so many bytes and these lines later
abbrev pub after : ℕ → List (List ℕ) → Option Front → Option Front
after n texts None = None
after n texts (Some front) = Some (record { length = front.length + n; lines = texts ++ front.lines })

-- a line that isn't empty has come
abbrev pub has_begun : LineSearch → Bool
has_begun s = nat_lt 0 s.lines

-- the bytes up to `at` were looked at: whatever follows them, the front is the one from there on, of the line that began at `line`
pub record AreSearched (bytes : List ℕ) (s : LineSearch) : Type 0 where
  pub line : s.line ≤ s.at
  pub within : s.at ≤ length bytes
  pub texts : List (List ℕ)
  pub many : length texts ≡ s.lines
  pub few : s.lines ≤ s.at
  pub is : (more : List ℕ) → front_of (take s.at bytes ++ more) ≡ after s.at texts (front_from more (has_begun s) (slice_range bytes s.line s.at))

-- ---- a head that was read

-- what a head in the bytes decides, as the definition has it
abbrev pub framing_at : List ℕ → Read → Framing
framing_at bytes f = record { method = f.method; target = span_bytes bytes f.target; body_bytes = f.body_bytes; last = f.last }

-- the bytes begin with a head that ends there, and it decides this
pub record IsRead (bytes : List ℕ) (f : Read) : Type 0 where
  pub texts : List (List ℕ)
  pub front : front_of (take most_front_bytes bytes) ≡ Some (record { length = f.head_bytes; lines = texts })
  pub decides : framing_of texts ≡ Ok (framing_at bytes f)
  pub within : f.head_bytes ≤ length bytes
  pub target : IsWithin (length bytes) f.target
  pub text : IsUtf8 (span_bytes bytes f.target)

-- the first message was read so far. No head is looked for behind the first 65,536 bytes
abbrev pub IsSearched : List ℕ → Search → Type 0
IsSearched bytes (search_case.Lines lines) = AreSearched (take most_front_bytes bytes) lines
IsSearched bytes (search_case.Body framing) = IsRead bytes framing

-- all bytes were looked at, or their head was read
abbrev pub HasLooked : List ℕ → Search → Type 0
HasLooked bytes (search_case.Lines lines) = lines.at ≡ length bytes
HasLooked bytes (search_case.Body framing) = framing.head_bytes ≤ length bytes
