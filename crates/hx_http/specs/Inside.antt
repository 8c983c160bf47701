-- What serves the code alone.
--     HasNoFeed, FeedsAt      where line feeds are
--     head_in, head_by        the head that spans show
--     framing_seen            what a head decides, or its fault, as the definition has it
--     framed                  the same, by how many bytes the body has
--     IsPlaced, IsTarget      where the parts of what is decided lie
use Rattle.std.specs.Prelude.{◌≡◌, ℕ, ◌==◌, false, List, length, take, map, slice_index, Ok, Err, ◌<◌, IsUtf8}
use Rattle.std.specs.declared.result.Result.{Result}
use Rattle.std.specs.List.{AllByRecursion}
use Rattle.httparse.specs.Spans.{IsWithin, span_bytes, header_bytes}
use Rattle.httparse.specs.declared.spans.HeaderSpan.{HeaderSpan}
use Rattle.httparse.specs.declared.spans.RequestSpans.{RequestSpans}
use Rattle.hx_http.specs.Heads.{Head}
use Rattle.hx_http.specs.Messages.{Framing, is_last}
use Rattle.hx_http.specs.Searches.{framing_at}
use Rattle.hx_http.specs.declared.fault.HeadFault.{HeadFault}
use Rattle.hx_http.specs.declared.method.Method.{Method}
use Rattle.hx_http.specs.declared.message.Framing.{Framing as Read}

-- bytes without a line feed
abbrev pub HasNoFeed : List ℕ → Type 0
HasNoFeed bytes = AllByRecursion (λ byte. (byte == 10) ≡ false) bytes

-- the first line feed stands there
pub record FeedsAt (bytes : List ℕ) (end : ℕ) : Type 0 where
  pub within : end < length bytes
  pub is : slice_index bytes end ≡ 10
  pub before : HasNoFeed (take end bytes)

-- the head that the spans of its parts and of its headers show
abbrev pub head_in : List ℕ → List HeaderSpan → RequestSpans → Head
head_in front headers r = record { method = span_bytes front r.method; target = span_bytes front r.path; minor = r.version; fields = map (header_bytes front) headers }

-- the head that spans show, where there are more spans than headers
abbrev pub head_by : List ℕ → List HeaderSpan → RequestSpans → Head
head_by front headers r = head_in front (take r.headers headers) r

-- what a head in the bytes decides, or its fault
abbrev pub framing_seen : List ℕ → Result Read HeadFault → Result Framing HeadFault
framing_seen bytes (Ok f) = Ok (framing_at bytes f)
framing_seen bytes (Err fault) = Err fault

-- what a number of bytes of the body decides, or its fault
abbrev pub framed : Method → Head → Result ℕ HeadFault → Result Framing HeadFault
framed method head (Ok n) = Ok (record { method = method; target = head.target; body_bytes = n; last = is_last head.fields })
framed method head (Err fault) = Err fault

-- the head takes all bytes, and its target lies where the head has it
pub record IsPlaced (front : List ℕ) (r : RequestSpans) (f : Read) : Type 0 where
  pub head : f.head_bytes ≡ length front
  pub target : f.target ≡ r.path

-- the head takes all bytes, and its target is a text in them
pub record IsTarget (front : List ℕ) (f : Read) : Type 0 where
  pub head : f.head_bytes ≡ length front
  pub within : IsWithin (length front) f.target
  pub text : IsUtf8 (span_bytes front f.target)
