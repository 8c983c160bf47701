-- The first message of a stream of bytes.
--     most_front_bytes, most_fields, most_target_bytes, most_body_bytes      limits
--     framing_of lines    what the lines of a head decide of their message: all but the body, or the first fault that holds
--     next_of bytes       the message, or the first fault of its head that holds, or that more bytes are needed
-- Nothing is decided of a message before its head is whole, but where that doesn't end within the first 65,536 bytes. The length of a body is RFC 9112's, section 6, without encodings of a transfer; other headers than the three that are named here are passed over, `Expect` and `Host` among them.
use Rattle.std.specs.Prelude.{ℕ, ◌+◌, Bool, true, false, ◌&&◌, ◌==◌, nat_lt, nat_le, List, [], ◌∷◌, length, take, drop, map, codes, Option, Some, None, Ok, Err, if◌then◌else◌}
use Rattle.std.specs.declared.result.Result.{Result}
use Rattle.std.specs.List.{list_all, list_any}
use Rattle.std.specs.Char.{to_ascii_lowercase, is_ascii_digit}
use Rattle.std.specs.Str.{bytes_eq}
use Rattle.std.specs.Str.Parse.{digits_value}
use Rattle.hx_http.specs.Fronts.{Front, front_of}
use Rattle.hx_http.specs.Heads.{Head, head_of}
use Rattle.hx_http.specs.declared.message.Length.{Length}
use Rattle.hx_http.specs.declared.message.Length.TheVariants.{Absent, Given, Bad}
use Rattle.hx_http.specs.declared.method.Method.{Method}
use Rattle.hx_http.specs.declared.method.Method.TheVariants.{Get, Post, Put, Delete}
use Rattle.hx_http.specs.declared.fault.HeadFault.{HeadFault}
use Rattle.hx_http.specs.declared.fault.HeadFault.TheVariants.{BadHead, NoMethod, NoLength, TooLong, LongTarget, LargeHead, NotServed, OldVersion}

-- ---- limits

-- the most bytes up to the end of a head, with what is passed over before it
abbrev pub most_front_bytes : ℕ
most_front_bytes = 65536

-- the most headers
abbrev pub most_fields : ℕ
most_fields = 64

-- the most bytes of a target
abbrev pub most_target_bytes : ℕ
most_target_bytes = 8192

-- the most bytes of a body
abbrev pub most_body_bytes : ℕ
most_body_bytes = 131072

-- ---- headers

-- the same but for the case of ASCII letters
abbrev pub is_same : List ℕ → List ℕ → Bool
is_same word bytes = bytes_eq (map to_ascii_lowercase bytes) (map to_ascii_lowercase word)

-- a header has the name
abbrev pub has_name : List ℕ → (List ℕ × List ℕ) → Bool
has_name name field = is_same name field.0

-- 1 to 18 decimal digits
abbrev pub is_length : List ℕ → Bool
is_length text = nat_lt 0 (length text) && (nat_lt (length text) 19 && list_all is_ascii_digit text)

-- what is said of the length after one more header: a second one is bad, as is one that can't be read
abbrev pub noted : Length → List ℕ → Length
noted Absent text = if is_length text then Given (digits_value 10 text) else Bad
noted given text = Bad

-- what is said of the length after more headers
abbrev pub length_from : Length → List (List ℕ × List ℕ) → Length
length_from given [] = given
length_from given (field ∷ fields) = length_from (if has_name (codes "content-length") field then noted given field.1 else given) fields

-- what a head says of the length
abbrev pub length_of : Head → Length
length_of head = length_from Absent head.fields

-- the body comes in an encoding of its transfer
abbrev pub is_encoded : List (List ℕ × List ℕ) → Bool
is_encoded fields = list_any (has_name (codes "transfer-encoding")) fields

-- a header says that the link ends
abbrev pub ends_link : (List ℕ × List ℕ) → Bool
ends_link field = has_name (codes "connection") field && is_same (codes "close") field.1

-- some header says that the link ends
abbrev pub is_last : List (List ℕ × List ℕ) → Bool
is_last fields = list_any ends_link fields

-- ---- what a head decides

-- what a head decides of its message: all but the body
pub record Framing : Type 0 where
  pub method : Method
  pub target : List ℕ
  pub body_bytes : ℕ
  pub last : Bool

-- the method that a word is, in capitals alone
abbrev pub method_of : List ℕ → Option Method
method_of word =
    if bytes_eq word (codes "GET") then Some Get else (
    if bytes_eq word (codes "POST") then Some Post else (
    if bytes_eq word (codes "PUT") then Some Put else (
    if bytes_eq word (codes "DELETE") then Some Delete else None)))

-- the length of the body has to be said
abbrev pub needs_length : Method → Bool
needs_length Post = true
needs_length Put = true
needs_length _ = false

-- what is decided, by the length of the body
abbrev pub with_length : Method → Head → ℕ → Result Framing HeadFault
with_length method head body_bytes = if nat_lt most_body_bytes body_bytes then Err TooLong else Ok (record { method = method; target = head.target; body_bytes = body_bytes; last = is_last head.fields })

-- what is decided, by what is said of the length
abbrev pub by_length : Method → Head → Length → Result Framing HeadFault
by_length method head (Given body_bytes) = with_length method head body_bytes
by_length method head _ = if needs_length method then Err NoLength else with_length method head 0

-- what is decided, by the method and the encoding of the transfer
abbrev pub by_method : Head → Length → Option Method → Result Framing HeadFault
by_method head given None = Err NoMethod
by_method head given (Some method) = if is_encoded head.fields then Err NotServed else by_length method head given

-- what is decided, by the version and the target
abbrev pub by_version : Head → Length → Result Framing HeadFault
by_version head given =
    if head.minor == 0 then Err OldVersion else (
    if nat_lt most_target_bytes (length head.target) then Err LongTarget else by_method head given (method_of head.method))

-- what is decided, by whether the length can be read
abbrev pub framing_by : Head → Length → Result Framing HeadFault
framing_by head Bad = Err BadHead
framing_by head given = by_version head given

-- what is decided, by the head, if the lines are one
abbrev pub framing_in : Option Head → Result Framing HeadFault
framing_in None = Err BadHead
framing_in (Some head) = framing_by head (length_of head)

-- what the lines of a head decide, more than 64 headers first
unfoldable pub framing_of : List (List ℕ) → Result Framing HeadFault
framing_of lines = if nat_lt (most_fields + 1) (length lines) then Err LargeHead else framing_in (head_of lines)

-- ---- messages

-- a request; `last` says that the link ends after it
pub record Message : Type 0 where
  pub method : Method
  pub target : List ℕ
  pub body : List ℕ
  pub last : Bool

-- a message and how many bytes it takes, or that more bytes are needed, or why the head is refused
pub data Next : Type 0 where
  Whole : (message : Message) (length : ℕ) → Next
  More : Next
  Refused : (fault : HeadFault) → Next

-- the message of a head and a body
abbrev pub message_of : Framing → List ℕ → Message
message_of framing body = record { method = framing.method; target = framing.target; body = body; last = framing.last }

-- the first message, by what stands behind the head
abbrev pub body_behind : ℕ → Framing → List ℕ → Next
body_behind at framing rest = if nat_le framing.body_bytes (length rest) then Whole (message_of framing (take framing.body_bytes rest)) (at + framing.body_bytes) else More

-- the first message, by what its head decides
abbrev pub next_behind : ℕ → Result Framing HeadFault → List ℕ → Next
next_behind at (Err fault) rest = Refused fault
next_behind at (Ok framing) rest = body_behind at framing rest

-- the first message, by the front, if it has come
abbrev pub next_by : List ℕ → Option Front → Next
next_by bytes None = if nat_lt (length bytes) most_front_bytes then More else Refused LargeHead
next_by bytes (Some front) = next_behind front.length (framing_of front.lines) (drop front.length bytes)

-- the first message of bytes that aren't used yet
abbrev pub next_of : List ℕ → Next
next_of bytes = next_by bytes (front_of (take most_front_bytes bytes))
