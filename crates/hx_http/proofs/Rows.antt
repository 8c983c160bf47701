-- Messages, what is answered of them, and replies on examples.
use Rattle.std.proofs.Common.{◌≡◌, ℕ, true, false, List, [], ◌∷◌, ◌++◌, Err, refl, codes, replicate}
use Rattle.httparse.proofs.OnLiterals.{httparse_on_literals}
use Rattle.std.specs.Fmt.{digits}
use Rattle.std.specs.Str.{is_utf8, chars}
use lib.Utf8.{encode}
use Rattle.hx_http.specs.Heads.{head_of}
use Rattle.hx_http.specs.Messages.{More, Whole, Refused, next_of, framing_of}
use Rattle.hx_http.specs.Replies.{end_text, head_text, length_lines, reply_text, status_line, type_text, version_text}
use Rattle.hx_http.specs.Streams.{Asked, Rejected, stream_of}
use Rattle.hx_http.specs.declared.method.Method.TheVariants.{Get, Post}
use Rattle.hx_http.specs.declared.fault.HeadFault.TheVariants.{BadHead, NoMethod, NoLength, TooLong, LongTarget, LargeHead, NotServed, OldVersion}

abbrev line : List ℕ → List ℕ
line text = text ++ 13 ∷ 10 ∷ []

abbrev lines : List (List ℕ) → List ℕ
lines [] = line []
lines (text ∷ texts) = line text ++ lines texts

old_version : next_of (lines (codes "GET / HTTP/1.0" ∷ [])) ≡ Refused OldVersion
unfolding httparse_on_literals head_of framing_of is_utf8 chars encode
old_version = refl

no_method : next_of (lines (codes "PATCH / HTTP/1.1" ∷ [])) ≡ Refused NoMethod
unfolding httparse_on_literals head_of framing_of is_utf8 chars encode
no_method = refl

no_length : next_of (lines (codes "POST / HTTP/1.1" ∷ [])) ≡ Refused NoLength
unfolding httparse_on_literals head_of framing_of is_utf8 chars encode
no_length = refl

too_long : next_of (lines (codes "POST / HTTP/1.1" ∷ codes "Content-Length: 131073" ∷ [])) ≡ Refused TooLong
unfolding httparse_on_literals head_of framing_of is_utf8 chars encode
too_long = refl

-- the longest body is waited for
long_enough : next_of (lines (codes "POST / HTTP/1.1" ∷ codes "Content-Length: 131072" ∷ [])) ≡ More
unfolding httparse_on_literals head_of framing_of is_utf8 chars encode
long_enough = refl

two_lengths : next_of (lines (codes "POST / HTTP/1.1" ∷ codes "Content-Length: 1" ∷ codes "Content-Length: 1" ∷ [])) ≡ Refused BadHead
unfolding httparse_on_literals head_of framing_of is_utf8 chars encode
two_lengths = refl

signed_length : next_of (lines (codes "POST / HTTP/1.1" ∷ codes "Content-Length: +1" ∷ [])) ≡ Refused BadHead
unfolding httparse_on_literals head_of framing_of is_utf8 chars encode
signed_length = refl

chunked : next_of (lines (codes "POST / HTTP/1.1" ∷ codes "Transfer-Encoding: chunked" ∷ [])) ≡ Refused NotServed
unfolding httparse_on_literals head_of framing_of is_utf8 chars encode
chunked = refl

-- lines that end in a line feed alone, and empty lines before the head, are taken
bare_feeds : next_of (10 ∷ codes "GET /x HTTP/1.1" ++ 10 ∷ codes "A: b" ++ 10 ∷ 10 ∷ codes "more") ≡ Whole (record { method = Get; target = codes "/x"; body = []; last = false }) 23
unfolding httparse_on_literals head_of framing_of is_utf8 chars encode
bare_feeds = refl

-- a folded header is none, nor is one with a space before its colon
folded : next_of (lines (codes "GET / HTTP/1.1" ∷ codes "A: b" ∷ codes " c" ∷ [])) ≡ Refused BadHead
unfolding httparse_on_literals head_of framing_of is_utf8 chars encode
folded = refl

spaced : next_of (lines (codes "GET / HTTP/1.1" ∷ codes "A : b" ∷ [])) ≡ Refused BadHead
unfolding httparse_on_literals head_of framing_of is_utf8 chars encode
spaced = refl

-- nothing is decided before the head is whole
waits : next_of (line (codes "PATCH nothing HTTP/1.0") ++ line (codes "Transfer-Encoding: chunked")) ≡ More
unfolding httparse_on_literals head_of framing_of is_utf8 chars encode
waits = refl

-- a request and its body, and one that ends the link
abbrev both : List ℕ
both = lines (codes "POST /api/v1/namespaces HTTP/1.1" ∷ codes "Host: h" ∷ codes "content-LENGTH: 4" ∷ []) ++ (codes "body" ++ lines (codes "GET /api/v1/namespaces/none HTTP/1.1" ∷ codes "Connection:  Close " ∷ []))

two_messages : stream_of both ≡ record {
  questions = Asked (record { method = Post; target = codes "/api/v1/namespaces"; body = codes "body"; last = false }) ∷ Asked (record { method = Get; target = codes "/api/v1/namespaces/none"; body = []; last = true }) ∷ [];
  ends = true;
  unused = [];
}
unfolding httparse_on_literals head_of framing_of is_utf8 chars encode
two_messages = refl

-- a target may have 8,192 bytes
abbrev far : ℕ → List ℕ
far n = codes "GET /" ++ (replicate n 97 ++ codes " HTTP/1.1")

long_target : framing_of (far 8192 ∷ []) ≡ Err LongTarget
unfolding httparse_on_literals head_of framing_of is_utf8 chars encode
long_target = refl

many_headers : next_of (lines (codes "GET / HTTP/1.1" ∷ replicate 65 (codes "a:"))) ≡ Refused LargeHead
unfolding httparse_on_literals head_of framing_of is_utf8 chars encode
many_headers = refl

most_headers : next_of (lines (codes "GET / HTTP/1.1" ∷ replicate 64 (codes "a:"))) ≡ Whole (record { method = Get; target = codes "/"; body = []; last = false }) 274
unfolding httparse_on_literals head_of framing_of is_utf8 chars encode
most_headers = refl

-- ---- what the order leaves to the definition

newer_version : next_of (lines (codes "GET / HTTP/2.0" ∷ [])) ≡ Refused BadHead
unfolding httparse_on_literals head_of framing_of is_utf8 chars encode
newer_version = refl

small_letters : next_of (lines (codes "get / HTTP/1.1" ∷ [])) ≡ Refused NoMethod
unfolding httparse_on_literals head_of framing_of is_utf8 chars encode
small_letters = refl

absolute_target : next_of (lines (codes "GET http://h/x HTTP/1.1" ∷ codes "Host: a" ∷ codes "Host: b" ∷ [])) ≡ Whole (record { method = Get; target = codes "http://h/x"; body = []; last = false }) 45
unfolding httparse_on_literals head_of framing_of is_utf8 chars encode
absolute_target = refl

listed_length : next_of (lines (codes "POST / HTTP/1.1" ∷ codes "Content-Length: 1, 1" ∷ [])) ≡ Refused BadHead
unfolding httparse_on_literals head_of framing_of is_utf8 chars encode
listed_length = refl

empty_length : next_of (lines (codes "POST / HTTP/1.1" ∷ codes "Content-Length:" ∷ [])) ≡ Refused BadHead
unfolding httparse_on_literals head_of framing_of is_utf8 chars encode
empty_length = refl

nineteen_digits : next_of (lines (codes "POST / HTTP/1.1" ∷ codes "Content-Length: 0000000000000000000" ∷ [])) ≡ Refused BadHead
unfolding httparse_on_literals head_of framing_of is_utf8 chars encode
nineteen_digits = refl

eighteen_digits : next_of (lines (codes "POST / HTTP/1.1" ∷ codes "Content-Length: 000000000000000000" ∷ [])) ≡ Whole (record { method = Post; target = codes "/"; body = []; last = false }) 55
unfolding httparse_on_literals head_of framing_of is_utf8 chars encode
eighteen_digits = refl

identity : next_of (lines (codes "GET / HTTP/1.1" ∷ codes "Transfer-Encoding: identity" ∷ [])) ≡ Refused NotServed
unfolding httparse_on_literals head_of framing_of is_utf8 chars encode
identity = refl

listed_close : next_of (lines (codes "GET / HTTP/1.1" ∷ codes "Connection: keep-alive, close" ∷ [])) ≡ Whole (record { method = Get; target = codes "/"; body = []; last = false }) 49
unfolding httparse_on_literals head_of framing_of is_utf8 chars encode
listed_close = refl

long_body_of_get : next_of (lines (codes "GET / HTTP/1.1" ∷ codes "Content-Length: 131073" ∷ [])) ≡ Refused TooLong
unfolding httparse_on_literals head_of framing_of is_utf8 chars encode
long_body_of_get = refl

no_colon : next_of (lines (codes "GET / HTTP/1.1" ∷ codes "A" ∷ [])) ≡ Refused BadHead
unfolding httparse_on_literals head_of framing_of is_utf8 chars encode
no_colon = refl

return_inside : next_of (lines (codes "GET / HTTP/1.1" ∷ codes "A: b\rc" ∷ [])) ≡ Refused BadHead
unfolding httparse_on_literals head_of framing_of is_utf8 chars encode
return_inside = refl

no_target : next_of (lines (codes "GET HTTP/1.1" ∷ [])) ≡ Refused BadHead
unfolding httparse_on_literals head_of framing_of is_utf8 chars encode
no_target = refl

-- a body that isn't whole is waited for, and that of a GET is part of its message
waits_for_body : next_of (lines (codes "GET / HTTP/1.1" ∷ codes "Content-Length: 5" ∷ []) ++ codes "body") ≡ More
unfolding httparse_on_literals head_of framing_of is_utf8 chars encode
waits_for_body = refl

body_of_get : next_of (lines (codes "GET / HTTP/1.1" ∷ codes "Content-Length: 4" ∷ []) ++ codes "body and more") ≡ Whole (record { method = Get; target = codes "/"; body = codes "body"; last = false }) 41
unfolding httparse_on_literals head_of framing_of is_utf8 chars encode
body_of_get = refl

-- the order of faults: the head, the version, the target, the method, the encoding, the length
version_first : next_of (lines (codes "PATCH / HTTP/1.0" ∷ codes "Transfer-Encoding: chunked" ∷ [])) ≡ Refused OldVersion
unfolding httparse_on_literals head_of framing_of is_utf8 chars encode
version_first = refl

length_before_version : next_of (lines (codes "PATCH / HTTP/1.0" ∷ codes "Content-Length: x" ∷ [])) ≡ Refused BadHead
unfolding httparse_on_literals head_of framing_of is_utf8 chars encode
length_before_version = refl

method_before_encoding : next_of (lines (codes "PATCH / HTTP/1.1" ∷ codes "Transfer-Encoding: chunked" ∷ [])) ≡ Refused NoMethod
unfolding httparse_on_literals head_of framing_of is_utf8 chars encode
method_before_encoding = refl

-- a head that is refused ends the link, and nothing behind it is read
nothing_behind : stream_of (lines (codes "PATCH / HTTP/1.1" ∷ [])) ≡ record {
  questions = Rejected NoMethod ∷ [];
  ends = true;
  unused = lines (codes "PATCH / HTTP/1.1" ∷ []);
}
unfolding httparse_on_literals head_of framing_of is_utf8 chars encode
nothing_behind = refl

-- ---- replies

created : reply_text 201 (codes "{}") false ≡ codes "HTTP/1.1 201 Created\r\ncontent-type: application/json\r\ncontent-length: 2\r\n\r\n{}"
unfolding digits end_text head_text length_lines status_line type_text version_text
created = refl

not_found_and_close : reply_text 404 (codes "{}") true ≡ codes "HTTP/1.1 404 Not Found\r\ncontent-type: application/json\r\ncontent-length: 2\r\nconnection: close\r\n\r\n{}"
unfolding digits end_text head_text length_lines status_line type_text version_text
not_found_and_close = refl
