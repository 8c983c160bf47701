-- What holds of heads, of the first message and of streams.
--     LawOfHeads       lines are read as a head by httparse's grammar
--     LawOfPieces      whatever follows, a message that is whole, or a fault of its head, stays the answer
--     LawOfStreams     what a stream asks is asked message by message
use Rattle.std.specs.Prelude.{◌≡◌, ◌≢◌, ◌↔◌, ℕ, List, [], ◌++◌, Some}
use Rattle.httparse.specs.Grammar.{RequestHead, ReadsRequest}
use Rattle.hx_http.specs.Fronts.{IsFront}
use Rattle.hx_http.specs.Heads.{Head, head_of, parts_of}
use Rattle.hx_http.specs.Messages.{More, next_of}
use Rattle.hx_http.specs.Streams.{stream_of, stream_by}

-- lines are read as a head exactly where the bytes that they stand in are one of httparse's grammar, and it has the same parts
abbrev pub LawOfHeads : Type 0
LawOfHeads = (bytes : List ℕ) (lines : List (List ℕ)) (head : Head) → IsFront bytes lines → (head_of lines ≡ Some head) ↔ ((h : RequestHead) × ReadsRequest bytes h [] × (parts_of h ≡ head))

-- bytes that are answered have that answer whatever follows them
abbrev pub LawOfPieces : Type 0
LawOfPieces = (bytes more : List ℕ) → next_of bytes ≢ More → next_of (bytes ++ more) ≡ next_of bytes

-- the first message, and then what the bytes behind it ask
abbrev pub LawOfStreams : Type 0
LawOfStreams = (bytes : List ℕ) → stream_of bytes ≡ stream_by (next_of bytes) bytes stream_of
