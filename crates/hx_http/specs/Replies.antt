-- The text of a reply.
--     reply_text status body last      a reply with a body; `last` says that the link ends after it
--     status_body code reason message  the body that says a failure, as a Kubernetes `Status`
--     fault_row          the HTTP status of a fault of a head, its reason in one word, and what is said to whom asked
--     fault_text         the reply to a head that is refused
--     no_memory_text, store_failed_text      the replies where no memory is left, and where the store failed
-- A reply is the line `HTTP/1.1 CODE PHRASE`, headers, an empty line and the body. PHRASE is the canonical one of the status, and each line ends with a carriage return and a line feed.
use Rattle.std.specs.Prelude.{ℕ, Bool, true, List, [], ◌++◌, length, codes, unwrap_or, if◌then◌else◌}
use Prim.Native.String.{String}
use Rattle.std.specs.Fmt.{decimal}
use Rattle.http.specs.StatusCode.{reason_phrase}
use Rattle.hx_http.specs.declared.fault.HeadFault.{HeadFault}
use Rattle.hx_http.specs.declared.fault.HeadFault.TheVariants.{BadHead, NoMethod, NoLength, TooLong, LongTarget, LargeHead, NotServed, OldVersion}

-- ---- replies

-- what stands before the status
unfoldable pub version_text : List ℕ
version_text = codes "HTTP/1.1 "

-- what stands between the phrase and the length
unfoldable pub type_text : List ℕ
type_text = codes "\r\ncontent-type: application/json\r\ncontent-length: "

-- the end of a line
unfoldable pub end_text : List ℕ
end_text = codes "\r\n"

-- the first line, without its end
unfoldable pub status_line : ℕ → List ℕ
status_line status = version_text ++ (decimal status ++ (codes " " ++ unwrap_or (reason_phrase status) []))

-- the end of the first line, and the two headers that each reply has
unfoldable pub length_lines : ℕ → List ℕ
length_lines count = type_text ++ (decimal count ++ end_text)

-- the header of a reply after which the link ends
abbrev pub closing : Bool → List ℕ
closing last = if last then codes "connection: close\r\n" else []

-- the head of a reply with so many bytes of body, up to its empty line
unfoldable pub head_text : ℕ → ℕ → Bool → List ℕ
head_text status count last = status_line status ++ (length_lines count ++ (closing last ++ end_text))

-- a reply
abbrev pub reply_text : ℕ → List ℕ → Bool → List ℕ
reply_text status body last = head_text status (length body) last ++ body

-- ---- failures

-- the body that says a failure
abbrev pub status_body : ℕ → List ℕ → List ℕ → List ℕ
status_body code reason message =
    codes "{\"apiVersion\":\"v1\",\"code\":" ++ (decimal code ++ (codes ",\"kind\":\"Status\",\"message\":\"" ++ (message ++ (codes "\",\"metadata\":{},\"reason\":\"" ++ (reason ++ codes "\",\"status\":\"Failure\"}")))))

-- an HTTP status, its reason in one word, and what is said to whom asked
pub record FailureRow : Type 0 where
  pub code : ℕ
  pub reason : List ℕ
  pub message : List ℕ

abbrev failure_as : ℕ → String → String → FailureRow
failure_as code reason message = record { code = code; reason = codes reason; message = codes message }

-- the reply that says a failure
unfoldable pub failure_text : FailureRow → Bool → List ℕ
failure_text row last = reply_text row.code (status_body row.code row.reason row.message) last

-- a fault of a head
abbrev pub fault_row : HeadFault → FailureRow
fault_row BadHead = failure_as 400 "BadRequest" "bad head"
fault_row NoMethod = failure_as 405 "MethodNotAllowed" "method not served here"
fault_row NoLength = failure_as 411 "LengthRequired" "a length is required"
fault_row TooLong = failure_as 413 "RequestEntityTooLarge" "more than 131072 bytes"
fault_row LongTarget = failure_as 414 "URITooLong" "the target is too long"
fault_row LargeHead = failure_as 431 "HeaderFieldsTooLarge" "the head is too large"
fault_row NotServed = failure_as 501 "NotImplemented" "not served"
fault_row OldVersion = failure_as 505 "VersionNotSupported" "the version is not 1.1"

-- the reply to a head that is refused: the link ends after it
abbrev pub fault_text : HeadFault → List ℕ
fault_text fault = failure_text (fault_row fault) true

-- no memory is left
abbrev pub no_memory_row : FailureRow
no_memory_row = failure_as 503 "ServiceUnavailable" "out of memory"

-- the store failed
abbrev pub store_failed_row : FailureRow
store_failed_row = failure_as 500 "InternalError" "the store failed"

-- the reply where no memory is left
abbrev pub no_memory_text : Bool → List ℕ
no_memory_text last = failure_text no_memory_row last

-- the reply where the store failed
abbrev pub store_failed_text : Bool → List ℕ
store_failed_text last = failure_text store_failed_row last
