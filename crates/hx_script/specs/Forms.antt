-- What a line orders.
--     request_of      what a target and a body ask
--     reading_of      what a line orders, or the refusal that it fixes
-- A line is UTF-8. A request is `GET TARGET`, `DELETE TARGET`, `POST TARGET BODY` or `PUT TARGET BODY`, joined by single spaces. The body is the rest of the line, and where it is empty the space before it may be absent.
use Rattle.std.specs.Prelude.{ℕ, Bool, true, false, ◌==◌, List, [], ◌∷◌, codes, Option, Some, None, Ok, Err, if◌then◌else◌}
use Rattle.std.specs.declared.result.Result.{Result}
use Rattle.std.specs.Str.{bytes_eq, is_utf8}
use Rattle.hx_object.specs.Names.{slash}
use Rattle.hx_model.specs.declared.ask.Ask.{Ask}
use Rattle.hx_model.specs.declared.refusal.Refusal.{Refusal}
use Rattle.hx_model.specs.declared.refusal.Refusal.TheVariants.{BadLine, TooLong}
use Rattle.hx_http.specs.declared.method.Method.{Method}
use Rattle.hx_http.specs.declared.method.Method.TheVariants.{Get, Post, Put, Delete}
use Rattle.hx_api.specs.Asks.{ask_of}
use Rattle.hx_script.specs.Lines.{Line, Short, Long}
use Rattle.hx_script.specs.Words.{word_of, rest_of}
use Rattle.hx_script.specs.Workers.{worker_order}
use Rattle.hx_script.specs.declared.order.Order.{Order}
use Rattle.hx_script.specs.declared.order.Order.TheVariants as order

-- the method that a word names
abbrev pub method_of : List ℕ → Option Method
method_of word =
    if bytes_eq word (codes "GET") then Some Get else (
    if bytes_eq word (codes "POST") then Some Post else (
    if bytes_eq word (codes "PUT") then Some Put else (
    if bytes_eq word (codes "DELETE") then Some Delete else None)))

-- a target begins with `/`
abbrev pub is_target : List ℕ → Bool
is_target [] = false
is_target (byte ∷ target) = byte == slash

-- the methods that have a body
abbrev pub takes_body : Method → Bool
takes_body Post = true
takes_body Put = true
takes_body _ = false

-- the body, by what follows the target: where nothing follows it is empty, and only a method that has one may be followed
abbrev pub body_of : Method → Option (List ℕ) → Option (List ℕ)
body_of method None = Some []
body_of method (Some body) = if takes_body method then Some body else None

-- the text, where it is a target
abbrev pub target_of : List ℕ → Option (List ℕ)
target_of text = if is_target text then Some text else None

-- what a target and a body ask, where both are there
abbrev pub request_of : Method → Option (List ℕ) → Option (List ℕ) → Result Ask Refusal
request_of method (Some target) (Some body) = ask_of method target body
request_of method _ _ = Err BadLine

-- what a method and the rest of its line ask
abbrev pub request_in : Method → Option (List ℕ) → Result Ask Refusal
request_in method None = Err BadLine
request_in method (Some rest) = request_of method (target_of (word_of rest)) (body_of method (rest_of rest))

-- a request is ordered
abbrev pub asking_for : Result Ask Refusal → Result Order Refusal
asking_for (Ok ask) = Ok (order.Ask ask)
asking_for (Err refusal) = Err refusal

-- a line that is no request is one for reconcilers, or in no form
abbrev pub turning : Option Order → Result Order Refusal
turning (Some order) = Ok order
turning None = Err BadLine

-- what a text orders, by the method of its first word
abbrev pub reading_by : Option Method → List ℕ → Result Order Refusal
reading_by None text = turning (worker_order text)
reading_by (Some method) text = asking_for (request_in method (rest_of text))

-- what a text orders, or the refusal that it fixes
unfoldable pub reading_of_text : List ℕ → Result Order Refusal
reading_of_text text = reading_by (method_of (word_of text)) text

-- what the bytes of a line order. Bytes that aren't UTF-8 are in no form, wherever in the line they stand
unfoldable pub reading_of_bytes : List ℕ → Result Order Refusal
reading_of_bytes bytes = if is_utf8 bytes then reading_of_text bytes else Err BadLine

-- what a line orders, or the refusal that it fixes
abbrev pub reading_of : Line → Result Order Refusal
reading_of (Short bytes) = reading_of_bytes bytes
reading_of Long = Err TooLong
