-- The status and the body of each answer.
--     answer_code     the HTTP status
--     answer_text     the body
use Rattle.std.specs.Prelude.{ℕ, Bool, true, false, List}
use Rattle.hx_object.specs.Json.{object_text}
use Rattle.hx_discovery.specs.Documents.{document_text}
use Rattle.hx_model.specs.Json.{list_text, events_text}
use Rattle.hx_model.specs.Replies.{code_of, status_text, deleted_text}
use Rattle.hx_model.specs.declared.ask.Answer.{Answer}
use Rattle.hx_model.specs.declared.ask.Answer.TheVariants.{One, Many, Deleted, Document, Events, Refused}

-- an object that was made, or one that was there
abbrev pub success_code : Bool → ℕ
success_code true = 201
success_code false = 200

-- the HTTP status
abbrev pub answer_code : Answer → ℕ
answer_code (One x fresh) = success_code fresh
answer_code (Many kind objects version) = 200
answer_code (Deleted version) = 200
answer_code (Document document) = 200
answer_code (Events events version) = 200
answer_code (Refused refusal) = code_of refusal

-- the body
abbrev pub answer_text : Answer → List ℕ
answer_text (One x fresh) = object_text x
answer_text (Many kind objects version) = list_text kind objects version
answer_text (Deleted version) = deleted_text version
answer_text (Document document) = document_text document
answer_text (Events events version) = events_text events version
answer_text (Refused refusal) = status_text refusal
