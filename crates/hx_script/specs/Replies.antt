-- The line of each answer: the HTTP status, a space and the body.
--     answer_line     the line of an answer, with its line feed
use Rattle.std.specs.Prelude.{ℕ, List, ◌++◌, codes}
use Rattle.std.specs.Fmt.{decimal}
use Rattle.hx_model.specs.Bodies.{answer_code, answer_text}
use Rattle.hx_model.specs.declared.ask.Answer.{Answer}

-- a status, a body and the end of the line
unfoldable pub line_of : ℕ → List ℕ → List ℕ
line_of code body = decimal code ++ (codes " " ++ (body ++ codes "\n"))

-- the line of an answer
abbrev pub answer_line : Answer → List ℕ
answer_line answer = line_of (answer_code answer) (answer_text answer)
