-- Reading by one token after another, in the words that the functions of this crate share.
use Rattle.std.specs.Prelude.{ℕ, List, ◌++◌, Option, Some, None, Result, Ok, Err, length}
use Rattle.hx_select.specs.declared.token.TokenKind.{TokenKind}
use Rattle.hx_select.specs.declared.token.Token.{Token}
use Rattle.hx_select.specs.declared.tokens.Tokens.{Tokens}
use Rattle.hx_select.specs.declared.selector.Requirement.{Requirement}
use Rattle.hx_select.specs.declared.selector.SelectFault.{SelectFault}
use Rattle.hx_select.specs.Tokens.{tokens_from}
use Rattle.hx_select.specs.Selectors.{Place, Step, behind, key_at, last_at, needs_from, operator_at, step, value_at}

-- the requirements from a place on, by what is left of a text
abbrev pub reads : Place → Tokens → Result (List Requirement) SelectFault
reads place tokens = needs_from tokens.end place (tokens_from tokens.at 0 tokens.rest.now)

-- how many bytes are left
abbrev pub left : Tokens → ℕ
left tokens = length tokens.rest.now

-- the requirements from a place on, by the next token, if there is one, and what is left behind it
abbrev pub met : Place → Option TokenKind → ℕ → List ℕ → Tokens → Result (List Requirement) SelectFault
met place (Some kind) at word tokens = behind (step place kind at word) (λ next. reads next tokens)
met place None at word tokens = last_at at place

-- the same, by the token or the end as it is told
abbrev pub meets : Place → Token → Tokens → Result (List Requirement) SelectFault
meets place token tokens = met place token.kind token.at token.word.now tokens

-- what comes of a token that has to be `in` or `notin` behind a key, and of what is left behind it
abbrev pub operates : Token → List ℕ → Tokens → Result (List Requirement) SelectFault
operates token key tokens = behind (operator_at token.at token.word.now key) (λ next. reads next tokens)

-- what comes of a token that has to be a key
abbrev pub keyed : Token → Place → Step
keyed token place = key_at token.at token.word.now place

-- what comes of a token that has to be a value
abbrev pub valued : Token → Place → Step
valued token place = value_at token.at token.word.now place

-- requirements before those that are read behind them
abbrev pub with_needs : List Requirement → Result (List Requirement) SelectFault → Result (List Requirement) SelectFault
with_needs needs (Ok more) = Ok (needs ++ more)
with_needs needs (Err fault) = Err fault
