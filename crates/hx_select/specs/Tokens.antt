-- The tokens of a selector: `,`, `(`, `)`, `!`, `=`, `==`, `!=`, `<`, `>` and words. The longest counts.
--     tokens_of text     the tokens, each with its place
-- A word is a longest run of bytes other than those and space. Spaces only separate tokens.
use Rattle.std.specs.Prelude.{ℕ, zero, suc, ◌+◌, ◌-◌, Bool, cond, ◌==◌, List, [], ◌∷◌, take, drop, slice_index, codes, if◌then◌else◌}
use Rattle.std.specs.List.{list_any, position_or_len}
use Rattle.hx_select.specs.declared.token.TokenKind.{TokenKind}
use Rattle.hx_select.specs.declared.token.TokenKind.TheVariants.{Comma, Open, Close, Bang, Equal, EqualEqual, NotEqual, Angle, Word}

abbrev byte_of : List ℕ → ℕ
byte_of text = slice_index text 0

abbrev pub space : ℕ
space = byte_of (codes " ")

abbrev pub equals : ℕ
equals = byte_of (codes "=")

-- what the token is that begins with a byte, by the byte behind that
abbrev pub kind_at : ℕ → ℕ → TokenKind
kind_at byte next =
    if byte == byte_of (codes ",") then Comma else
    if byte == byte_of (codes "(") then Open else
    if byte == byte_of (codes ")") then Close else
    if byte == byte_of (codes "!") then cond (next == equals) NotEqual Bang else
    if byte == equals then cond (next == equals) EqualEqual Equal else
    if byte == byte_of (codes "<") then Angle else
    if byte == byte_of (codes ">") then Angle else Word

-- a byte that isn't of a word
abbrev pub ends_word : ℕ → Bool
ends_word byte = list_any (λ sign. byte == sign) (codes " ,()!=<>")

-- how many bytes the token has that a text begins with: of a word, the first and those behind it up to one that ends the word
abbrev pub token_len : TokenKind → List ℕ → ℕ
token_len Word text = 1 + position_or_len ends_word (drop 1 text)
token_len EqualEqual text = 2
token_len NotEqual text = 2
token_len _ text = 1

-- a token: its place, what it is, and its bytes
pub record Token : Type 0 where
  pub at : ℕ
  pub kind : TokenKind
  pub text : List ℕ

-- the token that a text at a place begins with
abbrev pub token_at : ℕ → List ℕ → Token
token_at at text =
    let kind = kind_at (slice_index text 0) (slice_index text 1) in
    record { at = at; kind = kind; text = take (token_len kind text) text }

-- the tokens of a text that begins at a place. So many of its first bytes belong to a token before it
abbrev pub tokens_from : ℕ → ℕ → List ℕ → List Token
tokens_from at before [] = []
tokens_from at (suc before) (byte ∷ rest) = tokens_from (at + 1) before rest
tokens_from at zero (byte ∷ rest) =
    let token = token_at at (byte ∷ rest) in
    let tokens = tokens_from (at + 1) (cond (byte == space) 0 (token_len token.kind (byte ∷ rest) - 1)) rest in
    cond (byte == space) tokens (token ∷ tokens)

-- the tokens of a text
abbrev pub tokens_of : List ℕ → List Token
tokens_of text = tokens_from 0 0 text
