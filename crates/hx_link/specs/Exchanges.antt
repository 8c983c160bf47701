-- Exchanges: a question, and the text that answers it.
--     Exchange                      a question and what answers it
--     questions_of, texts_of        the questions of exchanges, and their texts one behind the other
--     LacksLast exchanges lacking   nothing is lacking of the texts, or an end of the last one
use Rattle.std.specs.Prelude.{◌≡◌, ◌⊎◌, ℕ, List, [], ◌∷◌, ◌++◌, map}

-- a question, and the text that answers it
pub record Exchange (Q : Type 0) : Type 0 where
  pub question : Q
  pub text : List ℕ

-- the questions, in order
abbrev pub questions_of : {Q : Type 0} → List (Exchange Q) → List Q
questions_of {Q} exchanges = map (λ (exchange : Exchange Q). exchange.question) exchanges

-- the texts, one behind the other
abbrev pub texts_of : {Q : Type 0} → List (Exchange Q) → List ℕ
texts_of [] = []
texts_of (exchange ∷ exchanges) = exchange.text ++ texts_of exchanges

-- what is lacking of the texts is an end of the last one. So no text was begun whose predecessor wasn't written
abbrev pub LacksLast : {Q : Type 0} → List (Exchange Q) → List ℕ → Type 0
LacksLast {Q} exchanges lacking = (lacking ≡ []) ⊎ ((before : List (Exchange Q)) × (last : Exchange Q) × (front : List ℕ) × (exchanges ≡ before ++ last ∷ []) × (last.text ≡ front ++ lacking))
