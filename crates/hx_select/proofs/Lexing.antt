-- How a text begins: with spaces, or with a token and what stands behind it.
use Rattle.std.proofs.Common.{◌≡◌, ◌≢◌, ◌⊎◌, inl, inr, ◌+◌, ◌-◌, ◌<◌, ◌≤◌, ℕ, zero, suc, Bool, true, false, cond, not, ◌==◌, List, [], ◌∷◌, Some, None, length, take, drop, get_or, refl, sym, ap, ◌∙◌, subst, arith, length-drop, IsUtf8}
use Rattle.std.specs.Prelude.{position}
use Rattle.std.specs.List.{position_or_len}
use Rattle.std.specs.Str.{IsCharBoundary}
use Rattle.std.proofs.lemmas.Bool.Decides.{nat_tests}
use Rattle.std.proofs.lemmas.List.{get_or-drop, take_rest}
use Rattle.std.proofs.lemmas.List.Sums.{passes_at_first, prefix_len-le-length}
use Rattle.std.proofs.lemmas.Str.{IsCharBoundary-after_ascii}
use Rattle.hx_select.proofs.Beginnings.{begins-not}
use Rattle.hx_select.specs.declared.token.TokenKind.{TokenKind}
use Rattle.hx_select.specs.declared.token.TokenKind.TheVariants.{Comma, Open, Close, Bang, Equal, EqualEqual, NotEqual, Angle, Word}
use Rattle.hx_select.specs.Selectors.{Place, behind, needs_from, step}
use Rattle.hx_select.specs.Tokens.{ends_word, kind_at, space, token_at, token_len, tokens_from}

-- ---- bytes

-- what ends a word, and what begins a sign, is ASCII
pub ends_word-ascii : (byte : ℕ) → ends_word byte ≡ true → byte < 128
ends_word-ascii byte ends = grind (arith, nat_tests)

pub sign-ascii : (byte next : ℕ) → kind_at byte next ≢ Word → byte < 128
sign-ascii byte next sign = grind (arith, nat_tests)

two_equal : (byte next : ℕ) → kind_at byte next ≡ EqualEqual → next ≡ 61
two_equal byte next two = grind (arith, nat_tests)

not_equal : (byte next : ℕ) → kind_at byte next ≡ NotEqual → next ≡ 61
not_equal byte next two = grind (arith, nat_tests)

-- a sign of two bytes ends with `=`
pub two_bytes : (byte next : ℕ) (kind : TokenKind) → kind ≡ kind_at byte next → (kind ≡ EqualEqual) ⊎ (kind ≡ NotEqual) → next ≡ 61
two_bytes byte next kind is (inl equal) = two_equal byte next (sym is ∙ equal)
two_bytes byte next kind is (inr other) = not_equal byte next (sym is ∙ other)

-- ---- how many bytes a token has

place_missing : (within : Bool) (place : ℕ) → cond within (Some place) None ≡ None → within ≡ false
place_missing true place given = cc
place_missing false place given = refl

-- where no byte passes, all stand before the first that does
pub length-is : (test : ℕ → Bool) (bytes : List ℕ) → position test bytes ≡ None → length bytes ≡ position_or_len test bytes
length-is test bytes missing =
    let past = place_missing _ _ missing in
    let most = prefix_len-le-length (λ byte. not (test byte)) bytes in
    grind (arith, nat_tests)

-- a token has a byte
pub token_len-some : (kind : TokenKind) (text : List ℕ) → 1 ≤ token_len kind text
token_len-some Comma text = omega arith
token_len-some Open text = omega arith
token_len-some Close text = omega arith
token_len-some Bang text = omega arith
token_len-some Equal text = omega arith
token_len-some EqualEqual text = omega arith
token_len-some NotEqual text = omega arith
token_len-some Angle text = omega arith
token_len-some Word text = omega arith

-- ---- what stands behind a token

-- bytes of a token before are passed over
pub tokens-skip : (at before : ℕ) (text : List ℕ) → tokens_from at before text ≡ tokens_from (at + before) 0 (drop before text)
tokens-skip at zero [] = refl
tokens-skip at zero (byte ∷ text) = ap (λ n. tokens_from n 0 (byte ∷ text)) (omega arith)
tokens-skip at (suc before) [] = refl
tokens-skip at (suc before) (byte ∷ text) = tokens-skip (at + 1) before text ∙ ap (λ n. tokens_from n 0 (drop before text)) (omega arith)

-- the word that begins a text ends where the text may be cut
pub word-boundary : (text : List ℕ) → 0 < length text → IsCharBoundary text (1 + position_or_len ends_word (drop 1 text))
word-boundary text some =
    let n = position_or_len ends_word (drop 1 text) in
    let most : n ≤ length (drop 1 text) = prefix_len-le-length _ (drop 1 text) in
    let len : length (drop 1 text) ≡ length text - 1 = length-drop 1 text in
    let stops = λ (within : 1 + n < length text).
    let here : n < length (drop 1 text) = omega arith in
    let ends : ends_word (get_or (drop 1 text) n 0) ≡ true = passes_at_first ends_word (drop 1 text) 0 here in
    subst (λ byte. byte < 128) (get_or-drop 1 text n 0) (ends_word-ascii _ ends) in
    (omega arith, λ within high. let low = stops within in absurd (omega arith))

-- the same, by how many bytes the word has behind its first
pub word-boundary_by : (text bytes : List ℕ) (n : ℕ) → bytes ≡ text → n ≡ position_or_len ends_word (take (length bytes - 1) (drop 1 bytes)) → 0 < length text → IsCharBoundary text (1 + n)
word-boundary_by text bytes n same is some =
    let rest : take (length bytes - 1) (drop 1 bytes) ≡ drop 1 text = take_rest bytes 1 ∙ ap (drop 1) same in
    subst (λ m. IsCharBoundary text (1 + m)) (sym (is ∙ ap (position_or_len ends_word) rest)) (word-boundary text some)

-- a text may be cut behind an ASCII byte
pub sign-boundary : (text : List ℕ) (before : ℕ) → IsUtf8 text → before < length text → get_or text before 0 < 128 → IsCharBoundary text (before + 1)
sign-boundary text before utf8 within ascii = IsCharBoundary-after_ascii text before utf8 within ascii

-- a second byte that is `=` is there
pub second-there : (text : List ℕ) → get_or text 1 0 ≡ 61 → 2 ≤ length text
second-there [] is = absurd (omega arith)
second-there (byte ∷ []) is = absurd (omega arith)
second-there (byte ∷ next ∷ text) is = omega arith

behind-first : (at byte : ℕ) (rest : List ℕ) (n : ℕ) → (byte == space) ≡ false → token_len (token_at at (byte ∷ rest)).kind (byte ∷ rest) - 1 ≡ n → tokens_from at 0 (byte ∷ rest) ≡ token_at at (byte ∷ rest) ∷ tokens_from (at + 1) n rest
behind-first at byte rest n first len = rw (first, len) refl

drop-first : (byte : ℕ) (rest : List ℕ) (n len : ℕ) → len ≡ suc n → drop len (byte ∷ rest) ≡ drop n rest
drop-first byte rest n len is = ap (λ m. drop m (byte ∷ rest)) is

-- a text that doesn't begin with a space begins with a token
pub tokens-first : (at : ℕ) (text : List ℕ) → 0 < length text → (get_or text 0 0 == space) ≡ false
    → tokens_from at 0 text ≡ token_at at text ∷ tokens_from (at + token_len (token_at at text).kind text) 0 (drop (token_len (token_at at text).kind text) text)
tokens-first at [] some first = absurd (omega arith)
tokens-first at (byte ∷ rest) some first =
    let token = token_at at (byte ∷ rest) in
    let len = token_len token.kind (byte ∷ rest) in
    let some : 1 ≤ len = token_len-some token.kind (byte ∷ rest) in
    let is : len ≡ suc (len - 1) = omega arith in
    let place : at + 1 + (len - 1) ≡ at + len = omega arith in
    behind-first at byte rest (len - 1) first refl
    ∙ ap (λ tokens. token ∷ tokens) (tokens-skip (at + 1) (len - 1) rest ∙ ap (λ n. tokens_from n 0 (drop (len - 1) rest)) place ∙ ap (tokens_from (at + len) 0) (sym (drop-first byte rest (len - 1) len is)))

-- what is read from a place on, by the token that a text begins with
pub reads-first : (end at : ℕ) (text : List ℕ) (place : Place) → 0 < length text → (get_or text 0 0 == space) ≡ false
    → (kind : TokenKind) → kind ≡ kind_at (get_or text 0 0) (get_or text 1 0) → (len : ℕ) → len ≡ token_len kind text
    → (word rest : List ℕ) → word ≡ take len text → rest ≡ drop len text → (next : ℕ) → next ≡ at + len
    → needs_from end place (tokens_from at 0 text) ≡ behind (step place kind at word) (λ next_place. needs_from end next_place (tokens_from next 0 rest))
reads-first end at text place some first kind kind-is len len-is word rest word-is rest-is next next-is =
    ap (needs_from end place) (tokens-first at text some first) ∙ rw (next-is, rest-is, word-is, len-is, kind-is) refl

-- a text from which no space can be taken begins with none
pub no_space : (text : List ℕ) → ((rest : List ℕ) → text ≢ 32 ∷ rest) → (get_or text 0 0 == space) ≡ false
no_space [] none = refl
no_space (byte ∷ rest) none = begins-not space byte rest none
