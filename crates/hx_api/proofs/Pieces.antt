-- A pattern whose parameters are whole parts takes a path where its parts take the path's.
use Rattle.std.proofs.Common.{◌≡◌, ℕ, List, [], ◌∷◌, ◌++◌, Option, Some, None, Bool, true, false, not, cond, ◌==◌, ◌&&◌, refl, sym, ap, ◌∙◌, subst, arith, true≢false}
use Rattle.std.specs.Prelude.{bytes_eq}
use Rattle.std.specs.List.{onto_first}
use Rattle.std.proofs.lemmas.Bool.Decides.{nat_tests}
use Rattle.std.proofs.lemmas.Slice.Eq.{bytes_eq-Decides}
use Rattle.matchit.specs.Rows.{param_token}
use Rattle.matchit.specs.Seek.{slash}
use Rattle.hx_api.specs.Paths.{is_blank, parts_of}
use Rattle.hx_api.proofs.Fits.{after_part, fits}

-- a part of a pattern: a word, or a parameter
abbrev pub Piece : Type 0
Piece = Option (List ℕ)

abbrev pub tokens : Piece → List ℕ
tokens (Some word) = word
tokens None = param_token ∷ []

-- the pattern of these parts, each behind a slash
abbrev pub pattern_of : List Piece → List ℕ
pattern_of [] = []
pattern_of (piece ∷ pieces) = slash ∷ tokens piece ++ pattern_of pieces

-- a word takes its own text, and a parameter all but the empty one
abbrev pub takes_part : Piece → List ℕ → Bool
takes_part (Some word) part = bytes_eq part word
takes_part None part = not (is_blank part)

abbrev pub takes : List Piece → List (List ℕ) → Bool
takes [] [] = true
takes (piece ∷ pieces) (part ∷ parts) = takes_part piece part && takes pieces parts
takes _ _ = false

-- bytes other than a slash
abbrev pub is_word : List ℕ → Bool
is_word [] = true
is_word (byte ∷ word) = (not (byte == slash) && not (byte == param_token)) && is_word word

abbrev pub is_piece : Piece → Bool
is_piece (Some word) = is_word word
is_piece None = true

abbrev pub are_pieces : List Piece → Bool
are_pieces [] = true
are_pieces (piece ∷ pieces) = is_piece piece && are_pieces pieces

-- ---- tests

pub and_left : (u v : Bool) → (u && v) ≡ true → u ≡ true
and_left true v h = refl
and_left false v h = h

pub and_right : (u v : Bool) → (u && v) ≡ true → v ≡ true
and_right true v h = h
and_right false v h = absurd (true≢false (sym h))

and_both : (u v : Bool) → u ≡ true → v ≡ true → (u && v) ≡ true
and_both u v e h = rw (e, h) refl

and_nests : (u v w : Bool) → ((u && v) && w) ≡ (u && (v && w))
and_nests true v w = refl
and_nests false v w = refl

not_true : (u : Bool) → not u ≡ true → u ≡ false
not_true true h = absurd (true≢false (sym h))
not_true false h = refl

swap : (x y : ℕ) → (x == y) ≡ (y == x)
swap x y = grind (arith, nat_tests)

apart : (c b : ℕ) → (c == slash) ≡ false → (b == slash) ≡ true → (c == b) ≡ false
apart c b other is = grind (arith, nat_tests)

byte_of : (c : ℕ) (word : List ℕ) → is_word (c ∷ word) ≡ true → (c == param_token) ≡ false
byte_of c word h = not_true (c == param_token) (and_right (not (c == slash)) (not (c == param_token)) (and_left (not (c == slash) && not (c == param_token)) (is_word word) h))

inner_of : (c : ℕ) (word : List ℕ) → is_word (c ∷ word) ≡ true → (c == slash) ≡ false
inner_of c word h = not_true (c == slash) (and_left (not (c == slash)) (not (c == param_token)) (and_left (not (c == slash) && not (c == param_token)) (is_word word) h))

-- ---- one byte further

-- what parts take a path, with what stands in front of them
Agrees : List ℕ → List (List ℕ) → Type 0
Agrees path parts = (piece : Piece) (pieces : List Piece) → are_pieces (piece ∷ pieces) ≡ true → fits (tokens piece ++ pattern_of pieces) path ≡ takes (piece ∷ pieces) parts

-- the same behind a parameter
Follows : List ℕ → List (List ℕ) → Type 0
Follows path parts = (pieces : List Piece) → are_pieces pieces ≡ true → fits (pattern_of pieces) (after_part path) ≡ takes pieces parts

behind : List (List ℕ) → List (List ℕ)
behind [] = []
behind (part ∷ parts) = parts

-- a slash before the parts
slashed : (b : ℕ) (path part : List ℕ) (parts : List (List ℕ)) → (b == slash) ≡ true → Agrees path (part ∷ parts)
    → (pieces : List Piece) → are_pieces pieces ≡ true → fits (pattern_of pieces) (b ∷ path) ≡ takes pieces (part ∷ parts)
unfolding Agrees
slashed b path part parts is agrees [] good = refl
slashed b path part parts is agrees (piece ∷ pieces) good =
    let same : (slash == b) ≡ true = swap slash b ∙ is in
    rw same (agrees piece pieces good)

at_slash : (b : ℕ) (path part : List ℕ) (parts : List (List ℕ)) → (b == slash) ≡ true → Agrees path (part ∷ parts) → Agrees (b ∷ path) ([] ∷ part ∷ parts)
unfolding Agrees
at_slash b path part parts is agrees None pieces good = rw is refl
at_slash b path part parts is agrees (Some []) pieces good = slashed b path part parts is agrees pieces good
at_slash b path part parts is agrees (Some (c ∷ word)) pieces good =
    let left = and_left (is_word (c ∷ word)) (are_pieces pieces) good in
    let byte : (c == param_token) ≡ false = byte_of c word left in
    rw (byte, apart c b (inner_of c word left) is) refl

at_byte : (b : ℕ) (path part : List ℕ) (parts : List (List ℕ)) → (b == slash) ≡ false → Agrees path (part ∷ parts) → Follows path parts → Agrees (b ∷ path) ((b ∷ part) ∷ parts)
unfolding Agrees Follows
at_byte b path part parts other agrees follows None pieces good = rw other (follows pieces good)
at_byte b path part parts other agrees follows (Some []) [] good = refl
at_byte b path part parts other agrees follows (Some []) (piece ∷ pieces) good =
    let unlike : (slash == b) ≡ false = swap slash b ∙ other in
    rw unlike refl
at_byte b path part parts other agrees follows (Some (c ∷ word)) pieces good =
    let left = and_left (is_word (c ∷ word)) (are_pieces pieces) good in
    let byte : (c == param_token) ≡ false = byte_of c word left in
    let ih : fits (word ++ pattern_of pieces) path ≡ (bytes_eq part word && takes pieces parts) =
    agrees (Some word) pieces (and_both (is_word word) (are_pieces pieces) (and_right (not (c == slash) && not (c == param_token)) (is_word word) left) (and_right (is_word (c ∷ word)) (are_pieces pieces) good)) in
    rw (byte, ih, swap c b) (sym (and_nests (b == c) (bytes_eq part word) (takes pieces parts)))

-- ---- whole paths

some_parts : (path : List ℕ) → (part : List ℕ) × (parts : List (List ℕ)) × (parts_of path ≡ part ∷ parts)
some_parts [] = ([], [], refl)
some_parts (b ∷ path) = by (b == slash) (some_parts path)
  where
    by : (v : Bool) → (part : List ℕ) × (parts : List (List ℕ)) × (parts_of path ≡ part ∷ parts)
        → (part : List ℕ) × (parts : List (List ℕ)) × (cond v ([] ∷ parts_of path) (onto_first b (parts_of path)) ≡ part ∷ parts)
    by true ih = ([], parts_of path, refl)
    by false ih = (b ∷ ih.0, ih.1, ap (onto_first b) ih.2)

Both : List ℕ → List (List ℕ) → Type 0
Both path parts = Agrees path parts × Follows path (behind parts)

at_end : Both [] ([] ∷ [])
unfolding Both Agrees Follows behind
at_end = (agrees, follows)
  where
    agrees : (piece : Piece) (pieces : List Piece) → are_pieces (piece ∷ pieces) ≡ true → fits (tokens piece ++ pattern_of pieces) [] ≡ takes (piece ∷ pieces) ([] ∷ [])
    agrees None pieces good = refl
    agrees (Some []) [] good = refl
    agrees (Some []) (piece ∷ pieces) good = refl
    agrees (Some (c ∷ word)) pieces good = refl

    follows : (pieces : List Piece) → are_pieces pieces ≡ true → fits (pattern_of pieces) [] ≡ takes pieces []
    follows [] good = refl
    follows (piece ∷ pieces) good = refl

both_step : (b : ℕ) (path part : List ℕ) (parts : List (List ℕ)) (v : Bool) → (b == slash) ≡ v → Both path (part ∷ parts) → Both (b ∷ path) (cond v ([] ∷ part ∷ parts) ((b ∷ part) ∷ parts))
unfolding Both Follows behind
both_step b path part parts true is ih = (at_slash b path part parts is ih.0, λ pieces good. rw is (slashed b path part parts is ih.0 pieces good))
both_step b path part parts false other ih = (at_byte b path part parts other ih.0 ih.1, λ pieces good. rw other (ih.1 pieces good))

both : (path : List ℕ) → Both path (parts_of path)
both [] = at_end
both (b ∷ path) = by (some_parts path) (both path)
  where
    by : (part : List ℕ) × (parts : List (List ℕ)) × (parts_of path ≡ part ∷ parts) → Both path (parts_of path) → Both (b ∷ path) (parts_of (b ∷ path))
    by s ih =
        let e = s.2 in
        subst (λ ps. Both (b ∷ path) (cond (b == slash) ([] ∷ ps) (onto_first b ps))) (sym e) (both_step b path s.0 s.1 (b == slash) refl (subst (Both path) e ih))

-- a pattern takes a path where the parts behind the first, which is empty, do
pub fits_parts : (pieces : List Piece) (path : List ℕ) → are_pieces pieces ≡ true → fits (pattern_of pieces) path ≡ takes (Some [] ∷ pieces) (parts_of path)
unfolding Both Agrees
fits_parts pieces path good = (both path).0 (Some []) pieces good

-- ---- what was taken

-- a statement of all lists of parts that these take
abbrev pub Each : List Piece → (List (List ℕ) → Type 0) → Type 0
Each [] Q = Q []
Each (Some word ∷ pieces) Q = Each pieces (λ parts. Q (word ∷ parts))
Each (None ∷ pieces) Q = (part : List ℕ) → Each pieces (λ parts. Q (part ∷ parts))

pub taken : (pieces : List Piece) (Q : List (List ℕ) → Type 0) → Each pieces Q → (parts : List (List ℕ)) → takes pieces parts ≡ true → Q parts
taken [] Q each [] h = each
taken [] Q each (part ∷ parts) h = absurd (true≢false (sym h))
taken (piece ∷ pieces) Q each [] h = absurd (true≢false (sym h))
taken (Some word ∷ pieces) Q each (part ∷ parts) h =
    let same : part ≡ word = (bytes_eq-Decides part word).0 (and_left _ _ h) in
    subst (λ text. Q (text ∷ parts)) (sym same) (taken pieces (λ parts. Q (word ∷ parts)) each parts (and_right _ _ h))
taken (None ∷ pieces) Q each (part ∷ parts) h = taken pieces (λ parts. Q (part ∷ parts)) (each part) parts (and_right _ _ h)
