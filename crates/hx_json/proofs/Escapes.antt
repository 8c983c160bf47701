-- Strings that are escaped character by character.
use Rattle.std.proofs.Common.{◌≡◌, ℕ, suc, ◌<◌, ◌≤◌, Bool, true, false, cond, nat_lt, ◌==◌, ◌||◌, List, [], ◌∷◌, ◌++◌, length, get_or, inl, inr, refl, sym, ap, ap₂, ◌∙◌, arith, append_assoc, append-nil, subst, ◌+◌, take, drop, encode_utf8}
use Rattle.std.proofs.lemmas.Bool.{or_parts, not-true, eqb-false, ltb-false, cases_lt}
use Rattle.std.proofs.lemmas.Bool.Decides.{nat_tests}
use Rattle.std.proofs.lemmas.List.{nil_from_length}
use Rattle.std.proofs.lemmas.List.Sums.{prefix_len_is, prefix_len_stops, prefix_len-le-length}
use Rattle.std.proofs.lemmas.Str.{encode_ascii, inside_one, IsCharBoundary-before_ascii}
use Rattle.std.specs.List.{prefix_len}
use Rattle.std.specs.Str.{IsCharBoundary}
use Rattle.json.specs.Print.{escape, escape_byte}
use Rattle.json.specs.Run.{is_stop, is_plain}
use Rattle.json.specs.Written.{PlainBetween}
use Rattle.json.proofs.Printed.Strings.{escape_byte_plain}

plain_byte : (x : ℕ) → is_plain x ≡ true → escape_byte x ≡ x ∷ []
plain_byte x h =
    let tests = or_parts ((x == 34) || (x == 92)) (nat_lt x 32) (not-true (is_stop x) h) in
    let others = or_parts (x == 34) (x == 92) tests.0 in
    escape_byte_plain x (eqb-false x 34 others.0) (eqb-false x 92 others.1) (ltb-false x 32 tests.1)

-- a byte that isn't plain is ASCII
stop_byte : (x : ℕ) → is_plain x ≡ false → x < 128
stop_byte x e = grind (arith, nat_tests)

escape_high : (xs : List ℕ) → ((k : ℕ) → k < length xs → 128 ≤ get_or xs k 0) → escape xs ≡ xs
escape_high [] h = refl
escape_high (x ∷ xs) h =
    let high : 128 ≤ x = h 0 (omega arith) in
    ap₂ (λ (a b : List ℕ). a ++ b) (escape_byte_plain x (λ e. omega arith) (λ e. omega arith) (omega arith)) (escape_high xs (λ k below. h (suc k) (omega arith)))

high_byte : (c k : ℕ) → 128 ≤ c → k < length (encode_utf8 c) → 128 ≤ get_or (encode_utf8 c) k 0
high_byte c k big below = elim (cases_lt (get_or (encode_utf8 c) k 0) 128) [
  | inl low ↦ absurd (omega (arith, inside_one c [] (encode_utf8 c) k (sym (append-nil _)) below low))
  | inr h ↦ h
]

-- characters beyond ASCII stand for themselves
pub high_char : (c : ℕ) → 128 ≤ c → escape (encode_utf8 c) ≡ encode_utf8 c
high_char c big = escape_high (encode_utf8 c) (λ k below. high_byte c k big below)

-- an ASCII character that is plain stands for itself
pub plain_char : (c : ℕ) → c < 128 → is_plain c ≡ true → escape (encode_utf8 c) ≡ encode_utf8 c
plain_char c small h = rw (encode_ascii c small) (rw append-nil (plain_byte c h))

escape-append : (xs ys : List ℕ) → escape (xs ++ ys) ≡ escape xs ++ escape ys
escape-append [] ys = refl
escape-append (x ∷ xs) ys = ap (λ l. escape_byte x ++ l) (escape-append xs ys) ∙ sym (append_assoc (escape_byte x) _ _)

-- the plain front stands for itself
pub escape_cut : (xs : List ℕ) → escape xs ≡ take (prefix_len is_plain xs) xs ++ escape (drop (prefix_len is_plain xs) xs)
escape_cut [] = refl
escape_cut (x ∷ xs) = cut (is_plain x) refl (escape_cut xs)
  where
    cut : (b : Bool) → is_plain x ≡ b → escape xs ≡ take (prefix_len is_plain xs) xs ++ escape (drop (prefix_len is_plain xs) xs) → escape (x ∷ xs) ≡ take (cond b (1 + prefix_len is_plain xs) 0) (x ∷ xs) ++ escape (drop (cond b (1 + prefix_len is_plain xs) 0) (x ∷ xs))
    cut true e rest =
        let more : suc (prefix_len is_plain xs) ≡ 1 + prefix_len is_plain xs = omega arith in
        subst (λ n. escape (x ∷ xs) ≡ take n (x ∷ xs) ++ escape (drop n (x ∷ xs))) more (ap₂ (λ (a b : List ℕ). a ++ b) (plain_byte x e) rest)
    cut false e rest = refl

-- a plain front ends where a character begins
pub cut_boundary : (xs : List ℕ) → IsCharBoundary xs (prefix_len is_plain xs)
cut_boundary xs = (prefix_len-le-length is_plain xs, λ below. (IsCharBoundary-before_ascii xs _ below (stop_byte _ (prefix_len_stops is_plain xs 0 below))).1 below)

-- a front that is plain as far as n, and then is over or has a stop
pub plain_front : (xs : List ℕ) (n : ℕ) → n ≤ length xs → PlainBetween xs 0 n → (n < length xs → is_plain (get_or xs n 0) ≡ false) → n ≡ prefix_len is_plain xs
plain_front xs n within plain stop = sym (prefix_len_is is_plain xs n 0 within (λ k below. plain k (omega arith) below) stop)

-- a text that is plain as far as n, and from there on
pub plain_whole : (xs : List ℕ) (n : ℕ) → PlainBetween xs 0 n → PlainBetween xs n (length xs) → length xs ≡ prefix_len is_plain xs
plain_whole xs n front end =
    plain_front xs (length xs) (omega arith) (λ k from below. elim (cases_lt k n) [ inl early ↦ front k from early | inr late ↦ end k late below ]) (λ more. absurd (omega (arith, more)))

-- what is written, one step further
pub escape_step : (before done now new rest tail left : List ℕ) (c : ℕ)
    → done ++ escape rest ≡ before
    → now ≡ done ++ take (prefix_len is_plain rest) rest → tail ≡ drop (prefix_len is_plain rest) rest
    → tail ≡ encode_utf8 c ++ left → new ≡ now ++ escape (encode_utf8 c)
    → new ++ escape left ≡ before
escape_step before done now new rest tail left c kept run over next written =
    let plain = take (prefix_len is_plain rest) rest in
    let after : escape tail ≡ escape (encode_utf8 c) ++ escape left = ap escape next ∙ escape-append (encode_utf8 c) left in
    ap (λ l. l ++ escape left) (written ∙ ap (λ l. l ++ escape (encode_utf8 c)) run)
    ∙ append_assoc (done ++ plain) _ _ ∙ append_assoc done _ _
    ∙ ap (λ l. done ++ (plain ++ l)) (sym after ∙ ap escape over)
    ∙ ap (λ l. done ++ l) (sym (escape_cut rest)) ∙ kept

-- what is written, where nothing is left behind a plain front
pub escape_end : (before done now rest tail : List ℕ)
    → done ++ escape rest ≡ before
    → now ≡ done ++ take (prefix_len is_plain rest) rest → tail ≡ drop (prefix_len is_plain rest) rest
    → length tail ≡ 0 → now ≡ before
escape_end before done now rest tail kept run over none =
    let plain = take (prefix_len is_plain rest) rest in
    let whole : escape rest ≡ plain = escape_cut rest ∙ ap (λ l. plain ++ escape l) (sym over ∙ nil_from_length tail none) ∙ append-nil plain in
    run ∙ ap (λ l. done ++ l) (sym whole) ∙ kept
