-- The digits that a text begins with.
use Rattle.std.proofs.Common.{◌≡◌, ℕ, suc, ◌+◌, ◌&&◌, Bool, true, false, cond, not, List, [], ◌∷◌, Some, None, length, take, refl, sym, ap, ◌∙◌, arith}
use Rattle.std.specs.List.{list_all, position, position_or_len}
use Rattle.std.proofs.lemmas.Bool.Decides.{nat_tests}
use Rattle.std.proofs.lemmas.List.Sums.{prefix_len-le-length}
use Rattle.hx_object.specs.Names.{is_digit}
use Rattle.hx_object.specs.Quantities.{digits_len}

-- what is no digit
abbrev other : ℕ → Bool
other byte = not (is_digit byte)

up-to : (text : List ℕ) → position_or_len other text ≡ digits_len text
up-to [] = refl
up-to (byte ∷ text) = by (is_digit byte) (up-to text)
  where
    by : (is : Bool) → position_or_len other text ≡ digits_len text → cond (not (not is)) (1 + position_or_len other text) 0 ≡ cond is (1 + digits_len text) 0
    by true same = ap (λ n. 1 + n) same
    by false same = refl

place_missing : (found : Bool) (at : ℕ) → cond found (Some at) None ≡ None → found ≡ false
place_missing true at given = absurd (cc given)
place_missing false at given = refl

place_found : (found : Bool) (at place : ℕ) → cond found (Some at) None ≡ Some place → at ≡ place
place_found true at place given = cc given
place_found false at place given = absurd (cc given)

-- where nothing else stands, all are digits
pub length-is : (text : List ℕ) → position other text ≡ None → length text ≡ digits_len text
length-is text missing =
    let past = place_missing _ _ missing in
    let most = prefix_len-le-length is_digit text in
    let same = up-to text in
    grind (arith, nat_tests)

-- the first byte that is no digit stands behind them
pub place-is : (text : List ℕ) (place : ℕ) → position other text ≡ Some place → place ≡ digits_len text
place-is text place found = sym (place_found _ _ _ found) ∙ up-to text

both : (a b : Bool) → a ≡ true → b ≡ true → (a && b) ≡ true
both true true e f = refl
both true false e f = absurd (cc f)
both false b e f = absurd (cc e)

-- they are digits
pub first-digits : (text : List ℕ) → list_all is_digit (take (digits_len text) text) ≡ true
first-digits [] = refl
first-digits (byte ∷ text) = by (is_digit byte) refl (first-digits text)
  where
    by : (is : Bool) → is_digit byte ≡ is → list_all is_digit (take (digits_len text) text) ≡ true → list_all is_digit (take (cond is (1 + digits_len text) 0) (byte ∷ text)) ≡ true
    by true e all =
        let next : 1 + digits_len text ≡ suc (digits_len text) = omega arith in
        let more : take (1 + digits_len text) (byte ∷ text) ≡ byte ∷ take (digits_len text) text = ap (λ n. take n (byte ∷ text)) next in
        rw more (both (is_digit byte) (list_all is_digit (take (digits_len text) text)) e all)
    by false e all = refl
