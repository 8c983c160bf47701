-- The number that digits stand for.
use Rattle.std.proofs.Common.{◌≡◌, ℕ, suc, zero, ◌+◌, ◌-◌, ◌*◌, ◌^◌, ◌<◌, ◌≤◌, ◌&&◌, Bool, true, false, List, [], ◌∷◌, ◌++◌, length, take, get_or, refl, ap, ◌∙◌, arith, length-take}
use Rattle.std.specs.List.{list_all}
use Rattle.std.specs.Char.{digit_value}
use Rattle.std.specs.Str.Parse.{digits_value, digits_value_after, AllDigits}
use Rattle.std.proofs.Math.Nat.{pow-le-pow_right, pow-suc}
use Rattle.std.proofs.lemmas.Bool.Decides.{nat_tests}
use Rattle.std.proofs.lemmas.Int.Digits.{digits_value-lt, digits_value_more}
use Rattle.hx_object.specs.Names.{is_digit}

-- what a digit is
pub record IsDigit (byte : ℕ) : Type 0 where
  pub least : 48 ≤ byte
  pub most : byte ≤ 57

both : (a b : Bool) → (a && b) ≡ true → (a ≡ true) × (b ≡ true)
both true b e = (refl, e)
both false b e = absurd (cc e)

digit : (byte : ℕ) → is_digit byte ≡ true → IsDigit byte
digit byte e = record { least = grind (arith, nat_tests); most = grind (arith, nat_tests) }

value_of_digit : (byte : ℕ) → IsDigit byte → digit_value byte ≡ byte - 48
value_of_digit byte d = let least = d.least in let most = d.most in grind (arith, nat_tests)

digits_at : (ds : List ℕ) (i : ℕ) → list_all is_digit ds ≡ true → i < length ds → IsDigit (get_or ds i 0)
digits_at [] i e h = absurd (omega arith)
digits_at (d ∷ ds) zero e h = digit d (both (is_digit d) (list_all is_digit ds) e).0
digits_at (d ∷ ds) (suc i) e h = digits_at ds i (both (is_digit d) (list_all is_digit ds) e).1 (omega arith)

-- the test of digits, as std has it
pub all_digits : (ds : List ℕ) → list_all is_digit ds ≡ true → AllDigits 10 ds
all_digits [] e = tt
all_digits (d ∷ ds) e =
    let parts = both (is_digit d) (list_all is_digit ds) e in
    let is = digit d parts.0 in
    (omega (arith, value_of_digit d is, is.least, is.most), all_digits ds parts.1)

first_digits : (n : ℕ) (ds : List ℕ) → list_all is_digit ds ≡ true → AllDigits 10 (take n ds)
first_digits zero ds e = tt
first_digits (suc n) [] e = tt
first_digits (suc n) (d ∷ ds) e =
    let parts = both (is_digit d) (list_all is_digit ds) e in
    let is = digit d parts.0 in
    (omega (arith, value_of_digit d is, is.least, is.most), first_digits n ds parts.1)

-- one more digit
pub record Grows (ds : List ℕ) (i : ℕ) : Type 0 where
  pub value : digits_value 10 (take (i + 1) ds) ≡ digits_value 10 (take i ds) * 10 + (get_or ds i 0 - 48)
  pub digit : IsDigit (get_or ds i 0)
  pub few : digits_value 10 (take i ds) * 10 + (get_or ds i 0 - 48) < 10 ^ 18

pub one-more : (ds : List ℕ) (i : ℕ) → list_all is_digit ds ≡ true → i < length ds → digits_value 10 (take (i + 1) ds) ≡ digits_value 10 (take i ds) * 10 + (get_or ds i 0 - 48)
one-more ds i e h = digits_value_more 10 ds i h ∙ ap (λ d. digits_value 10 (take i ds) * 10 + d) (value_of_digit (get_or ds i 0) (digits_at ds i e h))

pub grows : (ds : List ℕ) (i : ℕ) → list_all is_digit ds ≡ true → length ds ≤ 18 → i < length ds → Grows ds i
grows ds i e few h =
    let value = one-more ds i e h in
    let below = digits_value-lt 10 (take (i + 1) ds) (first_digits (i + 1) ds e) in
    let len : length (take (i + 1) ds) ≤ 18 = omega (arith, length-take (i + 1) ds) in
    let room : 10 ^ length (take (i + 1) ds) ≤ 10 ^ 18 = pow-le-pow_right {n = 10} (omega arith) len in
    record { value = value; digit = digits_at ds i e h; few = omega (arith, below, room, value) }

-- digits stand for less than the next power of ten
pub below : (ds : List ℕ) → list_all is_digit ds ≡ true → digits_value 10 ds < 10 ^ length ds
below ds e = digits_value-lt 10 ds (all_digits ds e)

-- digits behind a number
after : (n : ℕ) (ds : List ℕ) → digits_value_after 10 n ds ≡ n * 10 ^ length ds + digits_value 10 ds
after n [] = omega arith
after n (d ∷ ds) =
    let left : digits_value_after 10 (n * 10 + digit_value d) ds ≡ (n * 10 + digit_value d) * 10 ^ length ds + digits_value 10 ds = after (n * 10 + digit_value d) ds in
    let right : digits_value 10 (d ∷ ds) ≡ (0 * 10 + digit_value d) * 10 ^ length ds + digits_value 10 ds = after (0 * 10 + digit_value d) ds in
    let power : 10 ^ length (d ∷ ds) ≡ 10 ^ length ds * 10 = pow-suc 10 (length ds) in
    left ∙ step n (digit_value d) (10 ^ length ds) (10 ^ length (d ∷ ds)) (digits_value 10 ds) (digits_value 10 (d ∷ ds)) power right
  where
    step : (n d p q v w : ℕ) → q ≡ p * 10 → w ≡ (0 * 10 + d) * p + v → (n * 10 + d) * p + v ≡ n * q + w
    step n d p q v w e f = rw (e, f) (grind arith)

joined_after : (n : ℕ) (xs ys : List ℕ) → digits_value_after 10 n (xs ++ ys) ≡ digits_value_after 10 (digits_value_after 10 n xs) ys
joined_after n [] ys = refl
joined_after n (x ∷ xs) ys = joined_after (n * 10 + digit_value x) xs ys

-- digits behind digits
pub joined : (xs ys : List ℕ) → digits_value 10 (xs ++ ys) ≡ digits_value 10 xs * 10 ^ length ys + digits_value 10 ys
joined xs ys = joined_after 0 xs ys ∙ after (digits_value 10 xs) ys
