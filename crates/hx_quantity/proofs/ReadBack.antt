-- What is printed is read again.
use Rattle.std.proofs.Common.{◌≡◌, ℕ, ◌+◌, ◌-◌, ◌*◌, ◌/◌, ◌%◌, ◌^◌, ◌<◌, ◌≤◌, ◌&&◌, ◌⊎◌, inl, inr, ◌==◌, ◌≢◌, Bool, true, false, cond, List, [], ◌∷◌, ◌++◌, Some, Ok, Err, codes, decimal, length, slice_index, nat_eq, nat_le, refl, sym, ap, ◌∙◌, rules, arith}
use mathlib.Core.List.{append-nil}
use Rattle.std.specs.Int.{div_ceil}
use Rattle.std.specs.List.{list_all}
use Rattle.std.specs.Str.Parse.{digits_value}
use Rattle.std.proofs.Math.Nat.{mul-div_left, mul-mod_left, pow-le-pow_right}
use Rattle.std.proofs.Math.Seq.{drop-append_seam, take-append_seam}
use Rattle.std.proofs.lemmas.Bool.{cases_lt}
use Rattle.std.proofs.lemmas.Bool.Decides.{Decides-eqb, nat_tests}
use Rattle.std.proofs.lemmas.Fmt.{decimal_is_IsNumeral, digits_decimal, length-decimal-le}
use Rattle.std.proofs.lemmas.Int.Digits.{digits_value-lt}
use Rattle.std.proofs.lemmas.Nat.{div-add-mod'}
use Rattle.std.proofs.lemmas.Str.Parse.{IsNumeralModel, numerals_by_value}
use Rattle.hx_object.specs.Names.{is_digit, point}
use Rattle.hx_object.specs.declared.quantity.QuantityFault.TheVariants.{TooLong}
use Rattle.hx_object.specs.Quantities.{Factor, Written, amount_of, digits_len, factor_of, quantity_by, quantity_of, scaled, written_of, quantity_text}

pub digits-then : (ds rest : List ℕ) → list_all is_digit ds ≡ true → digits_len rest ≡ 0 → digits_len (ds ++ rest) ≡ length ds
digits-then [] rest all none = none
digits-then (d ∷ ds) rest all none = by (is_digit d) all (digits-then ds rest)
  where
    by : (is : Bool) → (is && list_all is_digit ds) ≡ true → (list_all is_digit ds ≡ true → digits_len rest ≡ 0 → digits_len (ds ++ rest) ≡ length ds) → cond is (1 + digits_len (ds ++ rest)) 0 ≡ length (d ∷ ds)
    by true e ih = let same = ih e none in omega (arith, same)
    by false e ih = absurd (cc e)

-- digits with no point behind them
abbrev plain : List ℕ → List ℕ → Written
plain ds rest = record { whole = ds; fraction = []; suffix = rest }

cut-plain : (ds rest : List ℕ) → list_all is_digit ds ≡ true → digits_len rest ≡ 0 → (slice_index rest 0 == point) ≡ false → written_of (ds ++ rest) ≡ plain ds rest
cut-plain ds rest all none other = rw (digits-then ds rest all none, take-append_seam ds rest, drop-append_seam ds rest, other) refl

within : (amount : ℕ) → amount < 2 ^ 63 → amount_of amount ≡ Ok amount
within amount small = let fits : nat_le amount (2 ^ 63 - 1) ≡ true = grind (arith, nat_tests) in rw fits refl

said : (ds rest : List ℕ) (factor : Factor) (amount : ℕ) → 0 < length ds → length ds ≤ 18 → scaled (digits_value 10 ds) 0 factor ≡ amount → amount < 2 ^ 63 → quantity_by (plain ds rest) (Some factor) ≡ Ok amount
said ds rest factor amount some short is small =
    let there : nat_eq (length ds) 0 ≡ false = grind (arith, nat_tests) in
    let few : nat_le (length ds) 18 ≡ true = grind (arith, nat_tests) in
    rw (there, few, append-nil ds, is) (within amount small)

reads : (ds rest : List ℕ) (factor : Factor) (amount : ℕ) → list_all is_digit ds ≡ true → 0 < length ds → length ds ≤ 18
    → digits_len rest ≡ 0 → (slice_index rest 0 == point) ≡ false → factor_of rest ≡ Some factor
    → scaled (digits_value 10 ds) 0 factor ≡ amount → amount < 2 ^ 63 → quantity_of (ds ++ rest) ≡ Ok amount
unfolding quantity_of
reads ds rest factor amount all some short none other stands is small =
    rw (cut-plain ds rest all none other, stands) (said ds rest factor amount some short is small)

exact : (n k : ℕ) → 0 < k → div_ceil (n * k) k ≡ n
exact n k some = rw (mul-div_left n some, mul-mod_left n k) (omega arith)

pub own : IsNumeralModel (λ ds. list_all is_digit ds ≡ true) (digits_value 10)
own = numerals_by_value _ (search rules)

-- the digits of a number
record Digits (n : ℕ) : Type 0 where
  all : list_all is_digit (decimal n) ≡ true
  some : 0 < length (decimal n)
  short : length (decimal n) ≤ 18
  value : digits_value 10 (decimal n) ≡ n

digits-of : (n : ℕ) → n < 10 ^ 18 → Digits n
digits-of n few =
    let numeral = decimal_is_IsNumeral n (omega arith) in
    record {
      all = digits_decimal own n (omega arith);
      some = numeral.0.0;
      short = length-decimal-le 18 n (omega arith) few (omega arith);
      value = numeral.1;
    }

no-suffix : factor_of [] ≡ Some (record { times = 1; over = 1 })
unfolding factor_of
no-suffix = refl

milli : factor_of (codes "m") ≡ Some (record { times = 1; over = 1000 })
unfolding factor_of
milli = refl

-- whole units
whole : (amount : ℕ) → amount < 2 ^ 63 → amount % 1000 ≡ 0 → quantity_of (decimal (amount / 1000)) ≡ Ok amount
whole amount small divides =
    let units = div-add-mod' amount 1000 in
    let d = digits-of (amount / 1000) (omega (arith, units)) in
    let is : scaled (digits_value 10 (decimal (amount / 1000))) 0 (record { times = 1; over = 1 }) ≡ amount =
    ap (λ n. div_ceil (n * 1000) 1) d.value ∙ ap (λ n. div_ceil n 1) (omega (arith, units)) ∙ exact amount 1 (omega arith) in
    ap quantity_of (sym (append-nil (decimal (amount / 1000))))
    ∙ reads (decimal (amount / 1000)) [] _ amount d.all d.some d.short refl refl no-suffix is small

-- thousandths
thousandths : (amount : ℕ) → amount < 10 ^ 18 → quantity_of (decimal amount ++ codes "m") ≡ Ok amount
thousandths amount few =
    let d = digits-of amount few in
    let is : scaled (digits_value 10 (decimal amount)) 0 (record { times = 1; over = 1000 }) ≡ amount =
    ap (λ n. div_ceil (n * 1000) 1000) d.value ∙ exact amount 1000 (omega arith) in
    reads (decimal amount) (codes "m") _ amount d.all d.some d.short refl refl milli is (omega arith)

-- the text of an amount is read as the amount
pub read-back : (amount : ℕ) → amount < 2 ^ 63 → (amount < 10 ^ 18) ⊎ (amount % 1000 ≡ 0) → quantity_of (quantity_text amount) ≡ Ok amount
unfolding quantity_text
read-back amount small may = by (amount % 1000 == 0) refl may
  where
    by : (divides : Bool) → (amount % 1000 == 0) ≡ divides → (amount < 10 ^ 18) ⊎ (amount % 1000 ≡ 0) → quantity_of (cond divides (decimal (amount / 1000)) (decimal amount ++ codes "m")) ≡ Ok amount
    by true e _ = whole amount small ((Decides-eqb (amount % 1000) 0).0 e)
    by false e (inl few) = thousandths amount few
    by false e (inr divides) = absurd (grind (arith, nat_tests))

-- ---- too many digits

refused : (ds rest : List ℕ) (factor : Factor) → 18 < length ds → quantity_by (plain ds rest) (Some factor) ≡ Err TooLong
refused ds rest factor long =
    let there : nat_eq (length ds) 0 ≡ false = grind (arith, nat_tests) in
    let many : nat_le (length ds) 18 ≡ false = grind (arith, nat_tests) in
    rw (there, many) refl

refuses : (ds rest : List ℕ) (factor : Factor) → list_all is_digit ds ≡ true → 18 < length ds
    → digits_len rest ≡ 0 → (slice_index rest 0 == point) ≡ false → factor_of rest ≡ Some factor → quantity_of (ds ++ rest) ≡ Err TooLong
unfolding quantity_of
refuses ds rest factor all long none other stands = rw (cut-plain ds rest all none other, stands) (refused ds rest factor long)

many-digits : (n : ℕ) → 10 ^ 18 ≤ n → n < 2 ^ 63 → 18 < length (decimal n)
many-digits n large small = by (cases_lt 18 (length (decimal n)))
  where
    by : (18 < length (decimal n)) ⊎ (length (decimal n) ≤ 18) → 18 < length (decimal n)
    by (inl long) = long
    by (inr short) =
        let numeral = decimal_is_IsNumeral n (omega arith) in
        let below = digits_value-lt 10 (decimal n) numeral.0.1 in
        let most : 10 ^ length (decimal n) ≤ 10 ^ 18 = pow-le-pow_right {n = 10} (omega arith) short in
        absurd (omega (arith, below, most, numeral.1))

-- the text of a large amount that isn't whole is refused
pub too-long : (amount : ℕ) → 10 ^ 18 ≤ amount → amount < 2 ^ 63 → amount % 1000 ≢ 0 → quantity_of (quantity_text amount) ≡ Err TooLong
unfolding quantity_text
too-long amount large small odd = by (amount % 1000 == 0) refl
  where
    by : (divides : Bool) → (amount % 1000 == 0) ≡ divides → quantity_of (cond divides (decimal (amount / 1000)) (decimal amount ++ codes "m")) ≡ Err TooLong
    by true e = absurd (odd ((Decides-eqb (amount % 1000) 0).0 e))
    by false e = refuses (decimal amount) (codes "m") _ (digits_decimal own amount (omega arith)) (many-digits amount large small) refl refl milli
