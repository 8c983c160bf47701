-- What is printed is read back.
--     printed-back     the text of an amount says it
--     printed-below    what a text says is below 2^128
use Rattle.std.proofs.Common.{◌≡◌, ℕ, ◌*◌, ◌/◌, ◌%◌, ◌^◌, ◌<◌, ◌==◌, Bool, true, false, cond, List, [], ◌++◌, Some, None, unwrap_or, bytes_eq, take, drop, codes, decimal, length, nat_eq, nat_lt, refl, sym, ap, ◌∙◌, arith}
use mathlib.Core.List.{append-nil}
use Rattle.std.specs.List.{list_all}
use Rattle.std.specs.Str.Parse.{digits_value}
use Rattle.std.proofs.Math.Seq.{drop-append_seam, take-append_seam}
use Rattle.std.proofs.lemmas.Bool.Decides.{Decides-eqb, nat_tests}
use Rattle.std.proofs.lemmas.Fmt.{decimal_is_IsNumeral_wide}
use Rattle.std.proofs.lemmas.Nat.{div-add-mod'}
use Rattle.hx_object.specs.Names.{is_digit}
use Rattle.hx_object.specs.Quantities.{digits_len, quantity_text}
use Rattle.hx_quantity.specs.Printed.{if_held, printed_amount, printed_by}
use Rattle.hx_quantity.proofs.Held.{held-below}
use Rattle.hx_quantity.proofs.ReadBack.{digits-then, own}

-- the digits of a number
record Digits (n : ℕ) : Type 0 where
  all : list_all is_digit (decimal n) ≡ true
  some : nat_eq (length (decimal n)) 0 ≡ false
  value : digits_value 10 (decimal n) ≡ n

digits-of : (n : ℕ) → n < 2 ^ 128 → Digits n
digits-of n few =
    let numeral = decimal_is_IsNumeral_wide n (omega arith) in
    let some = numeral.0.0 in
    record {
      all = own.from (decimal n) numeral.0.1;
      some = grind (arith, nat_tests);
      value = numeral.1;
    }

held : (n : ℕ) → n < 2 ^ 128 → if_held n ≡ Some n
held n few = let fits : nat_lt n (2 ^ 128) ≡ true = grind (arith, nat_tests) in rw fits refl

cut : (ds rest : List ℕ) → list_all is_digit ds ≡ true → digits_len rest ≡ 0 → printed_amount (ds ++ rest) ≡ printed_by ds rest
unfolding printed_amount
cut ds rest all none = rw (digits-then ds rest all none, take-append_seam ds rest, drop-append_seam ds rest) refl

-- whole units
whole : (amount : ℕ) → amount < 2 ^ 128 → amount % 1000 ≡ 0 → printed_amount (decimal (amount / 1000)) ≡ Some amount
whole amount few divides =
    let units = div-add-mod' amount 1000 in
    let d = digits-of (amount / 1000) (omega (arith, units)) in
    let is : digits_value 10 (decimal (amount / 1000)) * 1000 ≡ amount = ap (λ n. n * 1000) d.value ∙ omega (arith, units) in
    ap printed_amount (sym (append-nil (decimal (amount / 1000))))
    ∙ cut (decimal (amount / 1000)) [] d.all refl
    ∙ rw (d.some, is) (held amount few)

-- thousandths
thousandths : (amount : ℕ) → amount < 2 ^ 128 → printed_amount (decimal amount ++ codes "m") ≡ Some amount
thousandths amount few =
    let d = digits-of amount few in
    cut (decimal amount) (codes "m") d.all refl ∙ rw (d.some, d.value) (held amount few)

pub printed-back : (amount : ℕ) → amount < 2 ^ 128 → printed_amount (quantity_text amount) ≡ Some amount
unfolding quantity_text
printed-back amount few = by (amount % 1000 == 0) refl
  where
    by : (divides : Bool) → (amount % 1000 == 0) ≡ divides → printed_amount (cond divides (decimal (amount / 1000)) (decimal amount ++ codes "m")) ≡ Some amount
    by true e = whole amount few ((Decides-eqb (amount % 1000) 0).0 e)
    by false e = thousandths amount few

pub printed-below : (text : List ℕ) → unwrap_or (printed_amount text) 0 < 2 ^ 128
unfolding printed_amount
printed-below text = by (nat_eq (length digits) 0) (bytes_eq rest []) (bytes_eq rest (codes "m"))
  where
    digits : List ℕ
    digits = take (digits_len text) text

    rest : List ℕ
    rest = drop (digits_len text) text

    by : (bare units thousandths : Bool) → unwrap_or (cond bare None (cond units (if_held (digits_value 10 (take (digits_len text) text) * 1000)) (cond thousandths (if_held (digits_value 10 (take (digits_len text) text))) None))) 0 < 2 ^ 128
    by true units thousandths = omega arith
    by false true thousandths = held-below (digits_value 10 (take (digits_len text) text) * 1000)
    by false false true = held-below (digits_value 10 (take (digits_len text) text))
    by false false false = omega arith
