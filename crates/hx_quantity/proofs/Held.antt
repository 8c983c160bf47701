-- Numbers that 128 bits hold, digit by digit.
--     more, missing    the digits so far with one more stand for a number that is held;  or else all of them stand for more
--     held-below       what is held is below 2^128
use Rattle.std.proofs.Common.{◌≡◌, ℕ, ◌+◌, ◌-◌, ◌*◌, ◌^◌, ◌<◌, ◌≤◌, Bool, true, false, cond, List, Option, Some, None, length, take, get_or, nat_lt, unwrap_or, refl, sym, ap, ◌∙◌, arith}
use Rattle.std.specs.List.{list_all}
use Rattle.std.specs.Str.Parse.{digits_value}
use Rattle.std.proofs.lemmas.Bool.Decides.{nat_tests}
use Rattle.std.proofs.lemmas.Str.Parse.{digits_value-take-le}
use Rattle.hx_object.specs.Names.{is_digit}
use Rattle.hx_quantity.specs.Printed.{if_held}
use Rattle.hx_quantity.proofs.Numbers.{one-more}

-- the number that is held is the one
held-is : (n m : ℕ) → if_held n ≡ Some m → n ≡ m
held-is n m is = by (nat_lt n (2 ^ 128)) is
  where
    by : (small : Bool) → cond small (Some n) None ≡ Some m → n ≡ m
    by true is = cc
    by false is = absurd (cc is)

too-large : (n : ℕ) → if_held n ≡ None → nat_lt n (2 ^ 128) ≡ false
too-large n none = by (nat_lt n (2 ^ 128)) none
  where
    by : (small : Bool) → cond small (Some n) None ≡ None → small ≡ false
    by true none = absurd (let clash : Some n ≡ None = none in cc)
    by false none = refl

still-none : (n m : ℕ) → n ≤ m → if_held n ≡ None → if_held m ≡ None
still-none n m more none =
    let large = too-large n none in
    let larger : nat_lt m (2 ^ 128) ≡ false = grind (arith, nat_tests) in
    rw larger refl

module _ (ds : List ℕ) (i number : ℕ) (digits : list_all is_digit ds ≡ true) (within : i < length ds) (so-far : if_held (digits_value 10 (take i ds)) ≡ Some number) where
  next : digits_value 10 (take (i + 1) ds) ≡ number * 10 + (get_or ds i 0 - 48)
  next = one-more ds i digits within ∙ ap (λ n. n * 10 + (get_or ds i 0 - 48)) (held-is (digits_value 10 (take i ds)) number so-far)

  pub more : (result : Option ℕ) (longer : ℕ) → result ≡ if_held (number * 10 + (get_or ds i 0 - 48)) → result ≡ Some longer → if_held (digits_value 10 (take (i + 1) ds)) ≡ Some longer
  more result longer is found = ap if_held next ∙ sym is ∙ found

  pub missing : (result : Option ℕ) → result ≡ if_held (number * 10 + (get_or ds i 0 - 48)) → result ≡ None → if_held (digits_value 10 ds) ≡ None
  missing result is none = still-none (digits_value 10 (take (i + 1) ds)) (digits_value 10 ds) (digits_value-take-le 10 ds (i + 1) (omega arith)) (ap if_held next ∙ sym is ∙ none)

pub held-below : (n : ℕ) → unwrap_or (if_held n) 0 < 2 ^ 128
held-below n = by (nat_lt n (2 ^ 128)) refl
  where
    by : (small : Bool) → nat_lt n (2 ^ 128) ≡ small → unwrap_or (cond small (Some n) None) 0 < 2 ^ 128
    by true e = grind (arith, nat_tests)
    by false e = omega arith
