-- Amounts that are too large.
use Rattle.std.proofs.Common.{◌≡◌, ℕ, ◌-◌, ◌*◌, ◌/◌, ◌^◌, ◌<◌, ◌≤◌, false, Err, ◌⊎◌, inl, inr, nat_le, refl, arith}
use Rattle.std.specs.Int.{div_ceil}
use Rattle.std.proofs.Math.Nat.{pow-le-pow_right, one-le-pow}
use Rattle.std.proofs.lemmas.Bool.{cases_lt}
use Rattle.std.proofs.lemmas.Bool.Decides.{nat_tests}
use Rattle.std.proofs.lemmas.Nat.{le-div, mul-le}
use Rattle.hx_object.specs.declared.quantity.QuantityFault.TheVariants.{TooLarge}
use Rattle.hx_object.specs.Quantities.{amount_of}

above : (amount : ℕ) → 2 ^ 63 ≤ amount → nat_le amount (2 ^ 63 - 1) ≡ false
above amount large = grind (arith, nat_tests)

pub not-below : (product : ℕ) → (product < 2 ^ 128 → ⊥) → 2 ^ 128 ≤ product
not-below product above = by (cases_lt product (2 ^ 128))
  where
    by : (product < 2 ^ 128) ⊎ (2 ^ 128 ≤ product) → 2 ^ 128 ≤ product
    by (inl below) = absurd (above below)
    by (inr large) = large

-- a product past 2^128 over what divides it
pub too_large : (product over : ℕ) → 0 < over → over ≤ 2 ^ 62 → 2 ^ 128 ≤ product → amount_of (div_ceil product over) ≡ Err TooLarge
too_large product over some few large =
    let most : 2 ^ 64 ≤ product / over = le-div (2 ^ 64) product over some (omega arith) in
    rw (above (div_ceil product over) (omega arith)) refl

-- what divides it
pub few : (over places : ℕ) → over < 2 ^ 32 → places ≤ 9 → over * 10 ^ places ≤ 2 ^ 62
few over places small short =
    let power : 10 ^ places ≤ 10 ^ 9 = pow-le-pow_right {n = 10} (omega arith) short in
    let whole = mul-le over (10 ^ places) (2 ^ 32) (10 ^ 9) (omega arith) power in
    omega (arith, whole)

pub some : (over places : ℕ) → 0 < over → 0 < over * 10 ^ places
some over places above = let power : 1 ≤ 10 ^ places = one-le-pow places 10 (omega arith) in grind arith
