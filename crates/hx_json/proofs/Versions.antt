-- The number that digits make, and its bounds.
use Rattle.std.proofs.Common.{◌≡◌, ℕ, zero, suc, ◌+◌, ◌*◌, ◌-◌, ◌^◌, ◌<◌, ◌≤◌, List, Bool, true, false, length, get_or, refl, sym, subst, ◌∙◌, zero-add, suc-add, arith, true≢false}
use Rattle.std.specs.List.{list_all}
use Rattle.std.proofs.Math.Nat.{pow-suc, le_refl}
use Rattle.std.proofs.lemmas.List.Folds.{list_all_at}
use Rattle.hx_object.specs.Names.{is_digit}

grows : (i k : ℕ) → 10 ^ i ≤ 10 ^ (k + i)
grows i zero = rw (zero-add i) (le_refl (10 ^ i))
grows i (suc k) = rw (suc-add k i) (omega (arith, grows i k, pow-suc 10 (k + i)))

most : (i : ℕ) → i ≤ 18 → 10 ^ i ≤ 10 ^ 18
most i h = let same : (18 - i) + i ≡ 18 = omega arith in subst (λ m. 10 ^ i ≤ 10 ^ m) same (grows i (18 - i))

-- one digit more still fits
pub digit_fits : (n i length : ℕ) → n < 10 ^ i → i < length → length ≤ 19 → n * 10 + 9 < 2 ^ 64
digit_fits n i length h within short =
    let top : 10 ^ i ≤ 10 ^ 18 = most i (omega arith) in omega arith

pub digit_at : (xs : List ℕ) (i : ℕ) → list_all is_digit xs ≡ true → i < length xs → is_digit (get_or xs i 0) ≡ true
digit_at xs i h within = by (is_digit (get_or xs i 0)) refl
  where
    by : (v : Bool) → is_digit (get_or xs i 0) ≡ v → v ≡ true
    by true e = refl
    by false e = absurd (true≢false (sym h ∙ list_all_at is_digit xs i 0 within e))
