-- Where the first line feed is.
use Rattle.std.proofs.Common.{◌≡◌, ℕ, suc, zero, ◌<◌, Bool, true, false, List, [], ◌∷◌, length, take, get_or, Some, None, refl, arith}
use Rattle.std.specs.Prelude.{◌==◌, IfSome, IfNone}
use Rattle.std.specs.declared.option.Option.{Option}
use Rattle.std.proofs.lemmas.List.{take_all}
use Rattle.memchr.specs.Find.{IsFirstByte, is_byte}
use Rattle.hx_script.specs.Running.{EndsAt, HasNoEnd}

fails : (b : Bool) → ¬ (b ≡ true) → b ≡ false
fails true not = absurd (not refl)
fails false not = refl

none_below : (xs : List ℕ) (n : ℕ) → ((k : ℕ) → k < n → k < length xs → ¬ ((get_or xs k 0 == 10) ≡ true)) → HasNoEnd (take n xs)
none_below xs zero none = tt
none_below [] (suc n) none = tt
none_below (x ∷ xs) (suc n) none = (fails (x == 10) (none zero (omega arith) (omega arith)), none_below xs n (λ k low high. none (suc k) (omega arith) (omega arith)))

pub found : (xs : List ℕ) (r : Option ℕ) → IsFirstByte (is_byte 10) xs r → IfSome r (λ end. EndsAt xs end)
found xs None p = tt
found xs (Some end) p = record { within = p.0.high; is = grind (arith, p.1); before = none_below xs end (λ k low high. p.0.before k (omega arith) low) }

pub nowhere : (xs : List ℕ) (r : Option ℕ) → IsFirstByte (is_byte 10) xs r → IfNone r (HasNoEnd xs)
nowhere xs (Some end) p = tt
nowhere xs None p = rw (take_all (length xs) xs (omega arith)) at (none_below xs (length xs) (λ k low high. p k (omega arith) high))
