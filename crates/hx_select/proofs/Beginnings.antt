-- Texts by their first byte.
use Rattle.std.proofs.Common.{◌≡◌, ◌≢◌, ℕ, ◌==◌, Bool, true, false, List, ◌∷◌, refl, ap}
use Rattle.std.proofs.lemmas.Bool.Decides.{Decides-eqb}

-- a test that isn't passed
pub not-true : (test : Bool) → (test ≡ true → ⊥) → test ≡ false
not-true true not = absurd (not refl)
not-true false not = refl

-- a text that begins with another byte
pub begins-not : (byte first : ℕ) (rest : List ℕ) → ((behind : List ℕ) → first ∷ rest ≢ byte ∷ behind) → (first == byte) ≡ false
begins-not byte first rest none = not-true (first == byte) (λ is. none rest (ap (λ b. b ∷ rest) ((Decides-eqb first byte).0 is)))
