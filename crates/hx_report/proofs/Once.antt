-- Names that stand once.
--     IsOnce       no name stands twice
--     once_from    so it is with names that are distinct
use Rattle.std.proofs.Common.{◌≡◌, ℕ, false, ◌||◌, List, [], ◌∷◌, refl, ap, ◌∙◌}
use Rattle.std.specs.List.{AllByRecursion, IsDistinct}
use Rattle.std.specs.Str.{bytes_eq}
use Rattle.hx_model.specs.Forest.{is_in}

-- no name stands twice
abbrev pub IsOnce : List (List ℕ) → Type 0
IsOnce [] = Unit {0}
IsOnce (name ∷ names) = (is_in name names ≡ false) × IsOnce names

none_same : (n : List ℕ) (names : List (List ℕ)) → AllByRecursion (λ y. bytes_eq n y ≡ false) names → is_in n names ≡ false
none_same n [] apart = refl
none_same n (m ∷ names) apart = ap (λ b. b || is_in n names) apart.0 ∙ none_same n names apart.1

-- so it is with names that are distinct
pub once_from : (names : List (List ℕ)) → IsDistinct bytes_eq names → IsOnce names
unfolding IsDistinct
once_from [] distinct = tt
once_from (n ∷ names) distinct = (none_same n names distinct.0, once_from names distinct.1)
