-- Which paths the patterns of a router take, where a parameter is a whole part of the path.
use Rattle.std.specs.Prelude.{◌≡◌, ◌⊎◌, ℕ, List, [], ◌∷◌, Option, Some, None, Bool, true, false, cond, not, ◌==◌, ◌&&◌, ◌||◌, ⊤}
use Rattle.matchit.specs.Rows.{RowsOf, param_token, catch_all_token}
use Rattle.matchit.specs.Seek.{slash}

-- the path from its first slash on
abbrev pub after_part : List ℕ → List ℕ
after_part [] = []
after_part (b ∷ path) = cond (b == slash) (b ∷ path) (after_part path)

-- a pattern takes a path: a parameter takes the bytes up to the next slash, at least one
abbrev pub fits : List ℕ → List ℕ → Bool
fits [] [] = true
fits [] (b ∷ path) = false
fits (x ∷ t) [] = false
fits (x ∷ t) (b ∷ path) = cond (x == param_token) (not (b == slash) && fits t (after_part path)) ((x == b) && fits t path)

-- the pattern ends, or goes on with a slash
abbrev pub ends_part : List ℕ → Bool
ends_part [] = true
ends_part (x ∷ t) = x == slash

-- each parameter is a whole part, and there is no catch-all
abbrev pub is_plain : List ℕ → Bool
is_plain [] = true
is_plain (x ∷ t) = not (x == catch_all_token) && ((not (x == param_token) || ends_part t) && is_plain t)

module _ {K : Type 0} where
  -- so are all rows
  abbrev pub ArePlain : RowsOf K → Type 0
  ArePlain [] = ⊤
  ArePlain ((t, k) ∷ rs) = (is_plain t ≡ true) × ArePlain rs

  -- one of the rows with this key takes the path
  abbrev pub HasFit : RowsOf K → List ℕ → K → Type 0
  HasFit [] path k = ⊥
  HasFit ((t, l) ∷ rs) path k = ((fits t path ≡ true) × (l ≡ k)) ⊎ HasFit rs path k

  -- none of the rows takes the path
  abbrev pub HasNoFit : RowsOf K → List ℕ → Type 0
  HasNoFit [] path = ⊤
  HasNoFit ((t, l) ∷ rs) path = (fits t path ≡ false) × HasNoFit rs path

  -- the answer is a row that takes the path, or none does
  abbrev pub IsRouteOf : RowsOf K → List ℕ → Option K → Type 0
  IsRouteOf rs path None = HasNoFit rs path
  IsRouteOf rs path (Some k) = HasFit rs path k
