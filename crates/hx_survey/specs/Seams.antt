-- Rings of the tree, each cut open at its least place.
--     least_on       the least place that a walk up passes, and one before
--     seam_at        the least place of the ring that a place is in, if it is in one
--     is_seam        a ring is cut open there
--     cut_at         where a walk up goes on that stops where rings are cut open
--     shared_at      the place that has the sum of a place: that of its ring, or it itself
--     AreSeams, AreCuts    so it is noted for each place
use Rattle.std.specs.Prelude.{◌≡◌, ◌<◌, ℕ, zero, suc, ◌==◌, Bool, false, cond, List, length, min, Option, Some, None}
use Rattle.std.specs.Option.{option_map_or}
use Rattle.hx_survey.specs.Inside.{up_at, walk_at}

-- the least place that a walk up, of so many steps, passes, and one before
abbrev pub least_on : ℕ → List (Option ℕ) → Option ℕ → ℕ → ℕ
least_on zero ups at least = least
least_on (suc left) ups None least = least
least_on (suc left) ups (Some i) least = least_on left ups (up_at ups i) (min least i)

-- a walk up from a place comes back to it
abbrev pub is_in_ring : List (Option ℕ) → ℕ → Bool
is_in_ring ups k = walk_at (λ place. place == k) (length ups) ups (up_at ups k)

-- the least place of the ring that a place is in
abbrev pub seam_at : List (Option ℕ) → ℕ → Option ℕ
seam_at ups k = cond (is_in_ring ups k) (Some (least_on (length ups) ups (Some k) k)) None

-- a ring is cut open there
abbrev pub is_seam : List (Option ℕ) → ℕ → Bool
is_seam seams k = option_map_or (λ seam. seam == k) (up_at seams k) false

-- where a walk up goes on
abbrev pub cut_at : List (Option ℕ) → List (Option ℕ) → ℕ → Option ℕ
cut_at ups seams k = cond (is_seam seams k) None (up_at ups k)

-- the place that has the sum of a place
abbrev pub shared_at : List (Option ℕ) → ℕ → ℕ
shared_at seams k = option_map_or (λ seam. seam) (up_at seams k) k

-- so it is noted for each place
pub record IsNoted (told : ℕ → Option ℕ) (noted : List (Option ℕ)) (size : ℕ) : Type 0 where
  pub many : length noted ≡ size
  pub each : (k : ℕ) → k < length noted → up_at noted k ≡ told k

abbrev pub AreSeams : List (Option ℕ) → List (Option ℕ) → Type 0
AreSeams ups seams = IsNoted (seam_at ups) seams (length ups)

abbrev pub AreCuts : List (Option ℕ) → List (Option ℕ) → List (Option ℕ) → Type 0
AreCuts ups seams cuts = IsNoted (cut_at ups seams) cuts (length ups)
