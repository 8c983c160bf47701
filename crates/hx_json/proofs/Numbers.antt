-- Numbers that aren't whole.
use Rattle.std.proofs.Common.{◌≡◌, Bool, true, false, cond, None, Some, refl}
use Rattle.std.specs.Float.{binary64, float_is_finite}
use Rattle.fast_float.specs.Text.{Parts, nearest}
use Rattle.serde_json.specs.Data.{float}
use Rattle.serde_json.specs.Read.{float_of}
use Rattle.hx_json.specs.Trees.{unless_float}

-- no float is whole
pub no_whole : (sign : Bool) (p : Parts) → unless_float (float_of sign p) ≡ None
no_whole sign p = by (float_is_finite (nearest binary64 sign p))
  where
    by : (v : Bool) → unless_float (cond v (Some (float (nearest binary64 sign p))) None) ≡ None
    by true = refl
    by false = refl
