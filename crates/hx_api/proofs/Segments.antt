-- Segments that are UTF-8 once they are decoded, and others.
use Rattle.std.proofs.Common.{◌≡◌, ℕ, List, Bool, true, false, Some, None, refl, ap}
use Rattle.std.specs.Str.{IsUtf8, is_utf8}
use Rattle.std.proofs.lemmas.Str.{IsUtf8-from_is_utf8, is_utf8-from_IsUtf8}
use Rattle.percent_encoding.specs.Percent.{percent_decode}
use Rattle.hx_api.specs.Paths.{segment_text}

pub taken : (segment text : List ℕ) → IsUtf8 (percent_decode segment) → text ≡ percent_decode segment → Some text ≡ segment_text segment
unfolding segment_text
taken segment text utf8 is = rw (is_utf8-from_IsUtf8 (percent_decode segment) utf8) (ap Some is)

refused_by : (segment : List ℕ) (b : Bool) → is_utf8 (percent_decode segment) ≡ b → ¬ (IsUtf8 (percent_decode segment)) → None ≡ segment_text segment
unfolding segment_text
refused_by segment true is no_text = absurd (no_text (IsUtf8-from_is_utf8 (percent_decode segment) is))
refused_by segment false is no_text = rw is refl

pub refused : (segment : List ℕ) → ¬ (IsUtf8 (percent_decode segment)) → None ≡ segment_text segment
refused segment no_text = refused_by segment (is_utf8 (percent_decode segment)) refl no_text
