-- What a line asks, by whether it is UTF-8.
use Rattle.std.proofs.Common.{◌≡◌, ℕ, Bool, true, false, cond, List, Err, refl, sym, ap}
use Rattle.std.specs.Str.{is_utf8, IsUtf8}
use Rattle.std.proofs.lemmas.Str.{IsUtf8-from_is_utf8, is_utf8-from_IsUtf8}
use Rattle.hx_model.specs.declared.refusal.Refusal.TheVariants.{BadLine}
use Rattle.hx_script.specs.Forms.{reading_of_bytes, reading_of_text}

decided : (bytes : List ℕ) (b : Bool) → is_utf8 bytes ≡ b → ¬ IsUtf8 bytes → b ≡ false
decided bytes true e not = absurd (not (IsUtf8-from_is_utf8 bytes e))
decided bytes false e not = refl

pub reading-utf8 : (bytes : List ℕ) → IsUtf8 bytes → reading_of_text bytes ≡ reading_of_bytes bytes
unfolding reading_of_bytes
reading-utf8 bytes is = ap (λ b. cond b (reading_of_text bytes) (Err BadLine)) (sym (is_utf8-from_IsUtf8 bytes is))

pub reading-other : (bytes : List ℕ) → ¬ IsUtf8 bytes → reading_of_bytes bytes ≡ Err BadLine
unfolding reading_of_bytes
reading-other bytes not = ap (λ b. cond b (reading_of_text bytes) (Err BadLine)) (decided bytes (is_utf8 bytes) refl not)
