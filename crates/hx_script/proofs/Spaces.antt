-- Where the first space of a text is.
use Rattle.std.proofs.Common.{◌≡◌, ℕ, ◌+◌, cond, List, Option, Some, None, get_or, ap, ◌∙◌, sym, refl, arith, IsUtf8}
use Rattle.std.proofs.lemmas.Bool.{eqb-true, lt-ltb, le-ltb}
use Rattle.std.proofs.lemmas.List.Quantifiers.{position-Some}
use Rattle.std.specs.List.{position_or_len}
use Rattle.std.specs.Str.{IsCharBoundary}
use Rattle.memchr.specs.Find.{IsFirstByte, is_byte}
use Rattle.hx_api.proofs.Bytes.{cuts_at, first_at, first_nowhere}
use Rattle.hx_script.specs.Words.{first_space}

-- a search of bytes finds it
pub found_first : (text : List ℕ) (r : Option ℕ) → IsFirstByte (is_byte 32) text r → r ≡ first_space text
found_first text None none =
    let end = first_nowhere 32 text text None none refl refl in
    sym (ap (λ b. cond b (Some (position_or_len (is_byte 32) text)) None) (le-ltb _ _ (omega (arith, end))))
found_first text (Some k) first =
    let at = first_at 32 text text (Some k) k first refl refl in
    sym (ap (λ b. cond b (Some (position_or_len (is_byte 32) text)) None) (lt-ltb _ _ (omega (arith, at.0, at.1))) ∙ ap Some at.0)

-- a text may be cut before and behind it
pub space_cuts : (text : List ℕ) (space : ℕ) → IsUtf8 text → first_space text ≡ Some space → IsCharBoundary text space × IsCharBoundary text (space + 1)
space_cuts text space utf8 is =
    let at = position-Some (is_byte 32) text space 0 is in
    cuts_at 32 text space (omega arith) utf8 at.0 (eqb-true (get_or text space 0) 32 at.1)
