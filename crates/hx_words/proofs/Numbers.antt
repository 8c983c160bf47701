-- Numbers of the command line, as `clap` and std read them.
--     read_number      what std reads is the number of the value, where that lies within the bounds
--     no_number        what std doesn't read is none
use Rattle.std.proofs.Common.{◌≡◌, ◌<◌, ◌∙◌, ℕ, Bool, true, false, ◌&&◌, List, Err, Some, None, if◌then◌else◌, ap, arith, refl, sym}
use Rattle.std.specs.Prelude.{◌^◌, nat_le, nat_lt}
use Rattle.std.specs.Str.Parse.{IsNumeral, ParsesUnsigned, digits_value, without_leading_plus}
use Rattle.clap.proofs.ValueTestLemmas.{Accepts-accepts, accepts-Accepts}
use Rattle.clap.proofs.WalkLemmas.{both}
use Rattle.clap.specs.ValueTests.{is_unsigned_in}
use Rattle.clap.specs.declared.builder.value_parser.ValueParser.TheVariants.{Unsigned}
use Rattle.hx_words.specs.Words.{if_within, number_in}

pub read_number : (least most : ℕ) (text : List ℕ) (n : ℕ) → (IsNumeral 10 (without_leading_plus text) × (digits_value 10 (without_leading_plus text) < 2 ^ 64)) × (n ≡ digits_value 10 (without_leading_plus text)) → if_within least most n ≡ number_in least most text
read_number least most text n parses =
    let digits = without_leading_plus text in
    let v = digits_value 10 digits in
    let exact : is_unsigned_in v v text ≡ true = Accepts-accepts false (Unsigned v v) text (parses.0.0, parses.0.1, omega arith, omega arith) in
    let parts = both _ _ exact in
    let fits = (both _ _ parts.1).0 in
    ap (if_within least most) parses.1
    ∙ sym (ap (λ b. if b && (nat_lt v (2 ^ 64) && (nat_le least v && nat_le v most)) then Some v else None) parts.0 ∙ ap (λ b. if b && (nat_le least v && nat_le v most) then Some v else None) fits)

pub no_number : {E : Type 0} (least most : ℕ) (text : List ℕ) (e : E) → ParsesUnsigned 64 10 text (Err e) → None ≡ number_in least most text
no_number least most text e fails = none (is_unsigned_in least most text) refl
  where
    none : (b : Bool) → is_unsigned_in least most text ≡ b → None ≡ (if b then Some (digits_value 10 (without_leading_plus text)) else None)
    none false is = refl
    none true is = let given = accepts-Accepts false (Unsigned least most) text is in absurd (fails (given.0, given.1))
