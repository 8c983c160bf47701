-- Quantities, as the Kubernetes API writes them, without signs and exponents. An amount is a number of thousandths.
--     quantity_of text        the amount that a text is, or the first fault of the text
--     quantity_text amount    the text of an amount
-- The grammar:
--     quantity = number [suffix]
--     number   = digits | digits "." | "." digits | digits "." digits
-- and `factors` has the suffixes.
use Prim.Native.String.{String}
use Rattle.std.specs.Prelude.{ℕ, ◌-◌, ◌*◌, ◌^◌, ◌/◌, ◌%◌, Bool, ◌&&◌, ◌==◌, nat_eq, nat_le, List, [], ◌∷◌, ◌++◌, length, take, drop, codes, decimal, slice_index, Option, Some, None, Result, Ok, Err, if◌then◌else◌}
use Rattle.std.specs.Int.{div_ceil}
use Rattle.std.specs.List.{prefix_len}
use Rattle.std.specs.Map.{lookup}
use Rattle.std.specs.Str.{bytes_eq}
use Rattle.std.specs.Str.Parse.{digits_value}
use Rattle.hx_object.specs.Names.{is_digit, point}
use Rattle.hx_object.specs.declared.quantity.QuantityFault.{QuantityFault}
use Rattle.hx_object.specs.declared.quantity.QuantityFault.TheVariants.{Syntax, TooLong, TooLarge}

-- ---- suffixes

-- what a number is times: `times / over`
pub record Factor : Type 0 where
  pub times : ℕ
  pub over : ℕ

-- a suffix for so many times a number
abbrev many : String → ℕ → List ℕ × Factor
many suffix times = (codes suffix, record { times = times; over = 1 })

-- a suffix for a number over so many
abbrev part : String → ℕ → List ℕ × Factor
part suffix over = (codes suffix, record { times = 1; over = over })

-- the suffixes, the empty one among them, each with what the number before it is times
abbrev pub factors : List (List ℕ × Factor)
factors =
    many "" 1
    ∷ part "n" (10 ^ 9) ∷ part "u" (10 ^ 6) ∷ part "m" (10 ^ 3)
    ∷ many "k" (10 ^ 3) ∷ many "M" (10 ^ 6) ∷ many "G" (10 ^ 9) ∷ many "T" (10 ^ 12) ∷ many "P" (10 ^ 15) ∷ many "E" (10 ^ 18)
    ∷ many "Ki" (2 ^ 10) ∷ many "Mi" (2 ^ 20) ∷ many "Gi" (2 ^ 30) ∷ many "Ti" (2 ^ 40) ∷ many "Pi" (2 ^ 50) ∷ many "Ei" (2 ^ 60)
    ∷ []

-- what a number with a suffix is times, where the suffix is one of these
unfoldable pub factor_of : List ℕ → Option Factor
factor_of suffix = lookup (bytes_eq suffix) factors

-- ---- how a text is cut

-- how many digits a text begins with
abbrev pub digits_len : List ℕ → ℕ
digits_len text = prefix_len is_digit text

-- the three parts of a text
pub record Written : Type 0 where
  -- the digits before the point
  pub whole : List ℕ
  -- the digits behind it
  pub fraction : List ℕ
  -- what follows them
  pub suffix : List ℕ

-- the three parts, by the digits before the point and what follows these
abbrev pub with_point : List ℕ → List ℕ → Written
with_point whole rest =
    let behind = drop 1 rest in
    if slice_index rest 0 == point
    then record { whole = whole; fraction = take (digits_len behind) behind; suffix = drop (digits_len behind) behind }
    else record { whole = whole; fraction = []; suffix = rest }

-- the three parts of a text
abbrev pub written_of : List ℕ → Written
written_of text = with_point (take (digits_len text) text) (drop (digits_len text) text)

-- ---- what it says

-- the digits before and behind the point as one number
abbrev pub number_of : Written → ℕ
number_of written = digits_value 10 (written.whole ++ written.fraction)

-- the thousandths, rounded up, of a number whose last digits, so many, stand behind the point
abbrev pub scaled : ℕ → ℕ → Factor → ℕ
scaled number places factor = div_ceil (number * (factor.times * 1000)) (factor.over * 10 ^ places)

-- an amount that is at most 2^63 - 1
abbrev pub amount_of : ℕ → Result ℕ QuantityFault
amount_of amount = if nat_le amount (2 ^ 63 - 1) then Ok amount else Err TooLarge

-- no digit stands before or behind the point
abbrev pub is_bare : Written → Bool
is_bare written = nat_eq (length written.whole) 0 && nat_eq (length written.fraction) 0

-- at most 18 digits stand before the point, and at most 9 behind it
abbrev pub is_short : Written → Bool
is_short written = nat_le (length written.whole) 18 && nat_le (length written.fraction) 9

-- what a text in three parts says, by what its suffix stands for
abbrev pub quantity_by : Written → Option Factor → Result ℕ QuantityFault
quantity_by written None = Err Syntax
quantity_by written (Some factor) =
    if is_bare written then Err Syntax else
    if is_short written then amount_of (scaled (number_of written) (length written.fraction) factor) else Err TooLong

-- the amount that a text is, or its first fault
unfoldable pub quantity_of : List ℕ → Result ℕ QuantityFault
quantity_of text = quantity_by (written_of text) (factor_of (written_of text).suffix)

-- ---- what is printed

-- an amount's text: in whole units where 1,000 divides it, else in thousandths
unfoldable pub quantity_text : ℕ → List ℕ
quantity_text amount = if amount % 1000 == 0 then decimal (amount / 1000) else decimal amount ++ codes "m"
