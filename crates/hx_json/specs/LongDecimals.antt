-- Numbers that stand alone.
--     long_decimal text    the number that a text is
use Rattle.std.specs.Prelude.{ℕ, List, Option}
use Rattle.hx_model.specs.First.{so}
use Rattle.hx_json.specs.Reading.{is_long_decimal, number_in}

-- the number that a text is: a decimal one without leading zeros, of at most 19 digits
abbrev pub long_decimal : List ℕ → Option ℕ
long_decimal text = so (is_long_decimal text) (number_in text)
