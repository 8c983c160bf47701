-- What printed amounts say, in thousandths.
--     if_held n              a number that 128 bits hold
--     printed_amount text    the amount that a text says as amounts are printed: digits alone, of whole units, or digits and an `m`, of thousandths
-- Leading zeros, which aren't printed, are read too.
use Rattle.std.specs.Prelude.{ℕ, ◌*◌, ◌^◌, nat_eq, nat_lt, List, [], codes, length, take, drop, Option, Some, None, if◌then◌else◌}
use Rattle.std.specs.Str.{bytes_eq}
use Rattle.std.specs.Str.Parse.{digits_value}
use Rattle.hx_object.specs.Quantities.{digits_len}

-- a number that 128 bits hold
abbrev pub if_held : ℕ → Option ℕ
if_held n = if nat_lt n (2 ^ 128) then Some n else None

-- what digits and the rest behind them say
abbrev pub printed_by : List ℕ → List ℕ → Option ℕ
printed_by digits rest =
    if nat_eq (length digits) 0 then None else
    if bytes_eq rest [] then if_held (digits_value 10 digits * 1000) else
    if bytes_eq rest (codes "m") then if_held (digits_value 10 digits) else None

-- the amount that a text says
unfoldable pub printed_amount : List ℕ → Option ℕ
printed_amount text = printed_by (take (digits_len text) text) (drop (digits_len text) text)
