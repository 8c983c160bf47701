use Rattle.std.proofs.Common.{◌≡◌, Some, take}
use Rattle.std.specs.Str.Parse.{digits_value}
use Rattle.hx_quantity.specs.Printed.{if_held}
use Rattle.hx_quantity.proofs.printed.number_in.Given as goal

-- the number is that of the digits so far
abbrev pub invariant-loop-digit : goal.invariant-loop-digit
invariant-loop-digit l = if_held (digits_value 10 (take l.digit-index l.digits)) ≡ Some l.number
