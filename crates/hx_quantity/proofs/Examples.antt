-- Quantities on examples. Each value is worked out from the grammar by hand.
use Rattle.std.proofs.Common.{◌≡◌, ◌++◌, ℕ, ◌-◌, ◌^◌, List, [], codes, Ok, Err, refl}
use Rattle.std.specs.Prelude.{replicate}
use Rattle.std.specs.Fmt.{digits}
use Rattle.hx_object.specs.declared.quantity.QuantityFault.{QuantityFault}
use Rattle.hx_object.specs.declared.quantity.QuantityFault.TheVariants.{Syntax, TooLong, TooLarge}
use Rattle.hx_object.specs.Quantities.{factor_of, quantity_of, quantity_text}

-- a text has an amount
abbrev amounts : List ℕ → ℕ → Type 0
amounts text amount = quantity_of text ≡ Ok amount

-- a text has a fault
abbrev faulty : List ℕ → QuantityFault → Type 0
faulty text fault = quantity_of text ≡ Err fault

-- ---- what is read
zero : amounts (codes "0") 0
unfolding quantity_of factor_of
zero = refl

milli : amounts (codes "250m") 250
unfolding quantity_of factor_of
milli = refl

half : amounts (codes "0.5") 500
unfolding quantity_of factor_of
half = refl

-- rounded up
nano : amounts (codes "1n") 1
unfolding quantity_of factor_of
nano = refl

no_nano : amounts (codes "0n") 0
unfolding quantity_of factor_of
no_nano = refl

micro : amounts (codes "1001u") 2
unfolding quantity_of factor_of
micro = refl

kibi : amounts (codes "1Ki") 1024000
unfolding quantity_of factor_of
kibi = refl

more_milli : amounts (codes "1500m") 1500
unfolding quantity_of factor_of
more_milli = refl

most_pebi : amounts (codes "8Pi") 9007199254740992000
unfolding quantity_of factor_of
most_pebi = refl

point_last : amounts (codes "1.") 1000
unfolding quantity_of factor_of
point_last = refl

point_first : amounts (codes ".5") 500
unfolding quantity_of factor_of
point_first = refl

point_before_suffix : amounts (codes "2.k") 2000000
unfolding quantity_of factor_of
point_before_suffix = refl

-- of 1,152,921,504,606.846976 thousandths
small_and_large : amounts (codes "0.000000001Ei") 1152921504607
unfolding quantity_of factor_of
small_and_large = refl

none_of_large : amounts (codes "0.000000000Ei") 0
unfolding quantity_of factor_of
none_of_large = refl

whole_as_rounded : amounts (codes "0.001") 1
unfolding quantity_of factor_of
whole_as_rounded = refl

up : amounts (codes "0.0010001") 2
unfolding quantity_of factor_of
up = refl

-- 18 digits before the point
most_zeros : amounts (replicate 18 48) 0
unfolding quantity_of factor_of
most_zeros = refl

largest : amounts (codes "9223372036854775.807") 9223372036854775807
unfolding quantity_of factor_of
largest = refl

exa : amounts (codes "0.009E") 9000000000000000000
unfolding quantity_of factor_of
exa = refl

-- ---- faults

empty : faulty [] Syntax
unfolding quantity_of factor_of
empty = refl

point : faulty (codes ".") Syntax
unfolding quantity_of factor_of
point = refl

suffix_alone : faulty (codes "m") Syntax
unfolding quantity_of factor_of
suffix_alone = refl

point_and_suffix : faulty (codes ".Ki") Syntax
unfolding quantity_of factor_of
point_and_suffix = refl

sign : faulty (codes "-1") Syntax
unfolding quantity_of factor_of
sign = refl

plus : faulty (codes "+1") Syntax
unfolding quantity_of factor_of
plus = refl

exponent : faulty (codes "1e3") Syntax
unfolding quantity_of factor_of
exponent = refl

large_exponent : faulty (codes "1E3") Syntax
unfolding quantity_of factor_of
large_exponent = refl

space_first : faulty (codes " 1") Syntax
unfolding quantity_of factor_of
space_first = refl

space_last : faulty (codes "1 ") Syntax
unfolding quantity_of factor_of
space_last = refl

other_suffix : faulty (codes "1K") Syntax
unfolding quantity_of factor_of
other_suffix = refl

lower_binary : faulty (codes "1ki") Syntax
unfolding quantity_of factor_of
lower_binary = refl

two_points : faulty (codes "1.2.3") Syntax
unfolding quantity_of factor_of
two_points = refl

two_suffixes : faulty (codes "1mm") Syntax
unfolding quantity_of factor_of
two_suffixes = refl

other_letters : faulty (codes "1µ") Syntax
unfolding quantity_of factor_of
other_letters = refl

-- 19 zeros
zeros : faulty (replicate 19 48) TooLong
unfolding quantity_of factor_of
zeros = refl

-- 10 digits behind the point
fraction_zeros : faulty (codes "0.0000000000") TooLong
unfolding quantity_of factor_of
fraction_zeros = refl

-- the first fault counts
syntax_first : faulty (replicate 19 48 ++ codes "x") Syntax
unfolding quantity_of factor_of
syntax_first = refl

long_first : faulty (codes "9999999999999999999Ei") TooLong
unfolding quantity_of factor_of
long_first = refl

too_many_pebi : faulty (codes "9Pi") TooLarge
unfolding quantity_of factor_of
too_many_pebi = refl

one_too_many : faulty (codes "9223372036854775.808") TooLarge
unfolding quantity_of factor_of
one_too_many = refl

rounded_past : faulty (codes "9223372036854775.807000001") TooLarge
unfolding quantity_of factor_of
rounded_past = refl

largest_digits : faulty (codes "999999999999999999.999999999Ei") TooLarge
unfolding quantity_of factor_of
largest_digits = refl

-- ---- what is printed

printed_zero : quantity_text 0 ≡ codes "0"
unfolding quantity_text digits
printed_zero = refl

printed_milli : quantity_text 1 ≡ codes "1m"
unfolding quantity_text digits
printed_milli = refl

printed_unit : quantity_text 1000 ≡ codes "1"
unfolding quantity_text digits
printed_unit = refl

printed_more : quantity_text 1500 ≡ codes "1500m"
unfolding quantity_text digits
printed_more = refl

printed_large : quantity_text 1024000 ≡ codes "1024"
unfolding quantity_text digits
printed_large = refl

printed_largest : quantity_text (2 ^ 63 - 1) ≡ codes "9223372036854775807m"
unfolding quantity_text digits
printed_largest = refl
