-- Words that are joined by single spaces.
--     word_of, rest_of      the bytes before the first space;  those behind it, where there is one
--     is_number             a number in decimal, within bounds
use Rattle.std.specs.Prelude.{ℕ, ◌+◌, Bool, not, ◌&&◌, ◌||◌, ◌==◌, nat_le, nat_eq, List, slice_index, length, take, drop, Option, Some, None}
use Rattle.std.specs.List.{list_all, position}
use Rattle.std.specs.Str.Parse.{digits_value}
use Rattle.hx_object.specs.Names.{is_digit, has_length}

-- where the first space is
abbrev pub first_space : List ℕ → Option ℕ
first_space text = position (λ byte. byte == 32) text

-- the bytes before a space, or all where there is none
abbrev pub word_before : List ℕ → Option ℕ → List ℕ
word_before text None = text
word_before text (Some space) = take space text

-- the bytes behind a space
abbrev pub rest_behind : List ℕ → Option ℕ → Option (List ℕ)
rest_behind text None = None
rest_behind text (Some space) = Some (drop (space + 1) text)

-- the first word
unfoldable pub word_of : List ℕ → List ℕ
word_of text = word_before text (first_space text)

-- what follows the first word and its space, where there is a space
unfoldable pub rest_of : List ℕ → Option (List ℕ)
rest_of text = rest_behind text (first_space text)

-- one digit, or several of which the first isn't 0
abbrev pub has_no_leading_zero : List ℕ → Bool
has_no_leading_zero digits = not (slice_index digits 0 == 48) || nat_eq (length digits) 1

-- 1 to 10 digits without a leading zero
unfoldable pub is_short_decimal : List ℕ → Bool
is_short_decimal text = has_length 1 10 text && (list_all is_digit text && has_no_leading_zero text)

-- a number in decimal that lies within the bounds
unfoldable pub is_number : ℕ → ℕ → List ℕ → Bool
is_number least most text = is_short_decimal text && (nat_le least (digits_value 10 text) && nat_le (digits_value 10 text) most)
