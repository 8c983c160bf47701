-- Draws: a linear congruence, of whose numbers the upper bits are drawn.
--     next_number        the number behind a number
--     number_after       the number after so many draws
--     draw_of            what is drawn with a number
--     parent_of          the place of a namespace's parent, among those before it
use Rattle.std.specs.Prelude.{ℕ, zero, suc, ◌+◌, ◌*◌, ◌/◌, ◌%◌}

-- the number behind a number, below 2^31
abbrev pub next_number : ℕ → ℕ
next_number x = (x * 1103515245 + 12345) % 2147483648

-- the number after so many draws, where it is `number` at first
abbrev pub number_after : ℕ → ℕ → ℕ
number_after number zero = number
number_after number (suc draws) = next_number (number_after number draws)

-- what is drawn: all but the lower 16 bits
abbrev pub draw_of : ℕ → ℕ
draw_of x = x / 65536

-- the parent of the namespace at place `i`, from 1 on: by the draw of that number, among the `i` namespaces before it
abbrev pub parent_of : ℕ → ℕ → ℕ
parent_of number i = draw_of (number_after number i) % i
