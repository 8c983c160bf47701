-- Counts that rise one by one, and stand still at the end of their type.
--     next_number           the number of the next call
--     Rose before now       the count rose, or stands at its last value
use Rattle.std.specs.Prelude.{ℕ, ◌+◌, ◌-◌, ◌^◌, ◌≤◌, min}

-- the number of the next call, which stands at its last value
abbrev pub next_number : ℕ → ℕ
next_number calls = min (calls + 1) (2 ^ 64 - 1)

-- the count rose, or stands at its last value
abbrev pub Rose : ℕ → ℕ → Type 0
Rose before now = next_number before ≤ now
