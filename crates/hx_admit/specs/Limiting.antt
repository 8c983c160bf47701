-- What stands against a write by the limits.
--     rises_over      bytes would rise over their limit
--     count_denials, growth_denials      the limits that are passed, in their order
use Rattle.std.specs.Prelude.{ℕ, ◌-◌, Bool, ◌&&◌, nat_lt, nat_le, List, [], ◌∷◌, Option}
use Rattle.hx_object.specs.declared.object.Object.{Object}
use Rattle.hx_model.specs.First.{so}
use Rattle.hx_model.specs.Limits.{part_of, counted_size, most_names, most_objects, most_bytes, greatest_version}
use Rattle.hx_model.specs.declared.rule.Rule.TheVariants.{L1, L2, L3, L4}
use Rattle.hx_model.specs.declared.denial.Denial.{Denial}
use Rattle.hx_model.specs.declared.denial.Denial.TheVariants.{Broken}
use Rattle.hx_state.specs.declared.limits.LimitCounts.{LimitCounts}

-- where more come than go, and what stays leaves no room for them
abbrev pub rises_over : ℕ → ℕ → ℕ → Bool
rises_over bytes old new = nat_lt old new && nat_lt (most_bytes - new) (bytes - old)

-- a name or an object that is brought would pass a limit
abbrev pub count_denials : Bool → Bool → LimitCounts → List (Option Denial)
count_denials name object counts =
    so (name && nat_le most_names counts.names) (Broken L1)
    ∷ so (object && nat_le most_objects counts.objects) (Broken L2)
    ∷ []

-- the bytes would rise over their limit where an object stands in the place of another, or no version is left
abbrev pub growth_denials : LimitCounts → Option Object → Option Object → ℕ → List (Option Denial)
growth_denials counts old new last =
    so (rises_over counts.bytes (part_of counted_size old) (part_of counted_size new)) (Broken L3)
    ∷ so (nat_le greatest_version last) (Broken L4)
    ∷ []
