-- How code counts sizes: no further than to one more than the greatest, and part by part.
--     capped, capped_sum         a size, and a sum of sizes, as far as they are counted
--     entry_size, limit_size     the parts of the text of what a request gives
use Rattle.std.specs.Prelude.{ℕ, ◌+◌, List, length, fold, min}
use Rattle.json.specs.Print.{quoted}
use Rattle.serde_json.specs.Written.{compact_text}
use Rattle.hx_object.specs.Json.{entry_data}
use Rattle.hx_object.specs.declared.object.Limit.{Limit}
use Rattle.hx_object.specs.declared.object.ModeEntry.{ModeEntry}

-- a size, as far as it is counted: to one more than the greatest
abbrev pub capped : ℕ → ℕ
capped size = min size 65537

-- the sum of sizes, counted so far
abbrev pub capped_sum : {X : Type 0} → (X → ℕ) → List X → ℕ
capped_sum size items = fold (λ sum x. capped (sum + size x)) 0 items

-- what an entry of a HNCConfiguration has, with the comma or bracket behind it
unfoldable pub entry_size : ModeEntry → ℕ
entry_size entry = length (compact_text (entry_data entry)) + 1

-- what a limit has as a member, with the comma or brace behind it
unfoldable pub limit_size : Limit → ℕ
limit_size limit = length (quoted limit.resource) + (length (quoted limit.written) + 2)
