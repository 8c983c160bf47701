-- Walks up the parents from a name, with no list of who was passed, and at most so many steps.
--     walk_has         whether the walk passes a name
--     walk_to          after how many steps it comes to a name
--     walk_ends        how many namespaces it passes until it ends, where it has ended by then
--     walk_halts       whether it passes a namespace that is halted by itself
--     length_from      how long the chain is from a name that may be none
-- As many steps as the forest has namespaces, and one more to see the end, tell all, also where the parents go in a cycle.
use Rattle.std.specs.Prelude.{ℕ, zero, suc, Bool, false, ◌&&◌, ◌||◌, List, length, is_some, if◌then◌else◌, Option, Some, None, option_map}
use Rattle.std.specs.Option.{option_map_or}
use Rattle.std.specs.Str.{bytes_eq}
use Rattle.hx_model.specs.Forest.{Forest, is_there, parent_of, chain_of, own_halt_of}

abbrev pub walk_has : ℕ → Forest → Option (List ℕ) → List ℕ → Bool
walk_has zero f next a = false
walk_has (suc left) f None a = false
walk_has (suc left) f (Some n) a = is_there f n && (bytes_eq n a || walk_has left f (parent_of f n) a)

-- how far a is above n: 0 where it is n
abbrev pub walk_to : ℕ → Forest → Option (List ℕ) → List ℕ → Option ℕ
walk_to zero f next a = None
walk_to (suc left) f None a = None
walk_to (suc left) f (Some n) a = if is_there f n then if bytes_eq n a then Some 0 else option_map (λ k. suc k) (walk_to left f (parent_of f n) a) else None

-- a walk ends at a namespace with no parent, or before a name that isn't there
abbrev pub walk_ends : ℕ → Forest → Option (List ℕ) → Option ℕ
walk_ends zero f next = None
walk_ends (suc left) f None = Some 0
walk_ends (suc left) f (Some n) = if is_there f n then option_map (λ k. suc k) (walk_ends left f (parent_of f n)) else Some 0

abbrev pub walk_halts : ℕ → Forest → Option (List ℕ) → Bool
walk_halts zero f next = false
walk_halts (suc left) f None = false
walk_halts (suc left) f (Some n) = is_there f n && (is_some (own_halt_of f n) || walk_halts left f (parent_of f n))

-- the length of the chain of a parent: 0 for none, and for one that isn't there
abbrev pub length_from : Forest → Option (List ℕ) → ℕ
length_from f parent = option_map_or (λ p. length (chain_of f p)) parent 0
