-- The keys that wait.
--     LineView             the keys, those of which it is kept how deep they lie now, and the room
--     with_key             keys with one behind the others, unless it is there
--     waiting_without      the keys but for one
--     IsRanked f ranks     how deep keys lie in a tree
--     KeepsRanks           what holds of all that is kept still does
--     most_line            as many keys at most
--     ranks_in, room_in    what is kept of depths;  the room
--     IsLine               what is kept
use Rattle.std.specs.Prelude.{◌≡◌, ◌≤◌, ◌-◌, ◌==◌, ℕ, Bool, true, not, min, length, List, [], ◌∷◌, ◌++◌, filter, map, take, if◌then◌else◌, refl}
use Rattle.std.specs.List.{IsDistinct, list_all}
use Rattle.std.specs.Coded.{Coded, code_by, coded×, coded_list, coded_ℕ}
use Rattle.hx_model.specs.Forest.{Forest}
use Rattle.hx_model.specs.Keys.{same_key, is_among}
use Rattle.hx_model.specs.contracts.key.Key as key
use Rattle.hx_model.specs.declared.key.Key.{Key}
use Rattle.hx_order.specs.Ranks.{depth_in}
use Rattle.hx_line.specs.Heap.{IsHeap, placed_cmp}

pub record LineView : Type 0 where
  pub keys : List Key
  pub ranks : List (Key × ℕ)
  pub room : ℕ

-- with a key behind the others, unless it is there
abbrev pub with_key : Key → List Key → List Key
with_key k keys = if is_among k keys then keys else keys ++ k ∷ []

-- the keys but for one
abbrev pub waiting_without : List Key → Key → List Key
waiting_without keys k = filter (λ other. not (same_key k other)) keys

-- ---- depths

-- a key lies as deep in a tree
abbrev pub is_at : Forest → Key × ℕ → Bool
is_at f e = e.1 == depth_in f e.0

-- how deep each of some keys lies in a tree
abbrev pub IsRanked : Forest → List (Key × ℕ) → Type 0
IsRanked f ranks = list_all (is_at f) ranks ≡ true

-- what holds of all of some holds of all of others
abbrev pub KeepsRanks : List (Key × ℕ) → List (Key × ℕ) → Type 0
KeepsRanks old new = (test : Key × ℕ → Bool) → list_all test old ≡ true → list_all test new ≡ true

-- ---- what is kept

-- as many keys at most are in line, which is more than any memory has room for, so that a sum with their number is one of a `usize`
abbrev pub most_line : ℕ
most_line = 281_474_976_710_656

-- the room for more, by that of the map
abbrev pub room_in : List (Key × ℕ) → ℕ → ℕ
room_in entries spare = min (most_line - length entries) spare

-- the keys, as the map has them
abbrev pub keys_in : List (Key × ℕ) → List Key
keys_in entries = map (λ (e : Key × ℕ). e.0) entries

-- the keys in heap order, while their depths are those of the tree
abbrev pub ranks_in : List (Key × ℕ) → ℕ → Bool → List (Key × ℕ)
ranks_in entries ordered current = if current then take ordered entries else []

-- no key is there twice, the first ones are in heap order, and the keys aren't too many
pub record IsLine (entries : List (Key × ℕ)) (ordered : ℕ) : Type 0 where
  pub distinct : IsDistinct same_key (keys_in entries)
  pub within : ordered ≤ length entries
  pub heap : IsHeap placed_cmp ordered entries
  pub most : length entries ≤ most_line

-- as a pair
abbrev pub line_code : Coded LineView
line_code = code_by (List Key × (List (Key × ℕ) × ℕ)) (coded× (coded_list key.the_row.coded) (coded× (coded_list (coded× key.the_row.coded coded_ℕ)) coded_ℕ)) (λ l. (l.keys, (l.ranks, l.room))) (λ p. record { keys = p.0; ranks = p.1.0; room = p.1.1 }) (λ _. refl)
