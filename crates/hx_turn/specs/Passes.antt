-- What a pass knows, and what calls make of it.
--     carrying n log        the entries that carry the number
--     IsOutside, IsInside   a pass is of a caller that waits for nothing and has nothing;  of one that has the value
--     Keeps                 a pass has seen more, and else knows what it knew
--     first_pass            the pass that comes with a lock
--     after_split, split_off    the first pass after a split, and the one that was split off
--     after_entry           a pass that left with an entry
--     joined, spent         the first pass with the rights of another one, told of what that one has seen;  what is left of that one
use Rattle.std.specs.Prelude.{◌≡◌, ℕ, ◌+◌, ◌-◌, ◌^◌, ◌<◌, true, false, List, [], ◌∷◌, ◌++◌, nat_eq, Option, Some, None, if◌then◌else◌}
use mathlib.Core.List.{IsPrefix}
use Rattle.atomic_table.specs.Table.{Me}
use Rattle.hx_turn.specs.declared.view.View.{View}

-- the entries that carry the number
abbrev pub carrying : {E : Type 0} → ℕ → List (ℕ × E) → List (ℕ × E)
carrying n [] = []
carrying n (e ∷ es) = if nat_eq n e.0 then e ∷ carrying n es else carrying n es

-- all rights of a lock: one for each pass that may be split off, and one for the first
abbrev pub all_rights : ℕ
all_rights = 2 ^ 32 + 1

module _ {E O : Type 0} where
  module _ {T : Type 0} where
    -- it has no ticket, and nothing out of the slot
    abbrev pub IsOutside : Me (Option T) (View E O) → Type 0
    IsOutside m = (m.0.ticket ≡ None) × (m.0.inside ≡ false) × (0 < m.0.rights) × (m.1 ≡ [])

    -- it has the value, and its slot is empty
    abbrev pub IsInside : Me (Option T) (View E O) → Type 0
    IsInside m = (m.0.inside ≡ true) × (m.1 ≡ (0, None) ∷ [])

  -- It has seen more. Its number, its own entries, its rights and what the lock opened with stay
  abbrev pub Keeps : View E O → View E O → Type 0
  Keeps old new = IsPrefix old.seen new.seen × (new.number ≡ old.number) × (new.mine ≡ old.mine) × (new.rights ≡ old.rights) × (new.opening ≡ old.opening) × (new.first ≡ old.first) × (new.given ≡ old.given)

  -- it has all rights, and has seen the history without entries
  abbrev pub first_pass : O → View E O
  first_pass o = record { opening = Some o; rights = all_rights; number = 0; first = true; given = 1; ticket = None; inside = false; seen = []; told = []; mine = [] }

  -- the first pass, with one right less
  abbrev pub after_split : View E O → View E O
  after_split v = record v { rights = v.rights - 1; given = v.given + 1 }

  -- a pass with that right, a number of its own and no entries. It has seen as much as the first
  abbrev pub split_off : View E O → View E O
  split_off v = record { opening = v.opening; rights = 1; number = v.given; first = false; given = 0; ticket = None; inside = false; seen = v.seen; told = []; mine = [] }

  -- it has passed the turn on, with one entry more
  abbrev pub after_entry : View E O → E → View E O
  after_entry v e = record v { ticket = None; inside = false; seen = v.seen ++ (v.number, e) ∷ []; mine = v.mine ++ (v.number, e) ∷ [] }

  -- the first pass, with the rights of another one, told of what that one has seen
  abbrev pub joined : View E O → View E O → View E O
  joined v w = record v { rights = v.rights + w.rights; told = w.seen }

  -- what is left of a pass that was joined
  abbrev pub spent : View E O
  spent = record { opening = None; rights = 0; number = 0; first = false; given = 0; ticket = None; inside = false; seen = []; told = []; mine = [] }
