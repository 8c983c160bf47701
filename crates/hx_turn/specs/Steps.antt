-- What each step tells the pass that makes it.
--     Draws      it drew a ticket
--     Looks      its turn has come, and it has the slot; or nothing changed
--     Served     the first of these
--     Hears      it has seen the whole history, for which a value stood, and what it was told of begins that
--     Leaves     it passed the turn on, with one entry more
use Rattle.std.specs.Prelude.{◌≡◌, ◌≢◌, ℕ, ◌%◌, ◌^◌, true, List, ◌∷◌, Option, Some}
use mathlib.Core.List.{IsPrefix}
use Rattle.atomic_table.specs.Table.{Me, Step, rest}
use Rattle.hx_turn.specs.declared.view.View.{View}
use Rattle.hx_turn.specs.Passes.{after_entry, carrying}

module _ {E O T : Type 0} (stands : T → O → List (ℕ × E) → Type 0) where
  -- it drew a ticket
  abbrev pub Draws : Step (Option T) → Me (Option T) (View E O) → ℕ → Me (Option T) (View E O) → Type 0
  Draws st m found n = (t : ℕ) × (found ≡ t % 2 ^ 64) × (n ≡ (record m.0 { ticket = Some t }, m.1))

  -- it has the slot, with a value that stands for the history, and has seen that whole
  abbrev pub Served : Me (Option T) (View E O) → Me (Option T) (View E O) → Type 0
  Served m n = (x : T) × (log : List (ℕ × E)) × (n ≡ (record m.0 { inside = true; seen = log }, (0, Some x) ∷ m.1)) × IsPrefix m.0.seen log × (carrying m.0.number log ≡ m.0.mine) × ((o : O) × (m.0.opening ≡ Some o) × stands x o log)

  -- its turn has come, and it has the slot; or nothing changed
  abbrev pub Looks : Step (Option T) → Me (Option T) (View E O) → ℕ → Me (Option T) (View E O) → Type 0
  Looks st m found n = (t : ℕ) → m.0.ticket ≡ Some t → (found ≡ t % 2 ^ 64 → Served m n) × (found ≢ t % 2 ^ 64 → n ≡ m)

  -- it has seen the whole history, for which a value stood, and what it was told of begins that
  abbrev pub Hears : Step (Option T) → Me (Option T) (View E O) → ℕ → Me (Option T) (View E O) → Type 0
  Hears st m found n = (log : List (ℕ × E)) × (n ≡ (record m.0 { seen = log }, m.1)) × IsPrefix m.0.seen log × IsPrefix m.0.told log × ((x : T) × (o : O) × (m.0.opening ≡ Some o) × stands x o log)

module _ {E O T : Type 0} where
  -- it passed the turn on, with one entry more
  abbrev pub Leaves : E → Step (Option T) → Me (Option T) (View E O) → ℕ → Me (Option T) (View E O) → Type 0
  Leaves e st m found n = n ≡ (after_entry m.0 e, rest m.1)
