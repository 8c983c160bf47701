-- What was written to a file that is only read.
--     start_of change          where the file may differ by it: it is the same below
--     changed change file      the file behind a change
--     changed_by changes file  the file behind changes, of which the oldest comes first
--     IsKeptBelow end file new  all below an offset is as it was
--     HasOf len at file range  a range has those bytes of a file that lie below its end
use Rattle.std.specs.Prelude.{◌≡◌, ℕ, ◌+◌, ◌<◌, ◌≤◌, List, [], ◌∷◌, length, slice_index}
use Rattle.sqlite_disk.specs.Events.{overlaid, padded}
use Rattle.hx_overlay.specs.declared.change.Change.{Change}
use Rattle.hx_overlay.specs.declared.change.Change.TheVariants.{Written, Cut}

-- where the file may differ by it: it is the same below
abbrev pub start_of : Change → ℕ
start_of (Written piece) = piece.at
start_of (Cut len) = len

-- the file behind a change
abbrev pub changed : Change → List ℕ → List ℕ
changed (Written piece) file = overlaid file piece.at piece.bytes.items
changed (Cut len) file = padded file len

-- the file behind changes, of which the oldest comes first
abbrev pub changed_by : List Change → List ℕ → List ℕ
changed_by [] file = file
changed_by (change ∷ changes) file = changed_by changes (changed change file)

-- a range that begins at an offset has those bytes of a file that lie below its end
abbrev pub HasOf : ℕ → ℕ → List ℕ → List ℕ → Type 0
HasOf len at file range = (i : ℕ) → i < length range → at + i < len → slice_index range i ≡ slice_index file (at + i)

-- all below an offset is there, and is as it was
pub record IsKeptBelow (end : ℕ) (file new : List ℕ) : Type 0 where
  pub there : end ≤ length file
  pub within : end ≤ length new
  pub each : (i : ℕ) → i < end → slice_index new i ≡ slice_index file i
