-- What a close leaves of a database file and its log.
--     StandsAlone   the log is empty, and the file without it holds what was committed last
use Rattle.std.specs.Prelude.{◌≡◌, ℕ, List, []}
use Rattle.sqlite_disk.specs.declared.Disk.{Ghosts}
use Rattle.sqlite_disk.specs.declared.Files.{Files}
use Rattle.sqlite_store.specs.declared.store.FileStore.{FileStore}
use Rattle.sqlite.specs.Held.{Held}
use Rattle.sqlite.specs.Files.{HoldsDatabase, file_state}

-- The log is empty, and the database file without it holds what was committed last: whatever a crash leaves of the file does, and so does the file as it reads.
pub record StandsAlone {D : Type 0} {g : Ghosts D} (c : Held (FileStore D g)) (files : Files D) : Type 0 where
  pub empty : g.seen files.log ≡ []
  pub alone : (db : List ℕ) → g.may_leave files.db db → ∥ HoldsDatabase (record { log = []; db = db }) (file_state c).committed.trees ∥₁
