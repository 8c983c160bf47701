-- A log that is cut to nothing takes nothing from what the database file holds.
use Rattle.std.proofs.Common.{◌≡◌, [], Result, Ok, Err, IfOk, IsTrue, subst}
use Rattle.std.proofs.lemmas.Bool.{and_from, and_parts}
use Rattle.sqlite_disk.specs.declared.Disk.{Ghosts}
use Rattle.sqlite_disk.specs.declared.Files.{Files}
use Rattle.sqlite_store.specs.declared.store.FileStore.{FileStore}
use Rattle.sqlite_wal.specs.Reads.{AreClean}
use Rattle.sqlite.specs.Closing.{IsCopied}
use Rattle.sqlite.specs.Held.{Held}
use Rattle.hx_sqlite.specs.Alone.{StandsAlone}
use Rattle.hx_sqlite.specs.declared.fault.SqlFault.{SqlFault}

module _ {D : Type 0} {g : Ghosts D} (stays : (file : D) → g.may_leave file (g.seen file)) (c : Held (FileStore D g)) (files : Files D) (copied : AreClean g files.log files.db → IsCopied c files) where
  stands : (left : Files D) → g.seen left.log ≡ [] → left.db ≡ files.db → (IsTrue (g.is_clean left.log) → IsTrue (g.is_clean files.log)) → AreClean g left.log left.db → StandsAlone c left
  stands left empty same clean are_clean =
      let parts = and_parts (g.is_clean left.log) (g.is_clean left.db) are_clean in
      let was : IsCopied c files = copied (and_from (g.is_clean files.log) (g.is_clean files.db) (clean parts.0) (subst (λ db. IsTrue (g.is_clean db)) same parts.1)) in
      record {
        empty = empty;
        alone = λ db may. (was.left (record { log = g.seen files.log; db = db }) (stays files.log, subst (λ file. g.may_leave file db) same may)).alone;
      }

  -- the same of what cutting the log answers
  pub stands_behind : (result : Result (Files D) SqlFault) → IfOk result (λ left. g.seen left.log ≡ []) → IfOk result (λ left. left.db ≡ files.db) → IfOk result (λ left. IsTrue (g.is_clean left.log) → IsTrue (g.is_clean files.log))
      → IfOk result (λ left. AreClean g left.log left.db → StandsAlone c left)
  stands_behind (Ok left) empty same clean = stands left empty same clean
  stands_behind (Err fault) empty same clean = tt
