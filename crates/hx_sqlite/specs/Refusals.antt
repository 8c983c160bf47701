-- Why a database refuses a call.
--     fault_of         the fault that a code of the database tells
--     refusal_of       want of memory, or the fault that an error tells
--     refusal_of_kind  want of memory, or the fault that the system tells where it opens or makes no file
--     TellsOfOpening   what is answered where files can't be opened
use Rattle.std.specs.Prelude.{◌≡◌}
use Rattle.std.specs.IoError.{error_kind}
use Rattle.std.specs.declared.io.ErrorKind.{ErrorKind}
use Rattle.std.specs.declared.io.ErrorKind.TheVariants as kind
use Rattle.sqlite.specs.declared.error.Error.{Error}
use Rattle.sqlite.specs.declared.error.Error.TheVariants.{SqliteFailure, SqlInputError}
use Rattle.sqlite.specs.declared.error.ErrorCode.{ErrorCode}
use Rattle.sqlite.specs.declared.error.ErrorCode.TheVariants as code
use Rattle.hx_disk.specs.declared.opening.OpenError.{OpenError}
use Rattle.hx_disk.specs.declared.opening.OpenError.TheVariants as opening
use Rattle.hx_sqlite.specs.declared.fault.Refusal.{Refusal}
use Rattle.hx_sqlite.specs.declared.fault.Refusal.TheVariants.{NoMemory, Fault}
use Rattle.hx_sqlite.specs.declared.fault.SqlFault.{SqlFault}
use Rattle.hx_sqlite.specs.declared.fault.SqlFault.TheVariants.{NotADatabase, Busy, NotAlone, Denied, NoFolder, CannotOpen, HotJournal, Full, Io, Corrupt, Closed, OtherTables, Refused}

-- the fault that a code of the database tells
abbrev pub fault_of : ErrorCode → SqlFault
fault_of code.NotADatabase = NotADatabase
fault_of code.DatabaseBusy = Busy
fault_of code.CannotOpen = CannotOpen
fault_of code.DiskFull = Full
fault_of code.SystemIoFailure = Io
fault_of code.DatabaseCorrupt = Corrupt
fault_of code.Closed = Closed
fault_of other = Refused (SqliteFailure other)

-- want of memory, or the fault that an error tells. The statements are fixed, so that one that isn't understood tells of other tables
abbrev pub refusal_of : Error → Refusal
refusal_of (SqliteFailure code.OutOfMemory) = NoMemory
refusal_of (SqliteFailure other) = Fault (fault_of other)
refusal_of (SqlInputError fault) = Fault OtherTables
refusal_of other = Fault (Refused other)

-- want of memory, or the fault that the system tells where it opens or makes no file. What isn't a regular file with one name is `Unsupported`
abbrev pub refusal_of_kind : ErrorKind → Refusal
refusal_of_kind kind.OutOfMemory = NoMemory
refusal_of_kind kind.StorageFull = Fault Full
refusal_of_kind kind.Unsupported = Fault NotAlone
refusal_of_kind kind.PermissionDenied = Fault Denied
refusal_of_kind kind.ReadOnlyFilesystem = Fault Denied
refusal_of_kind kind.NotFound = Fault NoFolder
refusal_of_kind kind.NotADirectory = Fault NoFolder
refusal_of_kind _ = Fault CannotOpen

-- what is answered where files can't be opened: a lock and a journal are told apart from what the system refuses
abbrev pub TellsOfOpening : OpenError → Refusal → Type 0
TellsOfOpening opening.OutOfMemory refusal = refusal ≡ NoMemory
TellsOfOpening opening.Busy refusal = refusal ≡ Fault Busy
TellsOfOpening opening.HotJournal refusal = refusal ≡ Fault HotJournal
TellsOfOpening (opening.Io error) refusal = refusal ≡ refusal_of_kind (error_kind error)
