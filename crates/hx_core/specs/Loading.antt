-- What the loading of rows keeps true, row by row.
--     Asked old new r              a keeper was asked for rows: its count rose where it failed
--     HasRowBehind key held        there is a row behind a key
--     IsTakeable s row x           the row is that of an object which the state may take
--     Takes s key row t            the row behind a key was taken
--     IsUntakeable s key row       it can't be
--     IsFlaw s row damage          what keeps a state from taking the object of a row
--     Hinders s key row damage     the same, or that the row doesn't lie behind a key
--     IfUntaken                    a fact for what is damaged
--     IsBehindAll key objects      no object has a key behind this one
--     IsFront held s key count     so many rows were taken, up to this key, and the state has their objects
--     IsLoaded s kept key count    a valid state of them without events, wherever the keeper tells its rows
use Rattle.std.specs.Prelude.{◌≡◌, ◌≤◌, ◌<◌, ◌⊎◌, ℕ, true, false, List, ◌++◌, length, Option, Some, IfSome, IsErrOf, IsUtf8}
use Rattle.std.specs.List.{AllByRecursion}
use Rattle.std.specs.Ordering.{is_lt}
use Rattle.std.specs.FinMap as map
use Rattle.std.specs.declared.result.Result.{Result}
use Rattle.hx_object.specs.Texts.{bytes_cmp}
use Rattle.hx_object.specs.declared.object.Object.{Object}
use Rattle.hx_ports.specs.Causes.{Rose}
use Rattle.hx_ports.specs.Keeping.{Kept, meta_of, row_after}
use Rattle.hx_ports.specs.Rows.{Entry, entry_of}
use Rattle.hx_ports.specs.Views.{KeeperView, HoldsOn}
use Rattle.hx_ports.specs.declared.keeper.Row.{Row}
use Rattle.hx_model.specs.State.{State, Objects, put, has_home}
use Rattle.hx_model.specs.Texts.{key_text, stored_entry, rows_of_objects}
use Rattle.hx_model.specs.Valid.{IsValid, IsStored}
use Rattle.hx_model.specs.Windows.{opened}
use Rattle.hx_core.specs.declared.damage.Damage.{Damage}
use Rattle.hx_core.specs.declared.damage.Damage.TheVariants.{KeyOrder, RowVersion, NoObject, NoNamespace}
use Rattle.hx_core.specs.declared.start.StartFault.{StartFault}
use Rattle.hx_core.specs.declared.start.StartFault.TheVariants.{KeeperFault}
use Rattle.hx_core.specs.declared.start.Untaken.{Untaken}
use Rattle.hx_core.specs.declared.start.Untaken.TheVariants.{Damaged, NoMemory}
use Rattle.hx_core.specs.Starting.{IsSoundRow, is_misfit, rows_behind, given_rows}

-- a keeper was asked: it holds what it held, and its count rose where it failed, and stayed where it didn't
pub record Asked {T : Type 0} (old new : KeeperView) (result : Result T StartFault) : Type 0 where
  pub same : HoldsOn old new
  pub later : old.faults ≤ new.faults
  pub failed : IsErrOf result KeeperFault → Rose old.faults new.faults
  pub still : (IsErrOf result KeeperFault → ⊥) → new ≡ old

-- there is a row behind the key
abbrev pub HasRowBehind : List ℕ → Kept → Type 0
HasRowBehind key held = (row : Row) × (Some row ≡ row_after key held)

-- the row is that of an object which the state may take: one that may be stored, and whose namespace is there
pub record IsTakeable (s : State) (row : Row) (x : Object) : Type 0 where
  pub stored : IsStored s.last x
  pub entry : stored_entry x ≡ entry_of row
  pub home : has_home s.objects x.id ≡ true

-- the row lies behind a key, and its object was taken into the state
pub record Takes (s : State) (key : List ℕ) (row : Row) (t : State) : Type 0 where
  pub behind : is_lt (bytes_cmp key row.key) ≡ true
  pub object : Object
  pub takes : IsTakeable s row object
  pub after : t ≡ record s { objects = put object s.objects }

-- the row doesn't lie behind a key, or is of no object which the state may take
abbrev pub IsUntakeable : State → List ℕ → Row → Type 0
IsUntakeable s key row = is_lt (bytes_cmp key row.key) ≡ true → (x : Object) → IsTakeable s row x → ⊥

-- its version is 0 or past the last one; no object has it; or its object's namespace isn't there
abbrev pub IsFlaw : State → Row → Damage → Type 0
IsFlaw s row RowVersion = (row.version ≡ 0) ⊎ (s.last < row.version)
IsFlaw s row NoObject = (1 ≤ row.version) × (row.version ≤ s.last) × ((x : Object) → IsStored s.last x → stored_entry x ≡ entry_of row → ⊥)
IsFlaw s row NoNamespace = (x : Object) × IsStored s.last x × (stored_entry x ≡ entry_of row) × (has_home s.objects x.id ≡ false)
IsFlaw s row _ = ⊥

-- the row doesn't lie behind a key, or has such a flaw
abbrev pub Hinders : State → List ℕ → Row → Damage → Type 0
Hinders s key row KeyOrder = is_lt (bytes_cmp key row.key) ≡ false
Hinders s key row damage = IsFlaw s row damage

-- a fact for what is damaged of a row that isn't taken
abbrev pub IfUntaken : Untaken → (Damage → Type 0) → Type 0
IfUntaken (Damaged damage) P = P damage
IfUntaken NoMemory P = Unit {0}

-- no object has a key behind this one
abbrev pub IsBehindAll : List ℕ → Objects → Type 0
IsBehindAll key objects = AllByRecursion (λ (x : Object). is_lt (bytes_cmp key (key_text x.id)) ≡ false) objects

-- so many rows were taken, up to this key: they are sound, and the state has their objects
pub record IsFront (held : Kept) (s : State) (key : List ℕ) (count : ℕ) : Type 0 where
  pub taken : List Entry
  pub fits : is_misfit (meta_of held) ≡ false
  pub version : s.last ≡ held.version
  pub splits : given_rows held ≡ taken ++ rows_behind key held
  pub counts : length taken ≡ count
  pub sound : AllByRecursion (IsSoundRow held) taken
  pub rows : rows_of_objects s.objects ≡ map.from_entries taken

-- a valid state of so many rows, wherever the keeper tells them. It has no events
pub record IsLoaded (s : State) (kept : Option Kept) (key : List ℕ) (count : ℕ) : Type 0 where
  pub text : IsUtf8 key
  pub valid : IsValid s
  pub fresh : s.window ≡ opened s.last
  pub last : IsBehindAll key s.objects
  pub front : IfSome kept (λ held. IsFront held s key count)
