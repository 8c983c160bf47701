-- On which keepers a cluster starts, in which state, and what an unsuccessful start leaves.
--     is_misfit                  a schema, or a last version, that no cluster has
--     IsSoundRow held e          the row is one that a state with these rows may have
--     IsUndamaged held           each row is
--     rows_behind k held         the rows behind a key, as a keeper gives them one behind the other
--     IsDamagedAt held row       the first damaged row, counted from 1, or 0 for what the keeper says of itself
--     row_at, key_at             the row of such a number, where it is there;  its key
--     IsDamageOf held row d      what is damaged of it, of the ways in the order in which they are tried
--     IfDamaged, IfDamage        a fact for a damaged row;  for what is damaged of it
--     IfWhole                    a fact for any other fault
--     Tells held row d key       the first damaged row, what is damaged of it, and its key
--     IsUntouched                a keeper was asked, and holds what it held
--     AreRowsUndamaged           the rows of a valid state are undamaged
--     RowsTellState              they are those of no other one with the same window
-- A row that only a later version of the program can read is damaged, too.
use Rattle.std.specs.Prelude.{◌≡◌, ◌≢◌, ◌≤◌, ◌<◌, ◌⊎◌, ℕ, zero, suc, Bool, true, false, not, ◌||◌, ◌==◌, nat_lt, List, [], ◌∷◌, take, drop, filter, Option, Some, None, IsSome, IsSomeAnd}
use Rattle.std.specs.List.{AllByRecursion}
use Rattle.std.specs.Option.{option_map, option_map_or}
use Rattle.std.specs.Ordering.{is_lt}
use Rattle.std.specs.FinMap as map
use Rattle.hx_object.specs.Kinds.{is_in_cluster}
use Rattle.hx_object.specs.Texts.{bytes_cmp}
use Rattle.hx_object.specs.declared.object.Id.{Id}
use Rattle.hx_object.specs.declared.object.Object.{Object}
use Rattle.hx_ports.specs.Keeping.{Kept, Rows, meta_of, greatest_version}
use Rattle.hx_ports.specs.Rows.{Entry}
use Rattle.hx_ports.specs.Views.{KeeperView, HoldsOn}
use Rattle.hx_ports.specs.declared.keeper.Meta.{Meta}
use Rattle.hx_model.specs.State.{State, namespace_id}
use Rattle.hx_model.specs.Texts.{key_text, stored_entry}
use Rattle.hx_model.specs.Valid.{IsStored, IsValid}
use Rattle.hx_core.specs.declared.damage.Damage.{Damage}
use Rattle.hx_core.specs.declared.damage.Damage.TheVariants.{Schema, LastVersion, Missing, Surplus, KeyOrder, RowVersion, NoObject, NoNamespace}
use Rattle.hx_core.specs.declared.start.StartFault.{StartFault}
use Rattle.hx_core.specs.declared.start.StartFault.TheVariants.{KeeperFault, Damaged, NoMemory}
use Rattle.hx_core.specs.Refinement.{kept_of}
use Rattle.hx_core.specs.Rows.{current_schema}

-- ---- what is kept

-- the schema isn't that of the rows, or the last version is past the greatest
abbrev pub is_misfit : Meta → Bool
is_misfit meta = not (meta.schema == current_schema) || nat_lt greatest_version meta.version

-- the namespace that an identity lies in has a row, where its kind has one
abbrev pub has_home_row : Rows → Id → Bool
has_home_row rows id = is_in_cluster id.kind || map.contains_key rows (key_text (namespace_id id.ns))

-- The row of an object that may be stored: its version was given out, and its namespace has a row
pub record IsSoundRow (held : Kept) (e : Entry) : Type 0 where
  pub object : Object
  pub stored : IsStored held.version object
  pub row : stored_entry object ≡ e
  pub home : has_home_row held.rows object.id ≡ true

-- each row is such a row
pub record IsUndamaged (held : Kept) : Type 0 where
  pub fits : is_misfit (meta_of held) ≡ false
  pub sound : AllByRecursion (IsSoundRow held) (map.entries held.rows)

-- ---- damage

-- the rows behind a key
abbrev pub rows_behind : List ℕ → Kept → List Entry
rows_behind key held = filter (λ e. is_lt (bytes_cmp key e.0)) (map.entries held.rows)

-- The rows as they are given one behind the other, from the empty key on: one that has the empty key itself is never given, so that the last one is missing
abbrev pub given_rows : Kept → List Entry
given_rows held = rows_behind [] held

-- the next row is missing, or no sound one
abbrev pub IsUnsoundNext : Kept → List Entry → Type 0
IsUnsoundNext held [] = Unit {0}
IsUnsoundNext held (e ∷ rest) = IsSoundRow held e → ⊥

-- so many rows are sound, of more, and the next one is missing or isn't
pub record IsFirstUnsound (held : Kept) (before : ℕ) : Type 0 where
  pub within : before < map.len held.rows
  pub sound : AllByRecursion (IsSoundRow held) (take before (given_rows held))
  pub next : IsUnsoundNext held (drop before (given_rows held))

-- the first damaged row
abbrev pub IsDamagedAt : Kept → ℕ → Type 0
IsDamagedAt held zero = is_misfit (meta_of held) ≡ true
IsDamagedAt held (suc before) = (is_misfit (meta_of held) ≡ false) × IsFirstUnsound held before

-- ---- what is damaged

abbrev pub next_row : List Entry → Option Entry
next_row [] = None
next_row (e ∷ rest) = Some e

-- the row of a number, counted from 1, where it is there
abbrev pub row_at : Kept → ℕ → Option Entry
row_at held zero = None
row_at held (suc before) = next_row (drop before (given_rows held))

-- its key
abbrev pub key_at : Kept → ℕ → Option (List ℕ)
key_at held row = option_map (λ (e : Entry). e.0) (row_at held row)

-- the key of the row before it, or the empty one
abbrev pub key_before : Kept → ℕ → List ℕ
key_before held zero = []
key_before held (suc before) = option_map_or (λ (e : Entry). e.0) (row_at held before) []

-- the row is that of an object that may be stored
pub record IsRowOfObject (held : Kept) (e : Entry) (x : Object) : Type 0 where
  pub stored : IsStored held.version x
  pub row : stored_entry x ≡ e

-- What is damaged of a row that is there, behind a key: its key isn't behind that one; its version is 0 or past the last one; its version was given out and it is no object's; or it is an object's, whose namespace has no row
abbrev pub IsRowDamage : Kept → List ℕ → Entry → Damage → Type 0
IsRowDamage held before e KeyOrder = is_lt (bytes_cmp before e.0) ≡ false
IsRowDamage held before e RowVersion = (e.1.0 ≡ 0) ⊎ (held.version < e.1.0)
IsRowDamage held before e NoObject = (1 ≤ e.1.0) × (e.1.0 ≤ held.version) × ((x : Object) → IsRowOfObject held e x → ⊥)
IsRowDamage held before e NoNamespace = (x : Object) × IsRowOfObject held e x × (has_home_row held.rows x.id ≡ false)
IsRowDamage held before e _ = ⊥

-- What is damaged: the schema isn't that of the rows; it is, and the last version is past the greatest; a row that is counted is missing; a row is there that isn't counted; or what is damaged of the row itself
abbrev pub IsDamageOf : Kept → ℕ → Damage → Type 0
IsDamageOf held row Schema = (row ≡ 0) × (held.schema ≢ current_schema)
IsDamageOf held row LastVersion = (row ≡ 0) × (held.schema ≡ current_schema) × (greatest_version < held.version)
IsDamageOf held row Missing = (1 ≤ row) × (row ≤ map.len held.rows) × (row_at held row ≡ None)
IsDamageOf held row Surplus = (map.len held.rows < row) × IsSome (row_at held row)
IsDamageOf held row damage = IsSomeAnd (row_at held row) (λ e. IsRowDamage held (key_before held row) e damage)

-- the first damaged row, what is damaged of it, and its key, where it is there
pub record Tells (held : Kept) (row : ℕ) (damage : Damage) (key : Option (List ℕ)) : Type 0 where
  pub first : IsDamagedAt held row
  pub damaged : IsDamageOf held row damage
  pub named : key ≡ key_at held row

-- ---- starts

-- a fact for a damaged row
abbrev pub IfDamaged : StartFault → (ℕ → Type 0) → Type 0
IfDamaged KeeperFault P = Unit {0}
IfDamaged (Damaged row damage) P = P row
IfDamaged NoMemory P = Unit {0}

-- a fact for what is damaged of it
abbrev pub IfDamage : StartFault → (ℕ → Damage → Type 0) → Type 0
IfDamage KeeperFault P = Unit {0}
IfDamage (Damaged row damage) P = P row damage
IfDamage NoMemory P = Unit {0}

-- a fact where nothing is damaged
abbrev pub IfWhole : StartFault → Type 0 → Type 0
IfWhole KeeperFault P = P
IfWhole (Damaged row damage) P = Unit {0}
IfWhole NoMemory P = P

-- a keeper was asked: it shows what it showed, but for a count that may have risen
pub record IsUntouched (old new : KeeperView) : Type 0 where
  pub same : HoldsOn old new
  pub later : old.faults ≤ new.faults

-- ---- the rows of a state

-- the rows of a valid state are undamaged
abbrev pub AreRowsUndamaged : Type 0
AreRowsUndamaged = (s : State) → IsValid s → IsUndamaged (kept_of s)

-- two valid states of the same rows are one, under one configuration and with one window of events
abbrev pub RowsTellState : Type 0
RowsTellState = (s t : State) → IsValid s → IsValid t → s.config ≡ t.config → s.window ≡ t.window → kept_of s ≡ kept_of t → s ≡ t
