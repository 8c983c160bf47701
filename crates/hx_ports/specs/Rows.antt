-- Rows in a list, and rows by their keys, as a map.
--     Entry, entry_of, entries_of      a key with its version and body;  of a row;  of rows
--     rows_of, kept_of                 the map of rows;  what a keeper of them holds
--     is_told, told                    whether a keeper of them tells them;  what it tells
--     rows_over                        rows of a list that aren't in their places yet, over those that are
--     same_key                         two entries have one key
--     HeldRows, rows_in                rows that are kept by their keys, in any order;  the map of them
--     lies_behind, nearer              an entry has a greater key;  of an entry and another the one with the lesser such key
use Rattle.std.specs.Prelude.{ℕ, Bool, List, [], ◌∷◌, map, length, ◌&&◌, nat_eq, if◌then◌else◌, Some, None}
use Rattle.std.specs.declared.option.Option.{Option}
use Rattle.std.specs.FinMap as finite
use Rattle.std.specs.FinMap.{is_sorted}
use Rattle.std.specs.HashSet.{HashSet}
use Rattle.std.specs.Ordering.{is_lt}
use Rattle.std.specs.Str.{bytes_eq}
use Rattle.std.specs.declared.random_state.RandomState.{RandomState}
use Rattle.hx_object.specs.Texts.{bytes_cmp}
use Rattle.hx_ports.specs.declared.keeper.Row.{Row}
use Rattle.hx_ports.specs.declared.keeper.Meta.{Meta}
use Rattle.hx_ports.specs.Keeping.{Rows, Kept}

-- a key, its version and its body
abbrev pub Entry : Type 0
Entry = List ℕ × (ℕ × List ℕ)

-- a row as an entry of the map
abbrev pub entry_of : Row → Entry
entry_of row = (row.key, (row.version, row.body))

-- rows as entries of the map
abbrev pub entries_of : List Row → List Entry
entries_of rows = map entry_of rows

-- the map of the rows. Of those with one key it has the first
abbrev pub rows_of : List Row → Rows
rows_of rows = finite.from_entries (entries_of rows)

-- the map with the entries of a list, of those with one key the first one
abbrev pub onto : List Entry → Rows → Rows
onto [] rows = rows
onto (e ∷ es) rows = finite.insert (onto es rows) e.0 e.1

-- the rows of a list over those of a map
abbrev pub rows_over : List Row → Rows → Rows
rows_over given rows = onto (entries_of given) rows

-- what a keeper of these rows holds
abbrev pub kept_of : List Row → Meta → Kept
kept_of rows meta = record { schema = meta.schema; version = meta.version; rows = rows_of rows }

-- a keeper that was begun with these rows tells them: they ascend by their keys, and `meta` counts them
abbrev pub is_told : List Row → Meta → Bool
is_told rows meta = nat_eq (length rows) meta.rows && is_sorted bytes_cmp (entries_of rows)

-- what it tells
abbrev pub told : List Row → Meta → Option Kept
told rows meta = if is_told rows meta then Some (kept_of rows meta) else None

-- two entries have one key
abbrev pub same_key : Entry → Entry → Bool
same_key e f = bytes_eq e.0 f.0

-- rows that are kept by their keys
abbrev pub HeldRows : Type 0
HeldRows = HashSet Entry RandomState

-- the map of rows that are kept by their keys, in any order
abbrev pub rows_in : HeldRows → Rows
rows_in held = finite.from_entries held.keys

-- an entry has a greater key
abbrev pub lies_behind : List ℕ → Entry → Bool
lies_behind after = λ e. is_lt (bytes_cmp after e.0)

-- of an entry and another the one with the lesser key that is greater
abbrev pub nearer : List ℕ → Option Entry → Entry → Option Entry
nearer after None e = if lies_behind after e then Some e else None
nearer after (Some least) e = if lies_behind after e && is_lt (bytes_cmp e.0 least.0) then Some e else Some least
