-- What a keeper of rows holds, and what its calls do to it.
--     Rows, Kept            the rows by their keys;  with the schema and the last version
--     row_of_entry          a row of the map
--     first_behind, row_after      the first row behind a key;  of what is held
--     with_batch            what is held after a batch
--     keys_of               the keys that a batch writes
--     IsBatch, MayFollow    what a batch has to be;  and over what is held
--     Lands                 the batch landed, where the rows are told
--     meta_of               what `meta` says of what is held
use Rattle.std.specs.Prelude.{◌≡◌, ℕ, ◌+◌, ◌-◌, ◌^◌, ◌≤◌, true, List, [], ◌∷◌, ◌++◌, map as each, find as find_first}
use Rattle.std.specs.Option.{option_map}
use Rattle.std.specs.Ordering.{is_lt, eq_by_cmp}
use Rattle.std.specs.declared.option.Option.{Option}
use Rattle.std.specs.List.{AllByRecursion, IsDistinct}
use Rattle.std.specs.FinMap as map
use Rattle.hx_object.specs.Faults.{IsLegal}
use Rattle.hx_object.specs.Json.{object_text}
use Rattle.hx_object.specs.Texts.{bytes_cmp}
use Rattle.hx_object.specs.declared.object.Id.{Id}
use Rattle.hx_object.specs.declared.object.Object.{Object}
use Rattle.hx_model.specs.Texts.{key_text}
use Rattle.hx_ports.specs.declared.keeper.Row.{Row}
use Rattle.hx_ports.specs.declared.keeper.Batch.{Batch}
use Rattle.hx_ports.specs.declared.keeper.Meta.{Meta}

-- the rows, from keys in the order of bytes to versions and bodies
abbrev pub Rows : Type 0
Rows = map.FinMap bytes_cmp (ℕ × List ℕ)

-- what a keeper holds
pub record Kept : Type 0 where
  pub schema : ℕ
  pub version : ℕ
  pub rows : Rows

-- a row, by its key and what the map has there
abbrev pub row_of_entry : List ℕ × (ℕ × List ℕ) → Row
row_of_entry e = record { key = e.0; version = e.1.0; body = e.1.1 }

-- the first of the rows whose key is greater
abbrev pub first_behind : List ℕ → Rows → Option Row
first_behind after rows = option_map row_of_entry (find_first (λ e. is_lt (bytes_cmp after e.0)) (map.entries rows))

-- the first row that is kept whose key is greater
abbrev pub row_after : List ℕ → Kept → Option Row
row_after after kept = first_behind after kept.rows

-- the rows with those of objects, the first one first: each has its object's key, version and text
abbrev pub with_puts : List Object → Rows → Rows
with_puts [] rows = rows
with_puts (x ∷ puts) rows = with_puts puts (map.insert rows (key_text x.id) (x.version, object_text x))

-- the rows without those of some identities
abbrev pub with_cuts : List Id → Rows → Rows
with_cuts [] rows = rows
with_cuts (id ∷ cuts) rows = with_cuts cuts (map.remove rows (key_text id))

-- what is held after a batch: its version, and the rows with the puts and without the cuts
abbrev pub with_batch : Batch → Kept → Kept
with_batch batch kept = record { schema = kept.schema; version = batch.version; rows = with_cuts batch.cuts (with_puts batch.puts kept.rows) }

-- the keys that a batch writes: of what it puts, and then of what it cuts
abbrev pub keys_of : Batch → List (List ℕ)
keys_of batch = each (λ (x : Object). key_text x.id) batch.puts ++ each key_text batch.cuts

-- the greatest version
abbrev pub greatest_version : ℕ
greatest_version = 2 ^ 63 - 1

-- an object that is put is legal, and its version isn't too great
pub record IsPut (x : Object) : Type 0 where
  pub legal : IsLegal x
  pub version : x.version ≤ greatest_version

-- a batch of such objects, no key of which stands twice
pub record IsBatch (batch : Batch) : Type 0 where
  pub distinct : IsDistinct (eq_by_cmp bytes_cmp) (keys_of batch)
  pub version : batch.version ≤ greatest_version
  pub puts : AllByRecursion IsPut batch.puts

-- a batch may be put to a keeper that holds this: its version is the next one, and what it cuts is there
pub record MayFollow (batch : Batch) (kept : Kept) : Type 0 where
  pub next : batch.version ≡ kept.version + 1
  pub there : AllByRecursion (λ id. map.contains_key kept.rows (key_text id) ≡ true) batch.cuts

-- the batch landed, where the rows are told
abbrev pub Lands : Batch → Option Kept → Option Kept → Type 0
Lands batch old new = new ≡ option_map (with_batch batch) old

-- what `meta` says of what is held
abbrev pub meta_of : Kept → Meta
meta_of kept = record { schema = kept.schema; version = kept.version; rows = map.len kept.rows }
