-- What the memory holds of a row.
--     key_bytes     the bytes of a row's key, wherever they lie
--     key_front     what a key is hashed by
--     seen          the key, the version and the body
--     IsWritable    an object that was put has a text
use Rattle.std.specs.Prelude.{ℕ, List, take}
use Rattle.hx_object.specs.Faults.{IsLegal}
use Rattle.hx_model.specs.Texts.{stored_entry}
use Rattle.hx_ports.specs.declared.held_row.Form.{Form}
use Rattle.hx_ports.specs.declared.held_row.Form.TheVariants.{Given, Put}
use Rattle.hx_ports.specs.declared.held_row.RowKey.{RowKey}
use Rattle.hx_ports.specs.declared.held_row.RowKey.TheVariants as key
use Rattle.hx_ports.specs.Rows.{Entry, entry_of}

-- the bytes of a row's key, wherever they lie
abbrev pub key_bytes : RowKey → List ℕ
key_bytes (key.Borrowed bytes) = bytes.now
key_bytes (key.Formed bytes) = bytes.items

-- what a key is hashed by: as many first bytes as the key of a legal object has at most
unfoldable pub key_front : List ℕ → List ℕ
key_front key = take 320 key

-- the key, the version and the body
abbrev pub seen : Form → Entry
seen (Given place) = entry_of place.value
seen (Put x) = stored_entry x

-- an object that was put has a text
abbrev pub IsWritable : Form → Type 0
IsWritable (Given place) = Unit {0}
IsWritable (Put x) = IsLegal x
