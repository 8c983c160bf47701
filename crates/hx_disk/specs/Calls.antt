-- The calls of a file, as a model of a disk reads them.
--     number_of       the number of a call in the model's list
--     event_of        a call with its answer, as the model has it
--     noted_before    a note as numbers, before those of earlier notes
--     recorded        all calls of a record, the newest first
use Rattle.std.specs.Prelude.{ℕ, Bool, ◌==◌, if◌then◌else◌, List, [], ◌∷◌, take, drop}
use Rattle.sqlite_disk.specs.Events.{Event}
use Rattle.hx_disk.specs.declared.record.Call.{Call}
use Rattle.hx_disk.specs.declared.record.Call.TheVariants.{Settled, Measured, Read, Written, Cut, Synced, Tested}
use Rattle.hx_disk.specs.declared.record.Note.{Note}
use Rattle.hx_disk.specs.declared.record.Record.{Record}

-- the number of a call in the model's list
abbrev pub number_of : Call → ℕ
number_of Settled = 0
number_of Measured = 1
number_of Read = 2
number_of Written = 3
number_of Cut = 4
number_of Synced = 5
number_of Tested = 6

-- a call with its answer; a tested read has its key and its digest before its bytes
abbrev pub event : ℕ → ℕ → ℕ → Bool → ℕ → ℕ → List ℕ → Event
event call at count is_ok key want bytes = (call, at, count, is_ok, if call == 6 then key ∷ want ∷ bytes else bytes)

-- the same of a note and its bytes
abbrev pub event_of : Note → List ℕ → Event
event_of note bytes = event (number_of note.call) note.at note.count note.is_ok note.key note.want bytes

-- a note as numbers, before those of earlier notes
abbrev pub noted_before : Note → ℕ → List ℕ → List ℕ
noted_before note length earlier = number_of note.call ∷ note.at ∷ note.count ∷ (if note.is_ok then 1 else 0) ∷ note.key ∷ note.want ∷ length ∷ earlier

-- the calls that are noted so, whose bytes lie one behind the other
abbrev pub events_of : List ℕ → List ℕ → List Event
events_of (call ∷ at ∷ count ∷ ok ∷ key ∷ want ∷ length ∷ notes) bytes =
    event call at count (ok == 1) key want (take length bytes) ∷ events_of notes (drop length bytes)
events_of _ bytes = []

-- all calls of a record, the newest first
abbrev pub recorded : Record → List Event
recorded record_of_calls = events_of record_of_calls.notes.numbers record_of_calls.bytes.numbers
