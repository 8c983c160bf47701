-- What is read of a range of a file.
use Rattle.std.proofs.Common.{◌≡◌, ◌<◌, ◌+◌, ◌-◌, ℕ, List, ◌++◌, length, min, sym, ◌∙◌, arith, length-append}
use Rattle.std.proofs.lemmas.List.{get_or_append_left}
use Rattle.sqlite_disk.specs.Disk.{Holds}
use Rattle.hx_overlay.specs.Changes.{HasOf}

-- a range whose first bytes are those that the file has there, as many as it has
pub part_read : (file got rest : List ℕ) (len at there : ℕ) → length got ≡ there → there ≡ min (len - at) (there + length rest) → Holds file at got → HasOf len at file (got ++ rest)
part_read file got rest len at there many least holds i within low =
    let early : i < length got = omega (arith, length-append got rest) in
    get_or_append_left got rest 0 i early ∙ sym (holds.each i early)
