-- In which store rows are, apart from the place that has them.
--     are_in_file     rows are those of a file, and not of memory alone
--     are_on_disk     rows lie in their file on the disk, and a write would change it
--     names_a_file    a path isn't empty, so that its rows are those of a file
use Rattle.std.specs.Prelude.{ℕ, Bool, true, false, List, [], ◌∷◌}
use Rattle.hx_sqlite.specs.declared.place.Rows.{Rows}
use Rattle.hx_sqlite.specs.declared.place.Rows.TheVariants.{Memory, File, Overlaid}

-- rows are those of a file, and not of memory alone
abbrev pub are_in_file : Rows → Bool
are_in_file (Memory database) = false
are_in_file (File database) = true
are_in_file (Overlaid database) = true

-- rows lie in their file on the disk, and a write would change it. One under an overlay is only read
abbrev pub are_on_disk : Rows → Bool
are_on_disk (Memory database) = false
are_on_disk (File database) = true
are_on_disk (Overlaid database) = false

-- a path isn't empty, so that its rows are those of a file
abbrev pub names_a_file : List ℕ → Bool
names_a_file [] = false
names_a_file (byte ∷ path) = true
