-- Where rows are.
--     path_in     the path of a place, where there is one
use Rattle.std.specs.Prelude.{ℕ, List, Option, option_map, string_bytes}
use Rattle.hx_sqlite.specs.declared.place.Place.{Place}

-- the path of a place, where there is one
abbrev pub path_in : Option Place → Option (List ℕ)
path_in place = option_map (λ p. string_bytes p.path) place
