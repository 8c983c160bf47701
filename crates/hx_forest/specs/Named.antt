-- Values under names.
--     Named V                     each value under its name, in ascending order of names
--     with_value, without_value   with a value in its place;  without that of a name
--     with_changed                with the value of a name changed
--     values_from                 the values in order, of values in any order
use Rattle.std.specs.Prelude.{ℕ, not, List, [], ◌∷◌, map, filter, if◌then◌else◌}
use Rattle.std.specs.Str.{bytes_eq}
use Rattle.std.specs.FinMap.Entries.{put}
use Rattle.hx_object.specs.Texts.{bytes_cmp}

-- each value under its name, in ascending order of names
abbrev pub Named : Type 0 → Type 0
Named V = List (List ℕ × V)

-- with a value in its place, instead of one of its name
abbrev pub with_value : {V : Type 0} → List ℕ → V → Named V → Named V
with_value n v vs = put bytes_cmp n v vs

-- without the value of a name
abbrev pub without_value : {V : Type 0} → List ℕ → Named V → Named V
without_value n vs = filter (λ e. not (bytes_eq n e.0)) vs

-- with the value of a name changed, where it is there
abbrev pub with_changed : {V : Type 0} → List ℕ → (V → V) → Named V → Named V
with_changed n change vs = map (λ e. (e.0, if bytes_eq n e.0 then change e.1 else e.1)) vs

-- the values in order: of two with one name the first one counts
abbrev pub values_from : {V : Type 0} → List (List ℕ × V) → Named V
values_from [] = []
values_from (e ∷ es) = with_value e.0 e.1 (values_from es)
