-- What lies on a table of names: slots in a row, of which the first ones show what they have.
--     seen form             the name of a slot, with the object that it has
--     same_name a b         slots of one name
--     emptied slot          the name, without the object
--     as_shown shown slots  the places of a table of names, with their names: as many as are shown hold what their slots have, the others are empty
use Rattle.std.specs.Prelude.{ℕ, zero, suc, Bool, List, [], ◌∷◌, Option, Some, None, map}
use Rattle.std.specs.Str.{bytes_eq}
use Rattle.hx_object.specs.declared.object.Object.{Object}
use Rattle.hx_store.specs.declared.slot.Form.{Form}
use Rattle.hx_store.specs.declared.slot.Form.TheVariants.{Own, Apart}

-- a name, with an object or none
abbrev pub Entry : Type 0
Entry = List ℕ × Option Object

-- the name of a slot, with the object that it has
abbrev pub seen : Form → Entry
seen (Own x) = (x.id.name, Some x)
seen (Apart label) = (label.value.name, label.value.object)

-- slots of one name
abbrev pub same_name : Entry → Entry → Bool
same_name a b = bytes_eq a.0 b.0

-- the name, without the object
abbrev pub emptied : Entry → Entry
emptied e = (e.0, None)

-- the places of a table of names: the first ones hold what their slots have, the others are empty
abbrev pub as_shown : ℕ → List Entry → List Entry
as_shown zero slots = map emptied slots
as_shown (suc shown) [] = []
as_shown (suc shown) (e ∷ slots) = e ∷ as_shown shown slots
