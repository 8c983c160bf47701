-- The object of the least name among those in places.
--     is_less a b              one name is less than another
--     lesser best entry        of an object with its name, and what a place holds, the one of the lesser name
--     least_entry best entries the one of the least name among all
--     Descends names           no name is less than one behind it
--     IsLeast at object        the object is that of the least name where objects are found so, or none is found
use Rattle.std.specs.Prelude.{◌≡◌, ℕ, Bool, false, cond, List, [], ◌∷◌, Option, Some, None}
use Rattle.std.specs.List.{AllByRecursion}
use Rattle.std.specs.Ordering.{is_lt}
use Rattle.hx_object.specs.Texts.{bytes_cmp}
use Rattle.hx_object.specs.declared.object.Object.{Object}

-- one name is less than another
abbrev pub is_less : List ℕ → List ℕ → Bool
is_less a b = is_lt (bytes_cmp a b)

-- no name is less than one behind it
abbrev pub Descends : List (List ℕ) → Type 0
Descends [] = Unit {0}
Descends (name ∷ names) = AllByRecursion (λ other. is_less name other ≡ false) names × Descends names

-- an object with its name
abbrev pub Named : Type 0
Named = List ℕ × Object

-- the one of the lesser name: of an object that was found before, and what a place holds
abbrev pub lesser : Option Named → List ℕ × Option Object → Option Named
lesser best (name, None) = best
lesser None (name, Some x) = Some (name, x)
lesser (Some named) (name, Some x) = cond (is_less name named.0) (Some (name, x)) (Some named)

-- the one of the least name among all
abbrev pub least_entry : Option Named → List (List ℕ × Option Object) → Option Named
least_entry best [] = best
least_entry best (e ∷ entries) = least_entry (lesser best e) entries

-- no name of an object that is found is less
abbrev pub IsLeast : (List ℕ → Option Object) → Option Object → Type 0
IsLeast at None = (name : List ℕ) → at name ≡ None
IsLeast at (Some x) = (name : List ℕ) × (at name ≡ Some x) × ((other : List ℕ) (y : Object) → at other ≡ Some y → is_lt (bytes_cmp other name) ≡ false)
