-- Selectors that are made ready to be asked of many objects: what all requirements of one key ask is put together.
--     meets demand label               whether the label of a key is as its demand asks, or may be missing
--     meets_at demands key label       the same of a key, by the demands on all keys
--     asked needs key label            the same by the requirements
--     are_met demands labels           whether each label is as asked
--     wanted demands                   how many keys have to be there, by what is asked of each
--     found demands labels             how many labels have such a key
--     AreDemandsOf needs demands       the demands ask what the requirements ask
--     IsReady needs demands count      so they do, one for each key, and so many keys have to be there
use Rattle.std.specs.Prelude.{◌≡◌, ℕ, ◌+◌, Bool, true, false, not, ◌&&◌, ◌||◌, List, [], ◌∷◌, Option, Some, None, if◌then◌else◌}
use Rattle.std.specs.List.{list_all}
use Rattle.std.specs.List.Sorted.{IsStrictlySortedBy}
use Rattle.std.specs.Map.{keys_of, lookup, values_of}
use Rattle.std.specs.Str.{bytes_eq}
use Rattle.hx_object.specs.Texts.{bytes_cmp}
use Rattle.hx_select.specs.declared.demand.Demand.{Demand}
use Rattle.hx_select.specs.declared.selector.Requirement.{Requirement}
use Rattle.hx_select.specs.Selectors.{holds_for, is_among}

-- whether a value is among those that are allowed, where they are limited
abbrev pub is_allowed : Option (List (List ℕ)) → List ℕ → Bool
is_allowed None value = true
is_allowed (Some values) value = is_among value values

-- whether the label of a key is as asked, or may be missing
abbrev pub meets : Demand → Option (List ℕ) → Bool
meets demand None = not demand.is_wanted
meets demand (Some value) = is_allowed demand.allowed value && not (is_among value demand.excluded)

-- the same where something is asked of the key or nothing
abbrev pub meets_by : Option Demand → Option (List ℕ) → Bool
meets_by None label = true
meets_by (Some demand) label = meets demand label

-- the same of a key, by the demands on all keys
abbrev pub meets_at : List (List ℕ × Demand) → List ℕ → Option (List ℕ) → Bool
meets_at demands key label = meets_by (lookup (bytes_eq key) demands) label

-- whether a requirement is of another key, or holds for the label of this one
abbrev pub asks : Requirement → List ℕ → Option (List ℕ) → Bool
asks need key label = not (bytes_eq need.key key) || holds_for need.test label

-- whether all requirements of a key hold for its label
abbrev pub asked : List Requirement → List ℕ → Option (List ℕ) → Bool
asked needs key label = list_all (λ need. asks need key label) needs

-- whether each label is as asked
abbrev pub are_met : List (List ℕ × Demand) → List (List ℕ × List ℕ) → Bool
are_met demands labels = list_all (λ label. meets_at demands label.0 (Some label.1)) labels

-- whether a key has to be there
abbrev pub wants : Option Demand → Bool
wants None = false
wants (Some demand) = demand.is_wanted

-- whether the key of a label has to be there, where its value is as asked
abbrev pub given : Option Demand → List ℕ → Option Bool
given demand value = if meets_by demand (Some value) then Some (wants demand) else None

abbrev pub one : Bool → ℕ
one true = 1
one false = 0

-- how many keys have to be there, by what is asked of each
abbrev pub wanted : List Demand → ℕ
wanted [] = 0
wanted (demand ∷ demands) = one demand.is_wanted + wanted demands

-- how many labels have such a key
abbrev pub found : List (List ℕ × Demand) → List (List ℕ × List ℕ) → ℕ
found demands [] = 0
found demands (label ∷ labels) = one (wants (lookup (bytes_eq label.0) demands)) + found demands labels

-- the keys ascend
abbrev pub AreOrdered : List (List ℕ × Demand) → Type 0
AreOrdered demands = IsStrictlySortedBy bytes_cmp (keys_of demands)

-- the demands ask of each key what the requirements ask of it
abbrev pub AreDemandsOf : List Requirement → List (List ℕ × Demand) → Type 0
AreDemandsOf needs demands = (key : List ℕ) (label : Option (List ℕ)) → meets_at demands key label ≡ asked needs key label

-- the demands are those of the requirements, one for each key, and so many keys have to be there
pub record IsReady (needs : List Requirement) (demands : List (List ℕ × Demand)) (count : ℕ) : Type 0 where
  pub same : AreDemandsOf needs demands
  pub order : AreOrdered demands
  pub number : count ≡ wanted (values_of demands)
