-- Keys that were marked as a whole: those of some objects' kinds and names, in all namespaces of a reach.
--     Scope, SpreadView     a namespace, and those of its subtree that its keys are marked in;  the objects whose keys were marked there
--     place_keys, keys_in   the keys of an object's kind and name in some namespaces;  those of some objects in a reach
--     root_of, outdated     the namespace at the top, while a reach is current;  a reach that isn't any more
--     waiting_in            the keys in line, and those behind them that were marked as a whole
--     is_place_of, is_spread    a key is of an object's kind and name;  of those of some objects
--     HasPlace              one more object's keys may be marked as a whole
--     IsSpread              what is kept
use Rattle.std.specs.Prelude.{◌≡◌, ◌≤◌, ◌+◌, ◌*◌, ◌==◌, ℕ, Bool, false, not, ◌&&◌, List, [], ◌∷◌, ◌++◌, Option, None, Some, filter, flat_map, map, option_map, length, if◌then◌else◌, refl}
use Rattle.std.specs.List.{AllByRecursion, IsDistinct, list_any}
use Rattle.std.specs.Str.{bytes_eq}
use Rattle.std.specs.Coded.{Coded, code_by, coded×, coded_list, coded_ℕ, coded_bool, coded_option}
use Rattle.hx_object.specs.Kinds.{number_of}
use Rattle.hx_object.specs.contracts.object.Id as id
use Rattle.hx_object.specs.contracts.object.IdPartialEq.TheImpl as id_eq
use Rattle.hx_object.specs.declared.object.Id.{Id}
use Rattle.hx_model.specs.Keys.{is_among}
use Rattle.hx_model.specs.declared.key.Key.{Key}
use Rattle.hx_model.specs.declared.key.Key.TheVariants as key

-- a namespace, and those of its subtree that its keys are marked in; it is current while these are those that take part there
pub record Scope : Type 0 where
  pub root : List ℕ
  pub names : List (List ℕ)
  pub current : Bool

-- the objects whose keys were marked in all of the reach, the one whose keys come in line first at the front, and the room for more
pub record SpreadView : Type 0 where
  pub scope : Option Scope
  pub ids : List Id
  pub room : ℕ

-- ---- keys

-- the keys of an object's kind and name, in some namespaces
abbrev pub place_keys : List (List ℕ) → Id → List Key
place_keys names id = map (λ (m : List ℕ). key.Copy m id.kind id.name) names

-- the namespaces of a reach
abbrev pub names_in : Option Scope → List (List ℕ)
names_in None = []
names_in (Some scope) = scope.names

-- the namespace at the top of a reach, while it is current
abbrev pub root_of : Option Scope → Option (List ℕ)
root_of None = None
root_of (Some scope) = if scope.current then Some scope.root else None

-- a reach that isn't current any more
abbrev pub outdated : Option Scope → Option Scope
outdated scope = option_map (λ (r : Scope). record r { current = false }) scope

-- the keys of some objects, in all of a reach
abbrev pub keys_in : Option Scope → List Id → List Key
keys_in scope ids = flat_map (place_keys (names_in scope)) ids

-- the keys in line, and behind them the others that were marked as a whole
abbrev pub waiting_in : List Key → List Key → List Key
waiting_in line spread = line ++ filter (λ k. not (is_among k line)) spread

-- a key is of an object's kind and name, in any namespace
abbrev pub is_place_of : Id → Key → Bool
is_place_of id (key.Copy m kind name) = (number_of kind == number_of id.kind) && bytes_eq id.name name
is_place_of id _ = false

-- a key is of the kind and name of some object
abbrev pub is_spread : List Id → Key → Bool
is_spread ids k = list_any (λ (id : Id). is_place_of id k) ids

-- ---- what is kept

-- as many keys at most are marked as a whole, so that their number is one of a `usize`
abbrev pub most_spread : ℕ
most_spread = 4_294_967_296

-- one more object's keys may be marked as a whole
abbrev pub HasPlace : Option Scope → List Id → Type 0
HasPlace scope ids = (length ids + 1) * length (names_in scope) ≤ most_spread

-- the test of two identities that code has: they are equal
unfoldable pub equal_ids : Id → Id → Bool
equal_ids = (id_eq.ghosts).eq

-- an object is of the namespace that a reach has at its top
abbrev pub IsOf : Option Scope → Id → Type 0
IsOf None id = ⊥
IsOf (Some scope) id = scope.root ≡ id.ns

-- some objects with one behind them, unless it is there
abbrev pub with_id : Id → List Id → List Id
with_id id ids = if list_any (equal_ids id) ids then ids else ids ++ id ∷ []

-- no namespace and no object is there twice; the objects are of the namespace at the top; and the keys aren't too many
pub record IsSpread (scope : Option Scope) (ids : List Id) : Type 0 where
  pub places : IsDistinct bytes_eq (names_in scope)
  pub objects : IsDistinct equal_ids ids
  pub at : AllByRecursion (IsOf scope) ids
  pub most : length ids * length (names_in scope) ≤ most_spread

-- ---- as pairs

abbrev pub scope_code : Coded Scope
scope_code = code_by (List ℕ × (List (List ℕ) × Bool)) (coded× (coded_list coded_ℕ) (coded× (coded_list (coded_list coded_ℕ)) coded_bool)) (λ r. (r.root, (r.names, r.current))) (λ p. record { root = p.0; names = p.1.0; current = p.1.1 }) (λ _. refl)

abbrev pub spread_code : Coded SpreadView
spread_code = code_by (Option Scope × (List Id × ℕ)) (coded× (coded_option scope_code) (coded× (coded_list id.the_row.coded) coded_ℕ)) (λ s. (s.scope, (s.ids, s.room))) (λ p. record { scope = p.0; ids = p.1.0; room = p.1.1 }) (λ _. refl)
