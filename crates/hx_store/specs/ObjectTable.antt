-- Where a store keeps its objects: by kind, then by namespace, then by name. A place holds an object, or is empty.
--     entries_of names           the places of one kind and namespace, with their names: none, one, those of a list of names, or those of a table of names
--     place_in names name        the place of a name, among those;  place_along list name, along a list of names;  place_on table name, on a table of names;  entries_on table, all on a table of names
--     HasNoOther at name         where places are found so, there is none of another name
--     place_of table ns name   the place of a namespace and a name, among the objects of one kind
--     place_at places id         the place of an identity
--     found place                the object in a place, where there is one
--     EditsNameMap g old new name  the place of one name changes by g, and every other stays
--     made, added, filled, swept how a place changes: it is there;  it is there, and holds this if it is new;  it holds this;  it is gone if it is empty
--     objects_in, objects_of     the objects of one kind and namespace;  of one kind
--     objects_at places          all objects, in the order of their identities
--     IsReady places staged      what a store keeps true: each object is in its place, each staged write has its place, and no place is empty but those
use Rattle.std.specs.Prelude.{◌≡◌, ◌≢◌, ℕ, ◌-◌, Bool, true, false, ◌&&◌, cond, List, [], ◌∷◌, Option, Some, None, IsSome, not, option_and_then, length, take}
use Rattle.std.specs.List.{IsDistinct, flat_map, list_any, slice_get}
use Rattle.std.specs.Map.{keys_of, lookup, values_of}
use Rattle.std.specs.HashMap.{get}
use Rattle.std.specs.Option.{option_map_or}
use Rattle.std.specs.Str.{bytes_eq}
use Rattle.hx_object.specs.Kinds.{number_of}
use Rattle.hx_object.specs.declared.kind.Kind.{Kind}
use Rattle.hx_object.specs.declared.object.Id.{Id}
use Rattle.hx_object.specs.declared.object.Object.{Object}
use Rattle.hx_model.specs.State.{Objects, objects_from, same_id}
use Rattle.hx_model.specs.declared.key.Write.{Write}
use Rattle.hx_model.specs.declared.key.Write.TheVariants.{Put, Cut}
use Rattle.hx_store.specs.Changes.{id_of}
use Rattle.hx_store.specs.Least.{Descends}
use Rattle.hx_store.specs.Slots.{as_shown}
use Rattle.hx_store.specs.declared.name_map.NameMap.{NameMap}
use Rattle.hx_store.specs.declared.name_map.NameMap.TheVariants.{Empty, Held, One, Few, Many}
use Rattle.hx_store.specs.declared.name_list.NameList.{NameList}
use Rattle.hx_store.specs.declared.name_table.NameTable.{NameTable}
use Rattle.hx_store.specs.declared.kind_table.KindTable.{KindTable}
use Rattle.hx_store.specs.declared.object_table.ObjectTable.{ObjectTable}

-- a place: None where it is missing, Some None where it is empty
abbrev pub Place : Type 0
Place = Option (Option Object)

-- the object in a place
abbrev pub found : Place → Option Object
found place = option_and_then (λ o. o) place

-- the places of a table of names, with their names
abbrev pub entries_on : NameTable → List (List ℕ × Option Object)
entries_on name_table = as_shown name_table.shown name_table.places.keys

-- the place of a name on a table of names
abbrev pub place_on : NameTable → List ℕ → Place
place_on name_table name = lookup (bytes_eq name) (entries_on name_table)

-- the place of a name along a list of names
abbrev pub place_along : NameList → List ℕ → Place
place_along name_list name = lookup (bytes_eq name) name_list.places.items

-- the places of a map of names, with their names
abbrev pub entries_of : NameMap → List (List ℕ × Option Object)
entries_of Empty = []
entries_of (Held name) = (name, None) ∷ []
entries_of (One name object) = (name, Some object) ∷ []
entries_of (Few name_list) = name_list.places.items
entries_of (Many name_table) = entries_on name_table.value

-- the place of a name on a map of names
abbrev pub place_in : NameMap → List ℕ → Place
place_in name_map name = lookup (bytes_eq name) (entries_of name_map)

-- the place of a name, where there is but one
abbrev pub place_alone : List ℕ → Option Object → List ℕ → Place
place_alone held place name = cond (bytes_eq name held) (Some place) None

-- the map of names of a namespace
abbrev pub name_map_in : KindTable → List ℕ → Option NameMap
name_map_in kind_table ns = get bytes_eq kind_table.namespaces ns

-- an entry has another name
abbrev pub is_of_another : List ℕ → List ℕ × Option Object → Bool
is_of_another name entry = not (bytes_eq name entry.0)

-- there is no place of another name, where these are the places by their names
abbrev pub HasNoOther : (List ℕ → Place) → List ℕ → Type 0
HasNoOther at name = (other : List ℕ) → bytes_eq name other ≡ false → at other ≡ None

-- the place of a namespace and a name
abbrev pub place_of : KindTable → List ℕ → List ℕ → Place
place_of kind_table ns name = option_and_then (λ name_map. place_in name_map name) (name_map_in kind_table ns)

-- the table of a kind
abbrev pub kind_at : ObjectTable → Kind → Option KindTable
kind_at places kind = slice_get places.kinds (number_of kind - 1)

-- the place of an identity
abbrev pub place_at : ObjectTable → Id → Place
place_at places id = option_and_then (λ kind_table. place_of kind_table id.ns id.name) (kind_at places id.kind)

-- ---- how a place changes

-- it is there, and holds this if it is new
abbrev pub added : Option Object → Place → Place
added o None = Some o
added o (Some held) = Some held

-- it is there, and empty if it is new
abbrev pub made : Place → Place
made place = added None place

-- it holds this, if it is there
abbrev pub filled : Option Object → Place → Place
filled o None = None
filled o (Some _) = Some o

-- it is gone, if it is empty
abbrev pub swept : Place → Place
swept (Some (Some x)) = Some (Some x)
swept _ = None

-- it stays
abbrev pub unchanged : Place → Place
unchanged place = place

-- the place of the name changes so, and every other stays: along a list of names, on a table of names, and on a map of names
abbrev pub EditsNameList : (Place → Place) → NameList → NameList → List ℕ → Type 0
EditsNameList g old new name = (q : List ℕ) → place_along new q ≡ cond (bytes_eq name q) (g (place_along old q)) (place_along old q)

abbrev pub EditsNameTable : (Place → Place) → NameTable → NameTable → List ℕ → Type 0
EditsNameTable g old new name = (q : List ℕ) → place_on new q ≡ cond (bytes_eq name q) (g (place_on old q)) (place_on old q)

abbrev pub EditsNameMap : (Place → Place) → NameMap → NameMap → List ℕ → Type 0
EditsNameMap g old new name = (q : List ℕ) → place_in new q ≡ cond (bytes_eq name q) (g (place_in old q)) (place_in old q)

-- the place of the namespace and the name changes so, and every other stays
abbrev pub EditsKindTable : (Place → Place) → KindTable → KindTable → List ℕ → List ℕ → Type 0
EditsKindTable g old new ns name = (n m : List ℕ) → place_of new n m ≡ cond (bytes_eq ns n && bytes_eq name m) (g (place_of old n m)) (place_of old n m)

-- the place of the identity changes so, and every other stays
abbrev pub EditsObjectTable : (Place → Place) → ObjectTable → ObjectTable → Id → Type 0
EditsObjectTable g old new id = (q : Id) → place_at new q ≡ cond (same_id id q) (g (place_at old q)) (place_at old q)

-- ---- what is kept true

-- the names of the slots that are shown descend, if the table of names says so: on a table of names, and on a map of names
abbrev pub IsInOrder : NameTable → Type 0
IsInOrder name_table = name_table.descends ≡ true → Descends (keys_of (take name_table.shown name_table.places.keys))

abbrev pub AreInOrder : NameMap → Type 0
AreInOrder Empty = Unit {0}
AreInOrder (Held name) = Unit {0}
AreInOrder (One name object) = Unit {0}
AreInOrder (Few name_list) = Unit {0}
AreInOrder (Many name_table) = IsInOrder name_table.value

-- no two places of a map of names have one name
abbrev pub AreDistinct : NameMap → Type 0
AreDistinct name_map = IsDistinct bytes_eq (keys_of (entries_of name_map))

-- no two places of a list of names have one name
abbrev pub IsNameList : NameList → Type 0
IsNameList name_list = IsDistinct bytes_eq (keys_of name_list.places.items)

-- so it is, and the names descend if that is said: on a table of names, and on a map of names
abbrev pub IsNameTable : NameTable → Type 0
IsNameTable name_table = IsDistinct bytes_eq (keys_of (entries_on name_table)) × IsInOrder name_table

abbrev pub IsNameMap : NameMap → Type 0
IsNameMap name_map = AreDistinct name_map × AreInOrder name_map

-- a place is there
abbrev pub IsFull : NameMap → Type 0
IsFull name_map = entries_of name_map ≢ []

-- no two maps of names have one namespace, no two places of a map of names one name, and no map of names is without places
abbrev pub IsKindTable : KindTable → Type 0
IsKindTable kind_table = IsDistinct bytes_eq (keys_of kind_table.namespaces.entries) × ((ns : List ℕ) (name_map : NameMap) → name_map_in kind_table ns ≡ Some name_map → IsNameMap name_map × IsFull name_map)

-- so it is, but that the map of names of one namespace may be without places
abbrev pub IsKindTableBut : List ℕ → KindTable → Type 0
IsKindTableBut but kind_table = IsDistinct bytes_eq (keys_of kind_table.namespaces.entries) × ((ns : List ℕ) (name_map : NameMap) → name_map_in kind_table ns ≡ Some name_map → IsNameMap name_map × (bytes_eq but ns ≡ false → IsFull name_map))

-- so it is for each of the kinds
abbrev pub IsObjectTable : ObjectTable → Type 0
IsObjectTable places = (length places.kinds ≡ 14) × ((i : ℕ) (kind_table : KindTable) → slice_get places.kinds i ≡ Some kind_table → IsKindTable kind_table)

-- each object is in the place of its identity
abbrev pub AreOwn : ObjectTable → Type 0
AreOwn places = (id : Id) (x : Object) → found (place_at places id) ≡ Some x → x.id ≡ id

-- places that can be read
pub record IsSound (places : ObjectTable) : Type 0 where
  pub distinct : IsObjectTable places
  pub own : AreOwn places

-- the object that is put has a place
abbrev pub HasPlace : ObjectTable → Write → Type 0
HasPlace places (Put x) = IsSome (place_at places x.id)
HasPlace places (Cut id) = Unit {0}

-- each object that is put has a place
abbrev pub HasPlaces : ObjectTable → List Write → Type 0
HasPlaces places writes = (i : ℕ) (w : Write) → slice_get writes i ≡ Some w → HasPlace places w

-- what has a place keeps it
abbrev pub KeepsObjectTable : ObjectTable → ObjectTable → Type 0
KeepsObjectTable old new = (w : Write) → HasPlace old w → HasPlace new w

-- the same objects are found
abbrev pub HasSame : ObjectTable → ObjectTable → Type 0
HasSame old new = (id : Id) → found (place_at new id) ≡ found (place_at old id)

-- one of the writes is of the identity
abbrev pub is_written : List Write → Id → Bool
is_written writes id = list_any (λ w. same_id id (id_of w)) writes

-- the places of other identities stay
abbrev pub KeepsOthers : List Write → ObjectTable → ObjectTable → Type 0
KeepsOthers writes old new = (id : Id) → is_written writes id ≡ false → place_at new id ≡ place_at old id

-- no place of a write is empty
abbrev pub AreSwept : ObjectTable → List Write → Type 0
AreSwept places writes = (i : ℕ) (w : Write) → slice_get writes i ≡ Some w → place_at places (id_of w) ≢ Some None

-- each empty place is that of a write
abbrev pub AreAwaited : ObjectTable → List Write → Type 0
AreAwaited places writes = (id : Id) → place_at places id ≡ Some None → is_written writes id ≡ true

-- what a store keeps true of its places and the writes that are staged
pub record IsReady (places : ObjectTable) (staged : List Write) : Type 0 where
  pub sound : IsSound places
  pub there : HasPlaces places staged
  pub awaited : AreAwaited places staged

-- the one place has the name, and is empty
abbrev pub IsNewNameMap : List ℕ → NameMap → Type 0
IsNewNameMap name name_map = (q : List ℕ) → place_in name_map q ≡ cond (bytes_eq name q) (Some None) None

-- ---- the objects

-- the object of a place, as a list
abbrev pub of_place : Option Object → List Object
of_place None = []
of_place (Some x) = x ∷ []

-- the objects of one kind and namespace: along a list of names, on a table of names, and on a map of names
abbrev pub objects_along : NameList → List Object
objects_along name_list = flat_map of_place (values_of name_list.places.items)

abbrev pub objects_on : NameTable → List Object
objects_on name_table = flat_map of_place (values_of (entries_on name_table))

abbrev pub objects_in : NameMap → List Object
objects_in name_map = flat_map of_place (values_of (entries_of name_map))

-- the objects of one kind
abbrev pub objects_of : KindTable → List Object
objects_of kind_table = flat_map objects_in (values_of kind_table.namespaces.entries)

-- the objects of one kind, in one namespace or in all
abbrev pub objects_under : Option (List ℕ) → KindTable → List Object
objects_under None kind_table = objects_of kind_table
objects_under (Some ns) kind_table = option_map_or objects_in (name_map_in kind_table ns) []

abbrev pub objects_listed : ObjectTable → Kind → Option (List ℕ) → List Object
objects_listed places kind ns = option_map_or (objects_under ns) (kind_at places kind) []

-- all objects
abbrev pub all_objects : ObjectTable → List Object
all_objects places = flat_map objects_of places.kinds

-- all objects, in the order of their identities
abbrev pub objects_at : ObjectTable → Objects
objects_at places = objects_from (all_objects places)
