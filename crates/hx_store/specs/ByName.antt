-- Where sources and anchors lie: by kind, then by name, then by namespace. The places there hold nothing.
--     turned id                the identity with its namespace and its name in each other's place
--     turned_places by_name    the places of the index, by turned identities
--     entry_place by_name kind name ns   the place of a kind and a name in a namespace
--     entries_at by_name kind name       the places of a kind and a name, with their namespaces
--     indexed_at places kind name ns     the source or the anchor of a kind and a name in a namespace
--     indexed_among places kind name es  those in the namespaces of entries
--     HasEntry by_name w       the source or the anchor that is put has its place there
--     IsIndex by_name places   each source and each anchor among the objects has its place there
--     IsSwept by_name places id  where no source and no anchor lies, no empty place of the identity is left there
--     IsKept places by_name staged   what a store keeps true
use Rattle.std.specs.Prelude.{◌≡◌, ◌≢◌, ℕ, true, List, [], Option, Some, None, IsSome, is_some, option_and_then, slice_get}
use Rattle.std.specs.List.{flat_map}
use Rattle.std.specs.Option.{option_map_or}
use Rattle.hx_object.specs.declared.kind.Kind.{Kind}
use Rattle.hx_object.specs.declared.object.Id.{Id}
use Rattle.hx_object.specs.declared.object.Object.{Object}
use Rattle.hx_model.specs.declared.key.Write.{Write}
use Rattle.hx_model.specs.declared.key.Write.TheVariants.{Put, Cut}
use Rattle.hx_store.specs.ObjectTable.{Place, IsObjectTable, IsReady, name_map_in, entries_of, found, kind_at, of_place, place_at}
use Rattle.hx_store.specs.Sources.{is_indexed, indexed_in, may_be_indexed}
use Rattle.hx_store.specs.declared.object_table.ObjectTable.{ObjectTable}
use Rattle.hx_store.specs.declared.by_name.ByName.{ByName}

-- the identity with its namespace and its name in each other's place
abbrev pub turned : Id → Id
turned id = record { kind = id.kind; ns = id.name; name = id.ns }

-- the places of the index, by turned identities
abbrev pub turned_places : ByName → ObjectTable
turned_places by_name = record { kinds = by_name.kinds }

-- the place of a kind and a name in a namespace
abbrev pub entry_place : ByName → Kind → List ℕ → List ℕ → Place
entry_place by_name kind name ns = place_at (turned_places by_name) (record { kind = kind; ns = name; name = ns })

-- the places of a kind and a name, with their namespaces
abbrev pub entries_at : ByName → Kind → List ℕ → List (List ℕ × Option Object)
entries_at by_name kind name = option_map_or entries_of (option_and_then (λ kind_table. name_map_in kind_table name) (kind_at (turned_places by_name) kind)) []

-- the source or the anchor of a kind and a name in a namespace
abbrev pub indexed_at : ObjectTable → Kind → List ℕ → List ℕ → Option Object
indexed_at places kind name ns = indexed_in (found (place_at places (record { kind = kind; ns = ns; name = name })))

-- those in the namespaces of entries
abbrev pub indexed_among : ObjectTable → Kind → List ℕ → List (List ℕ × Option Object) → List Object
indexed_among places kind name es = flat_map (λ e. of_place (indexed_at places kind name e.0)) es

-- the source or the anchor that is put has its place
abbrev pub HasEntry : ByName → Write → Type 0
HasEntry by_name (Put x) = is_indexed x ≡ true → IsSome (place_at (turned_places by_name) (turned x.id))
HasEntry by_name (Cut id) = Unit {0}

-- each source and each anchor that is put has its place
abbrev pub HasEntries : ByName → List Write → Type 0
HasEntries by_name writes = (i : ℕ) (w : Write) → slice_get writes i ≡ Some w → HasEntry by_name w

-- what has a place keeps it
abbrev pub KeepsEntries : ByName → ByName → Type 0
KeepsEntries old new = (w : Write) → HasEntry old w → HasEntry new w

-- each source and each anchor among the objects has its place; there may be others
pub record IsIndex (by_name : ByName) (places : ObjectTable) : Type 0 where
  pub distinct : IsObjectTable (turned_places by_name)
  pub all : (id : Id) → is_some (indexed_in (found (place_at places id))) ≡ true → IsSome (place_at (turned_places by_name) (turned id))

-- where no source and no anchor lies, no empty place of the identity is left
abbrev pub IsSwept : ByName → ObjectTable → Id → Type 0
IsSwept by_name places id = may_be_indexed id.kind ≡ true → indexed_in (found (place_at places id)) ≡ None → place_at (turned_places by_name) (turned id) ≢ Some None

-- what a store keeps true
pub record IsKept (places : ObjectTable) (by_name : ByName) (staged : List Write) : Type 0 where
  pub ready : IsReady places staged
  pub index : IsIndex by_name places
  pub awaited : HasEntries by_name staged
