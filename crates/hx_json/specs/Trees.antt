-- The tree of a text, whose objects have their members as they stand, and the value that it is.
--     whole_in s            the whole number of 64 bits that a number's text is
--     is_tame j             each number is one
--     data_of j             the value of a tree. Of members of one name the last counts
--     laid_out j            the tree's members as they stand, as a value's
--     is_sorted j           the keys of each object ascend
--     kept_of ms            the members that a plain kind keeps
--     keeps_order j         they ascend
--     has_sorted_limits j   the limits of a quota ascend
--     has_sorted_usages j   the limits that are reported of one ascend
--     has_sorted_metadata j labels and annotations ascend
--     places_in ms          where the members go that each object has
--     said v                the value of a tree in memory
use Rattle.std.specs.Prelude.{◌≡◌, ℕ, ◌+◌, List, length, Bool, true, false, ◌&&◌, ◌||◌, codes, Option, Some, None, option_and_then, option_map, unwrap_or, is_some, if◌then◌else◌}
use Rattle.std.specs.Ordering.{is_lt}
use Rattle.std.specs.Str.{bytes_eq}
use Rattle.json.specs.Json as json
use Rattle.json.specs.Json.{Json}
use Rattle.json.specs.Find as find
use Rattle.json.specs.Lex.{tokens}
use Rattle.json.specs.Value.{value_view, items_view}
use Rattle.json.specs.declared.value.Value.{Value}
use Rattle.serde_json.specs.Data.{Num, unsigned, float, Data, null, boolean, number, string, array, object, Items, no_items, item, Members, no_members, member, put}
use Rattle.serde_json.specs.Read.{number_of, max_depth}
use Rattle.hx_object.specs.Placed.{joined}
use Rattle.hx_object.specs.Texts.{bytes_cmp}
use Rattle.hx_object.specs.declared.kind.Kind.{Kind}
use Rattle.hx_object.specs.declared.kind.Kind.TheVariants.{Namespace, HncConfiguration, HierarchyConfiguration, SubnamespaceAnchor, HierarchicalResourceQuota}
use Rattle.hx_object.specs.declared.members.Places.{Places}
use Rattle.hx_json.specs.declared.fault.JsonFault.{JsonFault}
use Rattle.hx_json.specs.declared.fault.JsonFault.TheVariants.{NoMemory}

-- ---- numbers

abbrev pub unless_float : Option Num → Option Num
unless_float (Some (float x)) = None
unless_float found = found

-- the whole number that a number's text is
abbrev pub whole_in : List ℕ → Option Num
whole_in text = unless_float (number_of text)

-- the same, and some number where there is none
abbrev pub whole_or_zero : List ℕ → Num
whole_or_zero text = unwrap_or (whole_in text) (unsigned 0)

abbrev mutual
  pub is_tame : Json → Bool
  is_tame json.null = true
  is_tame (json.boolean b) = true
  is_tame (json.number text) = is_some (whole_in text)
  is_tame (json.string text) = true
  is_tame (json.array js) = items_are_tame js
  is_tame (json.object ms) = members_are_tame ms

  pub items_are_tame : json.Items → Bool
  items_are_tame json.no_items = true
  items_are_tame (json.item j js) = is_tame j && items_are_tame js

  pub members_are_tame : json.Members → Bool
  members_are_tame json.no_members = true
  members_are_tame (json.member k j ms) = is_tame j && members_are_tame ms

-- ---- values

abbrev mutual
  pub data_of : Json → Data
  data_of json.null = null
  data_of (json.boolean b) = boolean b
  data_of (json.number text) = number (whole_or_zero text)
  data_of (json.string text) = string text
  data_of (json.array js) = array (items_of js)
  data_of (json.object ms) = object (members_onto ms no_members)

  pub items_of : json.Items → Items
  items_of json.no_items = no_items
  items_of (json.item j js) = item (data_of j) (items_of js)

  -- the members, put one after another
  pub members_onto : json.Members → Members → Members
  members_onto json.no_members found = found
  members_onto (json.member k j ms) found = members_onto ms (put k (data_of j) found)

abbrev mutual
  pub laid_out : Json → Data
  laid_out json.null = null
  laid_out (json.boolean b) = boolean b
  laid_out (json.number text) = number (whole_or_zero text)
  laid_out (json.string text) = string text
  laid_out (json.array js) = array (laid_items js)
  laid_out (json.object ms) = object (laid_members ms)

  pub laid_items : json.Items → Items
  laid_items json.no_items = no_items
  laid_items (json.item j js) = item (laid_out j) (laid_items js)

  pub laid_members : json.Members → Members
  laid_members json.no_members = no_members
  laid_members (json.member k j ms) = member k (laid_out j) (laid_members ms)

-- ---- order

-- a key comes after the one before it
abbrev pub is_after : Option (List ℕ) → List ℕ → Bool
is_after None key = true
is_after (Some before) key = is_lt (bytes_cmp before key)

-- the keys ascend, behind one that stands before them, and so do those inside
abbrev mutual
  pub is_sorted : Json → Bool
  is_sorted json.null = true
  is_sorted (json.boolean b) = true
  is_sorted (json.number text) = true
  is_sorted (json.string text) = true
  is_sorted (json.array js) = items_are_sorted js
  is_sorted (json.object ms) = are_sorted None ms

  pub items_are_sorted : json.Items → Bool
  items_are_sorted json.no_items = true
  items_are_sorted (json.item j js) = is_sorted j && items_are_sorted js

  pub are_sorted : Option (List ℕ) → json.Members → Bool
  are_sorted before json.no_members = true
  are_sorted before (json.member k j ms) = is_after before k && (is_sorted j && are_sorted (Some k) ms)

-- the key of a member that each object has, and that isn't kept
abbrev pub is_head : List ℕ → Bool
is_head key = bytes_eq key (codes "apiVersion") || (bytes_eq key (codes "kind") || bytes_eq key (codes "metadata"))

-- the members that a plain kind keeps
abbrev pub kept_of : json.Members → json.Members
kept_of json.no_members = json.no_members
kept_of (json.member k j ms) = if is_head k then kept_of ms else json.member k j (kept_of ms)

-- the members of an object
abbrev pub own_trees : Json → json.Members
own_trees (json.object ms) = ms
own_trees _ = json.no_members

-- the members that a plain kind keeps ascend
abbrev pub keeps_order : Json → Bool
keeps_order j = are_sorted None (kept_of (own_trees j))

-- a member's keys ascend, where it is there
abbrev pub is_sorted_in : List ℕ → Json → Bool
is_sorted_in name j = unwrap_or (option_map is_sorted (find.get name j)) true

-- the limits of a quota ascend
abbrev pub has_sorted_limits : Json → Bool
has_sorted_limits j = unwrap_or (option_map (is_sorted_in (codes "hard")) (find.get (codes "spec") j)) true

-- the limits that are reported of a quota ascend
abbrev pub has_sorted_usages : Json → Bool
has_sorted_usages j = unwrap_or (option_map (is_sorted_in (codes "hard")) (find.get (codes "status") j)) true

-- what a kind keeps in order is in order
abbrev pub keeps_order_for : Kind → Json → Bool
keeps_order_for Namespace j = true
keeps_order_for HncConfiguration j = true
keeps_order_for HierarchyConfiguration j = true
keeps_order_for SubnamespaceAnchor j = true
keeps_order_for HierarchicalResourceQuota j = has_sorted_limits j
keeps_order_for _ j = keeps_order j

-- labels and annotations of metadata ascend
abbrev pub has_sorted_pairs : Json → Bool
has_sorted_pairs j = is_sorted_in (codes "labels") j && is_sorted_in (codes "annotations") j

-- those of one name, of the metadata of a body
abbrev pub is_sorted_inside : List ℕ → Json → Bool
is_sorted_inside name j = unwrap_or (option_map (is_sorted_in name) (find.get (codes "metadata") j)) true

-- both, of the metadata of a body
abbrev pub has_sorted_metadata : Json → Bool
has_sorted_metadata j = unwrap_or (option_map has_sorted_pairs (find.get (codes "metadata") j)) true

-- ---- places

-- where a name goes, once a member of a key ends at a place
abbrev pub passed_by : List ℕ → List ℕ → ℕ → ℕ → ℕ
passed_by name key end place = if is_lt (bytes_cmp key name) then end else place

abbrev pub passed : List ℕ → ℕ → Places → Places
passed key end places = record {
  api_version = passed_by (codes "apiVersion") key end places.api_version;
  kind = passed_by (codes "kind") key end places.kind;
  metadata = passed_by (codes "metadata") key end places.metadata;
}

-- the places, once members more were written behind `at` bytes
abbrev pub places_from : ℕ → Bool → Places → Members → Places
places_from at later places no_members = places
places_from at later places (member k d ms) =
    let end = at + length (joined later (member k d no_members)) in
    places_from end true (passed k end places) ms

abbrev pub places_in : Members → Places
places_in ms = places_from 1 false (record { api_version = 1; kind = 1; metadata = 1 }) ms

-- ---- texts, and trees in memory

-- the tree of a text
abbrev pub tree_of : List ℕ → Option Json
tree_of text = option_and_then (λ p. json.if_last p.0 p.1) (json.value max_depth (tokens text))

-- a text has no tree, or memory is wanted for it
abbrev pub IsNoTree : List ℕ → JsonFault → Type 0
IsNoTree text NoMemory = Unit {0}
IsNoTree text fault = tree_of text ≡ None

-- a tree that is read as it stands
abbrev pub is_ordered : Kind → Json → Bool
is_ordered kind j = is_tame j && (has_sorted_metadata j && keeps_order_for kind j)

-- a text has such a tree
abbrev pub IsOrdered : Kind → List ℕ → Type 0
IsOrdered kind text = (j : Json) × (tree_of text ≡ Some j) × (is_ordered kind j ≡ true)

-- a text has a tree, and not such a one
abbrev pub IsUnordered : Kind → List ℕ → Type 0
IsUnordered kind text = (j : Json) × (tree_of text ≡ Some j) × (is_ordered kind j ≡ false)

abbrev pub said : {A : Type 0} → Value A → Data
said v = data_of (value_view v)

abbrev pub said_items : {A : Type 0} → List (Value A) → Items
said_items vs = items_of (items_view vs)
