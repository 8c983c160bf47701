-- Changes that are staged, with what they need to be made without taking memory.
--     parted_by               the nodes after a change, but that a child hasn't joined its new parent yet
--     joined_by               the parent and the name of a child that gets one by a change
--     IsLeft, IsJoined        the lists of children once a child has left its parent, and once it has joined one
--     leaves_by, joins_by     how many lists of names without a namespace a change may begin by a node that goes, and by a child that joins
--     IsLinked, IsPrepared    a change is prepared, and k more fit where its child goes
use Rattle.std.specs.Prelude.{◌≡◌, ℕ, ◌≤◌, not, ◌&&◌, ◌||◌, List, [], map, Option, Some, None, option_map}
use Rattle.std.specs.Option.{option_map_or}
use Rattle.std.specs.Str.{bytes_eq}
use Rattle.hx_model.specs.Forest.{Forest, is_in, with_parent}
use Rattle.hx_model.specs.ForestChanges.{with_terminating, without_node}
use Rattle.hx_forest.specs.Children.{Lists, names_in, HasList, Fits}
use Rattle.hx_forest.specs.declared.change.Change.{Change}
use Rattle.hx_forest.specs.declared.change.Change.TheVariants.{Add, SetParent, SetTerminating, Remove}
use Rattle.hx_forest.specs.declared.children.Link.{Link}
use Rattle.hx_forest.specs.declared.prepared.Prepared.{Prepared}

-- a parent and a child
abbrev pub Place : Type 0
Place = List ℕ × List ℕ

-- the nodes after a change, but that a child hasn't joined its new parent yet
abbrev pub parted_by : Change → Forest → Forest
parted_by (Add name node) f = f
parted_by (SetParent name parent) f = with_parent name None f
parted_by (SetTerminating name) f = with_terminating name f
parted_by (Remove name) f = without_node name f

-- the place that a child gets by it
abbrev pub joined_by : Change → Option Place
joined_by (Add name node) = option_map (λ p. (p, name)) node.parent
joined_by (SetParent name parent) = option_map (λ p. (p, name)) parent
joined_by (SetTerminating name) = None
joined_by (Remove name) = None

-- a child of a place, and the others of it, have their list once it has left
abbrev pub IsLeft : Option Place → Lists → Lists → Type 0
IsLeft None old new = (q : List ℕ) → new q ≡ old q
IsLeft (Some place) old new = HasList old new place.0 (λ q. not (bytes_eq q place.1) && is_in q (names_in (old place.0)))

-- and once it has joined them
abbrev pub IsJoined : Option Place → Lists → Lists → Type 0
IsJoined None old new = (q : List ℕ) → new q ≡ old q
IsJoined (Some place) old new = HasList old new place.0 (λ q. bytes_eq q place.1 || is_in q (names_in (old place.0)))

-- a node that goes leaves its list to its name
abbrev pub leaves_by : Change → ℕ
leaves_by (Add name node) = 0
leaves_by (SetParent name parent) = 0
leaves_by (SetTerminating name) = 0
leaves_by (Remove name) = 1

-- a child may begin a list
abbrev pub joins_by : Option Link → ℕ
joins_by link = option_map_or (λ l. 1) link 0

abbrev pub place_of : Link → Place
place_of link = (link.parent, link.child)

-- the list that goes with a child is empty and has room for k names
abbrev pub StartsEmpty : ℕ → Option Link → Type 0
StartsEmpty k None = Unit {0}
StartsEmpty k (Some link) = (link.list.names ≡ []) × (k ≤ link.list.spare)

-- where its parent has children, k more names fit
abbrev pub FitsUnder : ℕ → Lists → Option Link → Type 0
FitsUnder k lists None = Unit {0}
FitsUnder k lists (Some link) = Fits k (lists link.parent)

-- the child that gets a parent by the change goes with it, and its list
abbrev pub IsLinked : ℕ → Prepared → Type 0
IsLinked k p = (option_map place_of p.link ≡ joined_by p.change) × StartsEmpty k p.link

-- and there is room for k names where it goes
abbrev pub IsPrepared : ℕ → Lists → Prepared → Type 0
IsPrepared k lists p = IsLinked k p × FitsUnder k lists p.link

-- the changes that are prepared
abbrev pub changes_of : List Prepared → List Change
changes_of staged = map (λ p. p.change) staged
