-- Which keys a write marks: in proportion to what it can change.
--     is_sent mode x         a source goes to some labels or other, where its kind is in this mode
--     key_for m x            the key of the copies of an object's kind and name, in a namespace
--     wants_of objects chain m   the copy keys of a namespace that may want a write: of what is sent from above, along its chain, and of the copies that lie in it
--     child_keys, status_keys    of the anchors in a namespace: the keys of their subnamespaces;  of their statuses
--     asking_keys            both, of the anchors that ask for a name
--     leaving_keys           the key of the removal of a namespace that is on its way out
--     known_of objects f n   all keys of a namespace that may want a write
--     label_marks            a namespace is replaced
--     ending_marks           a namespace is on its way out from now on
--     created_marks          a namespace is made
--     removed_marks          a namespace goes
--     move_marks             a namespace gets another parent
--     mode_marks             the modes of kinds change
--     anchor_marks           an anchor is written or removed
--     report_marks           the reports that a write changes
--     usage_marks            the quotas whose usage it changes
--     object_marks           an object of a kind that can be copied is written or removed
--     marks_of s write       by what is written
--     ending_names writes    the namespaces that writes put as on their way out
--     follows f names n      its parent is another, and among them
--     following_marks        a namespace is on its way out from now on, and so is its parent, which marks what took part below both
--     marks_among s names write    what a write marks among others, which put these namespaces as on their way out
--     all_marks s writes     of the writes of a commit, each by the state before it
-- All is read off the state before the write. A key may stand in a list more than once. No crate above cites `all_marks`: what is promised of the keys stands in Halves.
use Rattle.std.specs.Prelude.{ℕ, Bool, true, false, not, ◌&&◌, ◌||◌, List, [], ◌∷◌, ◌++◌, flat_map, map, filter, Option, Some, None, if◌then◌else◌}
use Rattle.std.specs.Option.{option_map_or}
use Rattle.std.specs.Str.{bytes_eq}
use Rattle.hx_object.specs.Kinds.{can_be_copied, is_namespace, is_hierarchy, is_anchor}
use Rattle.hx_object.specs.WellKnown.{config}
use Rattle.hx_object.specs.declared.kind.Kind.{Kind}
use Rattle.hx_object.specs.declared.kind.Kind.TheVariants.{HncConfiguration, SubnamespaceAnchor}
use Rattle.hx_object.specs.declared.object.Id.{Id}
use Rattle.hx_object.specs.declared.object.Mode.{Mode}
use Rattle.hx_object.specs.declared.object.Mode.TheVariants.{Ignore}
use Rattle.hx_object.specs.declared.object.Object.{Object}
use Rattle.hx_model.specs.Answers.{is_listed}
use Rattle.hx_model.specs.Cases.{same_name, is_leaving}
use Rattle.hx_model.specs.Exceptions.{none_of, passes, is_false}
use Rattle.hx_model.specs.Forest.{Forest, is_in, parent_of, children_of, chain_of, tail_of}
use Rattle.hx_model.specs.Limits.{is_copy}
use Rattle.hx_model.specs.Modes.{mode_in}
use Rattle.hx_model.specs.Moves.{chain_from, moved_chain_of, mode_at, copied_kinds}
use Rattle.hx_model.specs.Propagation.{is_source, stays_home, is_propagated}
use Rattle.hx_model.specs.State.{State, Objects, object_at, state_after}
use Rattle.hx_model.specs.Tree.{hierarchy, forest_of, is_terminating}
use Rattle.hx_model.specs.TreeLabels.{is_open}
use Rattle.hx_model.specs.Writes.{id_written}
use Rattle.hx_model.specs.declared.key.Key.{Key}
use Rattle.hx_model.specs.declared.key.Key.TheVariants as key
use Rattle.hx_model.specs.declared.key.Write.{Write}
use Rattle.hx_model.specs.declared.key.Write.TheVariants.{Put, Cut}
use Rattle.hx_store.specs.Sources.{is_anchor_of}
pub use Rattle.hx_marks.specs.Below.{open_below, live_below, below_created, differ, apart, in_one}
use Rattle.hx_marks.specs.Usage.{usage_keys, usage_marks}
use Rattle.hx_marks.specs.Reports.{report_keys, reports_of, ending_reports, removed_reports, created_reports, placed_reports, anchored_reports}

-- ---- what may want a write

abbrev pub is_ignored : Mode → Bool
is_ignored Ignore = true
is_ignored _ = false

-- it goes to some labels or other: what it says of labels counts for nothing
abbrev pub is_sent : Mode → Object → Bool
is_sent mode x = is_propagated mode && (is_source x && (not (stays_home x) && passes is_false (none_of x)))

-- the objects of a kind in a namespace
abbrev pub listed_in : Objects → Kind → List ℕ → Objects
listed_in objects kind n = filter (is_listed kind (Some n)) objects

-- the sources of a kind that some namespaces send
abbrev pub sent_from : Objects → Kind → List (List ℕ) → Objects
sent_from objects kind names = flat_map (λ a. filter (is_sent (mode_at objects kind)) (listed_in objects kind a)) names

abbrev pub key_for : List ℕ → Object → Key
key_for m x = key.Copy m x.id.kind x.id.name

-- of one kind
abbrev pub wants_of_kind : Objects → List (List ℕ) → List ℕ → Kind → List Key
wants_of_kind objects chain m kind =
    if is_ignored (mode_at objects kind) then [] else map (key_for m) (sent_from objects kind (tail_of chain) ++ filter is_copy (listed_in objects kind m))

-- the copy keys of a namespace of this chain that may want a write: of what is sent from above, and of the copies that lie in it
abbrev pub wants_of : Objects → List (List ℕ) → List ℕ → List Key
wants_of objects chain m = flat_map (wants_of_kind objects chain m) copied_kinds

-- ---- anchors

-- the keys of the subnamespaces that the anchors in a namespace ask for
abbrev pub child_keys : Objects → List ℕ → List Key
child_keys objects m = map (λ (x : Object). key.Child m x.id.name) (listed_in objects SubnamespaceAnchor m)

-- the keys of their statuses
abbrev pub status_keys : Objects → List ℕ → List Key
status_keys objects m = map (λ (x : Object). key.Anchor m x.id.name) (listed_in objects SubnamespaceAnchor m)

-- both keys of an anchor
abbrev pub anchor_keys : Id → List Key
anchor_keys id = key.Child id.ns id.name ∷ key.Anchor id.ns id.name ∷ []

-- those of the anchors that ask for a name
abbrev pub asking_keys : Objects → List ℕ → List Key
asking_keys objects n = flat_map (λ (x : Object). anchor_keys x.id) (filter (is_anchor_of n) objects)

-- the key of the removal of a namespace that is on its way out
abbrev pub leaving_keys : Forest → List ℕ → List Key
leaving_keys f n = if is_leaving f n then key.Purge n ∷ [] else []

-- all that a namespace of this chain may want that takes part: its tree labels, its copies, and its subnamespaces
abbrev pub all_of : Objects → List (List ℕ) → List ℕ → List Key
all_of objects chain m = key.Tree m ∷ (wants_of objects chain m ++ child_keys objects m)

-- ---- namespaces

-- all keys of a namespace that may want a write
abbrev pub known_of : Objects → Forest → List ℕ → List Key
known_of objects f n = (if is_open f n then all_of objects (chain_of f n) n else []) ++ (report_keys f n ++ (status_keys objects n ++ (usage_keys objects n ++ leaving_keys f n)))

-- A namespace is replaced: its labels may count, and all its keys rest on its version
abbrev pub label_marks : State → List ℕ → List Key
label_marks s n = known_of s.objects (forest_of s) n

-- A namespace is on its way out from now on: what lies below it takes part no more, and its own objects go
abbrev pub ending_marks : State → List ℕ → List Key
ending_marks s n =
    flat_map (λ m. all_of s.objects (chain_of (forest_of s) m) m) (open_below (forest_of s) n)
    ++ (status_keys s.objects n ++ (usage_keys s.objects n ++ key.Purge n ∷ []))

-- A namespace is made, under this parent: what waited for it below may begin to take part, and anchors may have waited for it
abbrev pub created_marks : State → List ℕ → Option (List ℕ) → List Key
created_marks s n parent =
    flat_map (λ m. all_of s.objects (chain_of (forest_of s) m ++ n ∷ chain_from (forest_of s) parent) m) (below_created (forest_of s) n)
    ++ asking_keys s.objects n

-- A namespace goes, in which nothing lies: nothing below it has taken part
abbrev pub removed_marks : State → List ℕ → List Key
removed_marks s n = key.Purge n ∷ asking_keys s.objects n

-- what is sent by some namespaces, of all kinds
abbrev pub all_sent : Objects → List (List ℕ) → Objects
all_sent objects names = flat_map (λ kind. sent_from objects kind names) copied_kinds

-- the tree labels of a namespace, and the copies that what is sent may have there
abbrev pub sent_marks : Objects → List ℕ → List Key
sent_marks sent m = key.Tree m ∷ map (key_for m) sent

-- A namespace moves, from one parent to another, and takes part before and after it, or in one of the two. Where it always does, what the two chains share goes on being sent; where it begins or ends to take part, all counts that its subtree may want
abbrev pub moved_by : State → List ℕ → Option (List ℕ) → Option (List ℕ) → Bool → Bool → List Key
moved_by s n old new true true = flat_map (sent_marks (all_sent s.objects (in_one (chain_from (forest_of s) old) (chain_from (forest_of s) new)))) (live_below (forest_of s) n)
moved_by s n old new true false = flat_map (λ m. all_of s.objects (chain_of (forest_of s) m) m) (live_below (forest_of s) n)
moved_by s n old new false true = flat_map (λ m. all_of s.objects (moved_chain_of (forest_of s) n new m) m) (live_below (forest_of s) n)
moved_by s n old new false false = []

-- where the parent stays, nothing
abbrev pub move_marks : State → State → List ℕ → List Key
move_marks s t n =
    if same_name (parent_of (forest_of s) n) (parent_of (forest_of t) n)
    then []
    else moved_by s n (parent_of (forest_of s) n) (parent_of (forest_of t) n) (is_open (forest_of s) n) (is_open (forest_of t) n)

-- ---- modes

-- the place of a copy, where its kind begins or ends to be ignored
abbrev pub copy_marks : Forest → Mode → Mode → Object → List Key
copy_marks f a b x = if differ (is_ignored a) (is_ignored b) && (is_copy x && is_open f x.id.ns) then key_for x.id.ns x ∷ [] else []

-- the places below a source that begins or ends to be sent
abbrev pub source_marks : Forest → Mode → Mode → Object → List Key
source_marks f a b x = if differ (is_sent a x) (is_sent b x) then map (λ m. key_for m x) (apart (open_below f x.id.ns) (x.id.ns ∷ [])) else []

-- a kind comes from one mode to another
abbrev pub kind_marks : State → Mode → Mode → Kind → List Key
kind_marks s a b kind = flat_map (λ x. copy_marks (forest_of s) a b x ++ source_marks (forest_of s) a b x) (filter (is_listed kind None) s.objects)

-- the HNCConfiguration that counts is written or removed
abbrev pub mode_marks : State → Option Object → Option Object → List Key
mode_marks s old new = flat_map (λ kind. kind_marks s (mode_in old kind) (mode_in new kind) kind) copied_kinds

-- ---- objects

-- an anchor is written or removed
abbrev pub anchor_marks : Id → List Key
anchor_marks id = anchor_keys id

abbrev pub is_any_sent : Mode → Option Object → Option Object → Bool
is_any_sent mode old new = option_map_or (is_sent mode) old false || option_map_or (is_sent mode) new false

-- the place itself, and those below where the object is sent, before or after the write
abbrev pub place_marks : Forest → Bool → Id → List Key
place_marks f true id = map (λ m. key.Copy m id.kind id.name) (open_below f id.ns)
place_marks f false id = if is_open f id.ns then key.Copy id.ns id.kind id.name ∷ [] else []

abbrev pub object_marks : State → Id → Option Object → Option Object → List Key
object_marks s id old new =
    if can_be_copied id.kind && not (is_ignored (mode_at s.objects id.kind))
    then place_marks (forest_of s) (is_any_sent (mode_at s.objects id.kind) old new) id
    else []

-- ---- writes

abbrev pub is_config_kind : Kind → Bool
is_config_kind HncConfiguration = true
is_config_kind _ = false

abbrev pub is_modes : Id → Bool
is_modes id = is_config_kind id.kind && bytes_eq id.name config

abbrev pub object_written : Write → Option Object
object_written (Put x) = Some x
object_written (Cut id) = None

-- a namespace that stays begins to leave
abbrev pub begins_to_end : Object → Object → Bool
begins_to_end old x = is_terminating x.payload && not (is_terminating old.payload)

-- a namespace that was there, or wasn't, and is there then, or isn't
abbrev pub namespace_marks : State → State → List ℕ → Option Object → Option Object → List Key
namespace_marks s t n (Some old) (Some x) = if begins_to_end old x then ending_marks s n else label_marks s n
namespace_marks s t n (Some old) None = removed_marks s n
namespace_marks s t n None new = created_marks s n (parent_of (forest_of t) n)

-- an object that lies in a namespace: what it is of its kind, and the removal of a namespace that is on its way out
abbrev pub inner_marks : State → State → Id → Option Object → Option Object → List Key
inner_marks s t id old new =
    if is_hierarchy id.kind then (if bytes_eq id.name hierarchy then move_marks s t id.ns else []) else (
    if is_anchor id.kind then anchor_marks id else object_marks s id old new)

-- by what is written, and the state after it
abbrev pub marks_by : State → State → Id → Option Object → Option Object → List Key
marks_by s t id old new =
    if is_namespace id.kind then namespace_marks s t id.name old new else (
    if is_modes id then mode_marks s old new else (inner_marks s t id old new ++ leaving_keys (forest_of s) id.ns))

-- a namespace that was there, or wasn't, and is there then, or isn't: whose reports change. That of one that is replaced is among its own keys
abbrev pub namespace_reports : State → State → List ℕ → Option Object → Option Object → List Key
namespace_reports s t n (Some old) (Some x) = if begins_to_end old x then ending_reports (forest_of s) n else []
namespace_reports s t n (Some old) None = removed_reports (forest_of s) n
namespace_reports s t n None new = created_reports (forest_of s) n (parent_of (forest_of t) n)

-- the HierarchyConfiguration of a namespace is written or removed
abbrev pub hierarchy_reports : State → State → List ℕ → List Key
hierarchy_reports s t n = placed_reports (forest_of s) n (parent_of (forest_of s) n) (parent_of (forest_of t) n) (is_open (forest_of s) n) (is_open (forest_of t) n)

-- whose reports change, by what is written, and the state after it
abbrev pub report_marks : State → State → Id → Option Object → Option Object → List Key
report_marks s t id old new =
    if is_namespace id.kind then namespace_reports s t id.name old new else (
    if is_hierarchy id.kind then (if bytes_eq id.name hierarchy then hierarchy_reports s t id.ns else []) else (
    if is_anchor id.kind then anchored_reports s id old new else []))

-- all that one write marks, by the states before and after it
abbrev pub marks_between : State → State → Write → List Key
marks_between s t write =
    marks_by s t (id_written write) (object_at s.objects (id_written write)) (object_written write)
    ++ (report_marks s t (id_written write) (object_at s.objects (id_written write)) (object_written write) ++ usage_marks s (id_written write) (object_at s.objects (id_written write)) (object_written write))

abbrev pub marks_of : State → Write → List Key
marks_of s write = marks_between s (state_after s (write ∷ [])) write

-- ---- the writes of a commit

-- the name of the namespace that a write puts as on its way out
abbrev pub ending_name : Write → List (List ℕ)
ending_name (Put x) = if is_namespace x.id.kind && is_terminating x.payload then x.id.name ∷ [] else []
ending_name (Cut id) = []

abbrev pub ending_names : List Write → List (List ℕ)
ending_names writes = flat_map ending_name writes

-- the parent of a namespace is another, and among these
abbrev pub follows : Forest → List (List ℕ) → List ℕ → Bool
follows f names n = option_map_or (λ p. not (bytes_eq p n) && is_in p names) (parent_of f n) false

-- an object that stays begins to leave
abbrev pub begins_by : Option Object → Option Object → Bool
begins_by old new = option_map_or (λ x. option_map_or (λ before. begins_to_end before x) old false) new false

-- a namespace begins to leave, whose parent is among these
abbrev pub ends_following : Forest → List (List ℕ) → Id → Option Object → Option Object → Bool
ends_following f names id old new = begins_by old new && (is_namespace id.kind && follows f names id.name)

-- what it marks itself: the statuses of its anchors and its quotas, its removal, its report, and those of its children. What took part below it did so below its parent
abbrev pub following_marks : State → List ℕ → List Key
following_marks s n = (status_keys s.objects n ++ (usage_keys s.objects n ++ key.Purge n ∷ [])) ++ (report_keys (forest_of s) n ++ reports_of (forest_of s) (children_of (forest_of s) n))

-- what a write marks among others, which put these namespaces as on their way out
abbrev pub marks_among : State → List (List ℕ) → Write → List Key
marks_among s names write =
    if ends_following (forest_of s) names (id_written write) (object_at s.objects (id_written write)) (object_written write)
    then following_marks s (id_written write).name
    else marks_of s write

-- what took part below several namespaces that begin to leave is marked by the topmost of them
abbrev pub all_marks : State → List Write → List Key
all_marks s writes = flat_map (marks_among s (ending_names writes)) writes
