-- What a write marks, read off the state before it.
--     state_of store config window     the state of a store, a run's settings and a window of events
--     opens_under f n parent    a namespace takes part once it has that parent
--     move_marks_to s n parent  it gets that parent
--     report_marks_by           the reports that change
--     marks_before s write      all that a write marks by itself
--     marks_before_among s names write    what it marks among others, which put these namespaces as on their way out
use Rattle.std.specs.Prelude.{ℕ, Bool, false, not, ◌&&◌, List, [], ◌++◌, Option, Some, None, option_and_then, if◌then◌else◌}
use Rattle.std.specs.Option.{option_map_or}
use Rattle.std.specs.Str.{bytes_eq}
use Rattle.hx_object.specs.Kinds.{is_namespace, is_hierarchy, is_anchor}
use Rattle.hx_object.specs.declared.object.Id.{Id}
use Rattle.hx_object.specs.declared.object.Object.{Object}
use Rattle.hx_model.specs.Cases.{same_name}
use Rattle.hx_model.specs.Forest.{Forest, in_chain, parent_of}
use Rattle.hx_model.specs.Moves.{is_eligible, is_open_above}
use Rattle.hx_model.specs.State.{State, object_at, namespace_id}
use Rattle.hx_model.specs.Tree.{hierarchy, hierarchy_id, forest_of, parent_with}
use Rattle.hx_model.specs.TreeLabels.{is_open}
use Rattle.hx_model.specs.Windows.{WindowView}
use Rattle.hx_model.specs.Writes.{id_written}
use Rattle.hx_model.specs.declared.config.RunConfig.{RunConfig}
use Rattle.hx_model.specs.declared.key.Key.{Key}
use Rattle.hx_model.specs.declared.key.Write.{Write}
use Rattle.hx_store.specs.Kept.{StoreView}
use Rattle.hx_marks.specs.Reports.{ending_reports, removed_reports, created_reports, placed_reports, anchored_reports}
use Rattle.hx_marks.specs.Usage.{usage_marks}
use Rattle.hx_marks.specs.Law.{label_marks, ending_marks, created_marks, removed_marks, begins_to_end, moved_by, mode_marks, anchor_marks, object_marks, leaving_keys, is_modes, object_written, ends_following, following_marks}

abbrev pub state_of : StoreView → RunConfig → WindowView → State
state_of store config window = record { objects = store.objects; last = store.version; config = config; window = window }

-- ---- moves

-- the parent's chain has the namespace, and so would come back to it
abbrev pub comes_back_by : Forest → List ℕ → Option (List ℕ) → Bool
comes_back_by f n parent = option_map_or (λ p. in_chain f p n) parent false

-- it takes part once it has that parent
abbrev pub opens_under : Forest → List ℕ → Option (List ℕ) → Bool
opens_under f n parent = is_eligible f n && (is_open_above f parent && not (comes_back_by f n parent))

abbrev pub move_marks_to : State → List ℕ → Option (List ℕ) → List Key
move_marks_to s n parent =
    if same_name (parent_of (forest_of s) n) parent
    then []
    else moved_by s n (parent_of (forest_of s) n) parent (is_open (forest_of s) n) (opens_under (forest_of s) n parent)

-- a HierarchyConfiguration is written, or is removed
abbrev pub hierarchy_marks : State → Id → Option Object → List Key
hierarchy_marks s id new = if bytes_eq id.name hierarchy then move_marks_to s id.ns (option_and_then (parent_with new) (object_at s.objects (namespace_id id.ns))) else []

-- ---- namespaces

-- one is replaced, or begins to leave, goes, or is made
abbrev pub namespace_marks_by : State → List ℕ → Option Object → Option Object → List Key
namespace_marks_by s n (Some old) (Some x) = if begins_to_end old x then ending_marks s n else label_marks s n
namespace_marks_by s n (Some old) None = removed_marks s n
namespace_marks_by s n None (Some x) = created_marks s n (parent_with (object_at s.objects (hierarchy_id n)) x)
namespace_marks_by s n None None = []

-- ---- writes

-- an object that lies in a namespace
abbrev pub inner_marks_by : State → Id → Option Object → Option Object → List Key
inner_marks_by s id old new =
    if is_hierarchy id.kind then hierarchy_marks s id new else (
    if is_anchor id.kind then anchor_marks id else object_marks s id old new)

abbrev pub marks_by_kind : State → Id → Option Object → Option Object → List Key
marks_by_kind s id old new =
    if is_namespace id.kind then namespace_marks_by s id.name old new else (
    if is_modes id then mode_marks s old new else (inner_marks_by s id old new ++ leaving_keys (forest_of s) id.ns))

-- ---- reports

-- a namespace is replaced, or begins to leave, goes, or is made
abbrev pub namespace_reports_by : State → List ℕ → Option Object → Option Object → List Key
namespace_reports_by s n (Some old) (Some x) = if begins_to_end old x then ending_reports (forest_of s) n else []
namespace_reports_by s n (Some old) None = removed_reports (forest_of s) n
namespace_reports_by s n None (Some x) = created_reports (forest_of s) n (parent_with (object_at s.objects (hierarchy_id n)) x)
namespace_reports_by s n None None = []

-- a namespace gets a parent, or keeps the one that it has
abbrev pub place_reports_to : State → List ℕ → Option (List ℕ) → List Key
place_reports_to s n parent = placed_reports (forest_of s) n (parent_of (forest_of s) n) parent (is_open (forest_of s) n) (opens_under (forest_of s) n parent)

-- a HierarchyConfiguration is written, or is removed
abbrev pub hierarchy_reports_by : State → Id → Option Object → List Key
hierarchy_reports_by s id new = if bytes_eq id.name hierarchy then place_reports_to s id.ns (option_and_then (parent_with new) (object_at s.objects (namespace_id id.ns))) else []

abbrev pub report_marks_by : State → Id → Option Object → Option Object → List Key
report_marks_by s id old new =
    if is_namespace id.kind then namespace_reports_by s id.name old new else (
    if is_hierarchy id.kind then hierarchy_reports_by s id new else (
    if is_anchor id.kind then anchored_reports s id old new else []))

-- ---- all

abbrev pub marks_before_by : State → Id → Option Object → Option Object → List Key
marks_before_by s id old new = marks_by_kind s id old new ++ (report_marks_by s id old new ++ usage_marks s id old new)

abbrev pub marks_before : State → Write → List Key
marks_before s write = marks_before_by s (id_written write) (object_at s.objects (id_written write)) (object_written write)

-- among others, which put these namespaces as on their way out
abbrev pub marks_before_among : State → List (List ℕ) → Write → List Key
marks_before_among s names write =
    if ends_following (forest_of s) names (id_written write) (object_at s.objects (id_written write)) (object_written write)
    then following_marks s (id_written write).name
    else marks_before s write
