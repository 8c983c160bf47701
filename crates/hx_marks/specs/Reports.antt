-- Whose reports a write changes.
--     report_keys f n, reports_of f names   the key of a namespace's report, where it takes reports;  of some namespaces
--     ending_reports         a namespace is on its way out from now on
--     removed_reports        a namespace goes
--     created_reports        a namespace is made
--     moved_reports          a namespace gets another parent
--     placed_reports         its HierarchyConfiguration is written or removed
--     anchored_reports       an anchor is written or removed
-- All is read off the state before the write. A report tells the children of a namespace, why it is halted, and that it misses its anchor.
use Rattle.std.specs.Prelude.{ℕ, Bool, true, false, ◌&&◌, ◌||◌, List, [], ◌∷◌, ◌++◌, flat_map, Option, is_some, if◌then◌else◌}
use Rattle.std.specs.Option.{option_map_or}
use Rattle.hx_object.specs.declared.object.Id.{Id}
use Rattle.hx_object.specs.declared.object.Object.{Object}
use Rattle.hx_model.specs.Answers.{owns_named}
use Rattle.hx_model.specs.Cases.{same_name}
use Rattle.hx_model.specs.Forest.{Forest, chain_of, children_of, comes_back, in_chain, parent_of}
use Rattle.hx_model.specs.Moves.{chain_from, is_eligible}
use Rattle.hx_model.specs.Propagation.{as_list}
use Rattle.hx_model.specs.State.{State}
use Rattle.hx_model.specs.Tree.{forest_of}
use Rattle.hx_model.specs.declared.key.Key.{Key}
use Rattle.hx_model.specs.declared.key.Key.TheVariants as key
use Rattle.hx_marks.specs.Below.{below_children, differ, live_below, open_below}

-- ---- keys

-- the key of the report of a namespace that is there, included and not on its way out
abbrev pub report_keys : Forest → List ℕ → List Key
report_keys f n = if is_eligible f n then key.Report n ∷ [] else []

abbrev pub reports_of : Forest → List (List ℕ) → List Key
reports_of f names = flat_map (report_keys f) names

-- ---- namespaces

-- A namespace is on its way out from now on: its own report, those of its children, whose parent counts as missing, and of what took part below it
abbrev pub ending_reports : Forest → List ℕ → List Key
ending_reports f n = report_keys f n ++ (reports_of f (children_of f n) ++ reports_of f (open_below f n))

-- A namespace goes: its parent loses a child, its children lose their parent, and where it was its own ancestor that ring opens
abbrev pub removed_reports : Forest → List ℕ → List Key
removed_reports f n = reports_of f (as_list (parent_of f n)) ++ (reports_of f (children_of f n) ++ (if comes_back f n then reports_of f (chain_of f n) else []))

abbrev pub has_any : List (List ℕ) → Bool
has_any [] = false
has_any (name ∷ names) = true

-- A namespace is made: its own report, where it has a parent or children, its parent's, and those of all that waited for it below
abbrev pub created_reports : Forest → List ℕ → Option (List ℕ) → List Key
created_reports f n parent =
    (if is_some parent || has_any (children_of f n) then key.Report n ∷ [] else []) ++ (reports_of f (as_list parent) ++ reports_of f (below_children f n))

-- ---- moves

-- the members of the ring that a namespace is in under a parent, with what is above it
abbrev pub ring_reports : Forest → List ℕ → Option (List ℕ) → List Key
ring_reports f n parent = if option_map_or (λ p. in_chain f p n) parent false then reports_of f (chain_from f parent) else []

-- A namespace gets another parent: its own report, both parents', those of the rings that open and close, and where it begins or ends to take part those below it that do so with it
abbrev pub moved_reports : Forest → List ℕ → Option (List ℕ) → Option (List ℕ) → Bool → Bool → List Key
moved_reports f n old new before after =
    report_keys f n ++ (reports_of f (as_list old) ++ (reports_of f (as_list new) ++ (ring_reports f n old ++ (ring_reports f n new ++ (if differ before after then reports_of f (live_below f n) else [])))))

-- where the parent stays, its own report alone
abbrev pub placed_reports : Forest → List ℕ → Option (List ℕ) → Option (List ℕ) → Bool → Bool → List Key
placed_reports f n old new before after = if same_name old new then report_keys f n else moved_reports f n old new before after

-- ---- anchors

-- An anchor is made or removed, by which a namespace is there: the report of that one
abbrev pub anchored_reports : State → Id → Option Object → Option Object → List Key
anchored_reports s id old new = if differ (is_some old) (is_some new) && owns_named s id then report_keys (forest_of s) id.name else []
