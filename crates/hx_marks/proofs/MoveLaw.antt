-- A HierarchyConfiguration that is written marks what wants another write.
--     all_served         what is stored is served
--     hierarchy_among    whether a key is among all that it marks
--     MovesTree          what the tree is then
--     move_same          a key that isn't marked wants the same, by the tree
--     put_moves, cut_moves   what one that is put or cut makes of the tree
--     move_law           a key that isn't marked wants the same
use Rattle.std.proofs.Common.{◌≡◌, ℕ, ◌+◌, Bool, true, false, Option, Some, None, List, [], ◌∷◌, refl, sym, ap, ◌∙◌, subst, true≢false, cond, option_map, ◌&&◌, ◌||◌, ◌++◌}
use Rattle.std.specs.Prelude.{is_some, if◌then◌else◌}
use Rattle.std.specs.List.{AllByRecursion}
use Rattle.std.specs.Option.{option_map_or}
use Rattle.std.specs.Str.{bytes_eq}
use Rattle.std.proofs.lemmas.Bool.{false_from_ne_true}
use Rattle.hx_object.specs.Kinds.{is_hierarchy, is_anchor}
use Rattle.hx_object.specs.WellKnown.{config}
use Rattle.hx_object.specs.declared.object.Id.{Id}
use Rattle.hx_object.specs.declared.object.Object.{Object}
use Rattle.hx_object.proofs.KindTests.{hierarchy_kind}
use Rattle.hx_model.specs.Cases.{same_name, is_leaving}
use Rattle.hx_model.specs.Covered.{IsSameFor}
use Rattle.hx_model.specs.First.{or_else}
use Rattle.hx_model.specs.Forest.{Forest, is_there, parent_of, with_parent, node_of}
use Rattle.hx_model.specs.Keys.{is_among}
use Rattle.hx_model.specs.Moves.{is_eligible}
use Rattle.hx_model.specs.Serving.{IsServed}
use Rattle.hx_model.specs.State.{State, Objects, object_at, put, cut, home_in, same_id, namespace_id, state_after}
use Rattle.hx_model.specs.Tree.{hierarchy, hierarchy_id, subnamespace_parent, named_parent, forest_in, forest_of}
use Rattle.hx_model.specs.TreeLabels.{is_open}
use Rattle.hx_model.specs.Valid.{IsStored, IsValid}
use Rattle.hx_model.specs.Writes.{id_written, MayWriteAll}
use Rattle.hx_model.specs.Windows.{WindowView}
use Rattle.hx_model.specs.declared.key.Key.{Key}
use Rattle.hx_model.specs.declared.key.Key.TheVariants as key
use Rattle.hx_model.specs.declared.key.Write.{Write}
use Rattle.hx_model.specs.declared.key.Write.TheVariants.{Put, Cut}
use Rattle.hx_model.specs.declared.node.Node.{Node}
use Rattle.hx_model.proofs.Climbing.{is_same}
use Rattle.hx_model.proofs.Displacing.{KeepsOthers, put_keeps, cut_keeps, with_same_parent}
use Rattle.hx_model.proofs.Moving.{moved_parent, moved_node, with_that}
use Rattle.hx_model.proofs.Opening.{moved_live}
use Rattle.hx_model.proofs.Planting.{hierarchy_no_namespace, there-objects, home_of_hierarchy, forest-put_moves, forest-cut_moves}
use Rattle.hx_marks.specs.Law.{is_modes, moved_by, move_marks, mode_marks, namespace_marks, object_marks, marks_by, inner_marks, anchor_marks, leaving_keys, is_config_kind, object_written, hierarchy_reports, namespace_reports, report_marks}
use Rattle.hx_marks.specs.Reports.{report_keys, moved_reports, placed_reports, anchored_reports}
use Rattle.hx_marks.proofs.Among.{among_append, out_left, out_right}
use Rattle.hx_marks.proofs.Frames.{KeepsLeast, put_least, cut_least}
use Rattle.hx_marks.proofs.MoveBelow.{moved_same}
use Rattle.hx_marks.proofs.MoveReports.{eligible_there, report_out, found_apart, found_named, report_kept, report_moved}
use Rattle.hx_marks.proofs.MoveStates.{same_for}
use Rattle.hx_marks.proofs.Parts.{UsedSame, marks_beside}

pub all_served : (last : ℕ) (objects : Objects) → AllByRecursion (IsStored last) objects → AllByRecursion IsServed objects
all_served last [] h = tt
all_served last (x ∷ objects) h = (h.0.served, all_served last objects h.1)

-- it is no HNCConfiguration
no_modes : (id : Id) → is_hierarchy id.kind ≡ true → is_modes id ≡ false
no_modes id is = ap (λ kind. is_config_kind kind && bytes_eq id.name config) (hierarchy_kind id.kind is)

-- what it marks but for reports: by its name, and the removal of its namespace
hierarchy_marks : (s t : State) (id : Id) (old new : Option Object) → is_hierarchy id.kind ≡ true → marks_by s t id old new ≡ (if bytes_eq id.name hierarchy then move_marks s t id.ns else []) ++ leaving_keys (forest_of s) id.ns
hierarchy_marks s t id old new is =
    let moves = if bytes_eq id.name hierarchy then move_marks s t id.ns else [] in
    let leaving = leaving_keys (forest_of s) id.ns in
    ap (λ b. if b then namespace_marks s t id.name old new else (if is_modes id then mode_marks s old new else (inner_marks s t id old new ++ leaving))) (hierarchy_no_namespace id is)
    ∙ ap (λ b. if b then mode_marks s old new else (inner_marks s t id old new ++ leaving)) (no_modes id is)
    ∙ ap (λ b. (if b then moves else (if is_anchor id.kind then anchor_marks id else object_marks s id old new)) ++ leaving) is

-- the reports that it marks: by its name
hierarchy_told : (s t : State) (id : Id) (old new : Option Object) → is_hierarchy id.kind ≡ true → report_marks s t id old new ≡ (if bytes_eq id.name hierarchy then hierarchy_reports s t id.ns else [])
hierarchy_told s t id old new is =
    let told = if bytes_eq id.name hierarchy then hierarchy_reports s t id.ns else [] in
    let anchored = if is_anchor id.kind then anchored_reports s id old new else [] in
    ap (λ b. if b then namespace_reports s t id.name old new else (if is_hierarchy id.kind then told else anchored)) (hierarchy_no_namespace id is)
    ∙ ap (λ b. if b then told else anchored) is

-- whether a key is among all that it marks: by its name, of the removal of its namespace, and of reports by its name
pub hierarchy_among : (s t : State) (id : Id) (old new : Option Object) → is_hierarchy id.kind ≡ true → (k : Key)
    → is_among k (marks_by s t id old new ++ report_marks s t id old new)
    ≡ ((is_among k (if bytes_eq id.name hierarchy then move_marks s t id.ns else []) || is_among k (leaving_keys (forest_of s) id.ns)) || is_among k (if bytes_eq id.name hierarchy then hierarchy_reports s t id.ns else []))
hierarchy_among s t id old new is k =
    let moves = if bytes_eq id.name hierarchy then move_marks s t id.ns else [] in
    among_append k (marks_by s t id old new) (report_marks s t id old new)
    ∙ (λ i. is_among k (hierarchy_marks s t id old new is i) || is_among k (hierarchy_told s t id old new is i))
    ∙ ap (λ b. b || is_among k (if bytes_eq id.name hierarchy then hierarchy_reports s t id.ns else [])) (among_append k moves (leaving_keys (forest_of s) id.ns))

same_names : (a b : Option (List ℕ)) → same_name a b ≡ true → a ≡ b
same_names None None h = refl
same_names None (Some b) h = absurd (true≢false (sym h))
same_names (Some a) None h = absurd (true≢false (sym h))
same_names (Some a) (Some b) h = ap (λ x. Some x) (is_same a b h)

-- what the tree is then, where it names that parent
abbrev pub MovesTree : State → Id → Option (List ℕ) → Objects → Type 0
MovesTree s id named new =
    forest_in s.config.excluded new ≡ (if bytes_eq id.name hierarchy then option_map_or (λ home. with_parent id.ns (or_else (subnamespace_parent home) named) (forest_of s)) (home_in s.objects id) (forest_of s) else forest_of s)

-- who is on its way out is so under any parent
moved_leaving : (f : Forest) (n : List ℕ) (parent : Option (List ℕ)) (a : List ℕ) → is_leaving (with_parent n parent f) a ≡ is_leaving f a
moved_leaving f n parent a = ap (λ o. option_map_or (λ (node : Node). node.terminating) o false) (moved_node f n parent a) ∙ by (bytes_eq n a) (node_of f a)
  where
    by : (b : Bool) (o : Option Node) → option_map_or (λ (node : Node). node.terminating) (cond b (option_map (with_that parent) o) o) false ≡ option_map_or (λ (node : Node). node.terminating) o false
    by true None = refl
    by true (Some node) = refl
    by false o = refl

module _ (s : State) (valid : IsValid s) (id : Id) (is : is_hierarchy id.kind ≡ true) (new : Objects) (last : ℕ) (window : WindowView) (keeps : KeepsOthers id s.objects new) (least : KeepsLeast id s.objects new) (k : Key) (out : is_among k (leaving_keys (forest_of s) id.ns) ≡ false) (used : UsedSame s (record s { objects = new; last = last; window = window }) k) where
  abbrev after : State
  after = record s { objects = new; last = last; window = window }

  -- where the tree stays
  stays : forest_in s.config.excluded new ≡ forest_of s → ((m : List ℕ) → k ≡ key.Report m → is_eligible (forest_of s) m ≡ true → same_id (hierarchy_id m) id ≡ false) → IsSameFor s after k
  stays tree apart = same_for s id is new last window keeps (forest_of s) tree (λ n. refl) (λ n. refl) least k (λ m report. report_kept s id is new last window keeps m tree (apart m report)) used out refl

  -- where its namespace is there
  moves : (home : Object) (parent : Option (List ℕ)) → object_at s.objects (namespace_id id.ns) ≡ Some home → forest_in s.config.excluded new ≡ with_parent id.ns parent (forest_of s)
      → is_among k (move_marks s after id.ns) ≡ false → is_among k (hierarchy_reports s after id.ns) ≡ false → IsSameFor s after k
  moves home parent here tree unmarked untold = by (same_name (parent_of (forest_of s) id.ns) parent) refl unmarked_then untold_then
    where
      there : is_there (forest_of s) id.ns ≡ true
      there = there-objects s.config.excluded s.objects id.ns (all_served s.last s.objects valid.stored) ∙ ap is_some here

      moved : Forest
      moved = with_parent id.ns parent (forest_of s)

      unmarked_then : is_among k (if same_name (parent_of (forest_of s) id.ns) parent then [] else moved_by s id.ns (parent_of (forest_of s) id.ns) parent (is_open (forest_of s) id.ns) (is_open moved id.ns)) ≡ false
      unmarked_then =
          subst (λ (p : Option (List ℕ)). is_among k (if same_name (parent_of (forest_of s) id.ns) p then [] else moved_by s id.ns (parent_of (forest_of s) id.ns) p (is_open (forest_of s) id.ns) (is_open moved id.ns)) ≡ false) (moved_parent (forest_of s) id.ns parent there)
          (subst (λ (g : Forest). is_among k (if same_name (parent_of (forest_of s) id.ns) (parent_of g id.ns) then [] else moved_by s id.ns (parent_of (forest_of s) id.ns) (parent_of g id.ns) (is_open (forest_of s) id.ns) (is_open g id.ns)) ≡ false) tree unmarked)

      untold_then : is_among k (placed_reports (forest_of s) id.ns (parent_of (forest_of s) id.ns) parent (is_open (forest_of s) id.ns) (is_open moved id.ns)) ≡ false
      untold_then =
          subst (λ (p : Option (List ℕ)). is_among k (placed_reports (forest_of s) id.ns (parent_of (forest_of s) id.ns) p (is_open (forest_of s) id.ns) (is_open moved id.ns)) ≡ false) (moved_parent (forest_of s) id.ns parent there)
          (subst (λ (g : Forest). is_among k (placed_reports (forest_of s) id.ns (parent_of (forest_of s) id.ns) (parent_of g id.ns) (is_open (forest_of s) id.ns) (is_open g id.ns)) ≡ false) tree untold)

      by : (b : Bool) → same_name (parent_of (forest_of s) id.ns) parent ≡ b
          → is_among k (if b then [] else moved_by s id.ns (parent_of (forest_of s) id.ns) parent (is_open (forest_of s) id.ns) (is_open moved id.ns)) ≡ false
          → is_among k (if b then report_keys (forest_of s) id.ns else moved_reports (forest_of s) id.ns (parent_of (forest_of s) id.ns) parent (is_open (forest_of s) id.ns) (is_open moved id.ns)) ≡ false → IsSameFor s after k
      by true same marks told =
          stays (tree ∙ ap (λ p. with_parent id.ns p (forest_of s)) (sym (same_names (parent_of (forest_of s) id.ns) parent same)) ∙ with_same_parent s valid id.ns home here)
          (λ m report eligible. found_apart id m (report_out (forest_of s) id.ns m eligible (sym (ap (λ (q : Key). is_among q (report_keys (forest_of s) id.ns)) report) ∙ told)))
      by false differs marks told =
          same_for s id is new last window keeps moved tree (moved_live (forest_of s) id.ns parent) (moved_leaving (forest_of s) id.ns parent) least k
          (λ m report. report_moved s id is new last window keeps m parent there tree (sym (ap (λ (q : Key). is_among q (moved_reports (forest_of s) id.ns (parent_of (forest_of s) id.ns) parent (is_open (forest_of s) id.ns) (is_open moved id.ns))) report) ∙ told))
          used out (moved_same s id.ns parent there (with_same_parent s valid id.ns home here) k marks)

  by_home : (named : Option (List ℕ)) (o : Option Object) → object_at s.objects (namespace_id id.ns) ≡ o
      → forest_in s.config.excluded new ≡ option_map_or (λ home. with_parent id.ns (or_else (subnamespace_parent home) named) (forest_of s)) o (forest_of s)
      → is_among k (move_marks s after id.ns) ≡ false → is_among k (hierarchy_reports s after id.ns) ≡ false → IsSameFor s after k
  by_home named None here tree unmarked untold = stays tree (λ m report eligible. found_apart id m (false_from_ne_true (bytes_eq id.ns m) (λ h. true≢false (sym (eligible_there (forest_of s) m eligible) ∙ ap (is_there (forest_of s)) (sym (is_same id.ns m h)) ∙ gone))))
    where
      gone : is_there (forest_of s) id.ns ≡ false
      gone = there-objects s.config.excluded s.objects id.ns (all_served s.last s.objects valid.stored) ∙ ap is_some here
  by_home named (Some home) here tree unmarked untold = moves home (or_else (subnamespace_parent home) named) here tree unmarked untold

  -- a key that isn't marked wants the same
  pub move_same : (named : Option (List ℕ)) → MovesTree s id named new → is_among k (if bytes_eq id.name hierarchy then move_marks s after id.ns else []) ≡ false
      → is_among k (if bytes_eq id.name hierarchy then hierarchy_reports s after id.ns else []) ≡ false → IsSameFor s after k
  move_same named tree unmarked untold = by_name (bytes_eq id.name hierarchy) refl tree unmarked untold
    where
      by_name : (b : Bool) → bytes_eq id.name hierarchy ≡ b
          → forest_in s.config.excluded new ≡ (if b then option_map_or (λ home. with_parent id.ns (or_else (subnamespace_parent home) named) (forest_of s)) (home_in s.objects id) (forest_of s) else forest_of s)
          → is_among k (if b then move_marks s after id.ns else []) ≡ false → is_among k (if b then hierarchy_reports s after id.ns else []) ≡ false → IsSameFor s after k
      by_name true called tree unmarked untold =
          by_home named (object_at s.objects (namespace_id id.ns)) refl
          (tree ∙ ap (λ o. option_map_or (λ home. with_parent id.ns (or_else (subnamespace_parent home) named) (forest_of s)) o (forest_of s)) (home_of_hierarchy s.objects id is)) unmarked untold
      by_name false other tree unmarked untold = stays tree (λ m report eligible. found_named id m other)

pub put_moves : (s : State) → IsValid s → (x : Object) → is_hierarchy x.id.kind ≡ true → MovesTree s x.id (named_parent x) (put x s.objects)
put_moves s valid x is = forest-put_moves s.config.excluded s.objects x.id is valid.in_order (all_served s.last s.objects valid.stored) x (named_parent x) refl refl

pub cut_moves : (s : State) → IsValid s → (id : Id) → is_hierarchy id.kind ≡ true → MovesTree s id None (cut id s.objects)
cut_moves s valid id is = forest-cut_moves s.config.excluded s.objects id is valid.in_order (all_served s.last s.objects valid.stored)

-- a key that isn't marked wants the same on the same guards
pub move_law : (s : State) (write : Write) → IsValid s → MayWriteAll s (write ∷ []) → is_hierarchy (id_written write).kind ≡ true → (k : Key) → is_among k (marks_beside s write) ≡ false → UsedSame s (state_after s (write ∷ [])) k → IsSameFor s (state_after s (write ∷ [])) k
move_law s write valid may is k unmarked used = by write is used (sym (hierarchy_among s (state_after s (write ∷ [])) (id_written write) (object_at s.objects (id_written write)) (object_written write) is k) ∙ unmarked)
  where
    moving : Write → Bool
    moving w = is_among k (if bytes_eq (id_written w).name hierarchy then move_marks s (state_after s (w ∷ [])) (id_written w).ns else [])

    leaving : Write → Bool
    leaving w = is_among k (leaving_keys (forest_of s) (id_written w).ns)

    telling : Write → Bool
    telling w = is_among k (if bytes_eq (id_written w).name hierarchy then hierarchy_reports s (state_after s (w ∷ [])) (id_written w).ns else [])

    by : (w : Write) → is_hierarchy (id_written w).kind ≡ true → UsedSame s (state_after s (w ∷ [])) k → ((moving w || leaving w) || telling w) ≡ false → IsSameFor s (state_after s (w ∷ [])) k
    by (Put x) is used none =
        let some = out_left (moving (Put x) || leaving (Put x)) (telling (Put x)) none in
        move_same s valid x.id is (put x s.objects) (s.last + 1) _ (put_keeps x x.id s.objects refl) (put_least x s.objects) k (out_right (moving (Put x)) (leaving (Put x)) some) used (named_parent x) (put_moves s valid x is)
        (out_left (moving (Put x)) (leaving (Put x)) some) (out_right (moving (Put x) || leaving (Put x)) (telling (Put x)) none)
    by (Cut id) is used none =
        let some = out_left (moving (Cut id) || leaving (Cut id)) (telling (Cut id)) none in
        move_same s valid id is (cut id s.objects) (s.last + 1) _ (cut_keeps id s.objects) (cut_least id s.objects) k (out_right (moving (Cut id)) (leaving (Cut id)) some) used None (cut_moves s valid id is)
        (out_left (moving (Cut id)) (leaving (Cut id)) some) (out_right (moving (Cut id) || leaving (Cut id)) (telling (Cut id)) none)
