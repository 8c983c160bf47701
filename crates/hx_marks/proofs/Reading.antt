-- That what is read off the state before a write is what it marks.
--     marks_read     a write that may be made of a valid state
--     all_read       the writes of one commit, which put these namespaces as on their way out
use Rattle.std.specs.Prelude.{is_some, option_and_then, flat_map}
use Rattle.std.proofs.Common.{◌≡◌, ℕ, Bool, true, false, cond, Option, Some, None, option_map, List, [], ◌∷◌, ◌++◌, refl, sym, ap, ◌∙◌, true≢false, if◌then◌else◌}
use Rattle.std.specs.List.{AllByRecursion}
use Rattle.std.specs.Option.{option_map_or}
use Rattle.std.specs.Str.{bytes_eq}
use Rattle.std.proofs.lemmas.Bool.{false_from_ne_true}
use Rattle.hx_object.specs.declared.object.Id.{Id}
use Rattle.hx_object.specs.declared.object.Object.{Object}
use Rattle.hx_model.specs.Cases.{same_name}
use Rattle.hx_model.specs.Forest.{Forest, is_there, parent_of, with_parent}
use Rattle.hx_model.specs.Limits.{is_namespace, is_hierarchy, is_anchor}
use Rattle.hx_model.specs.Serving.{IsServed}
use Rattle.hx_model.specs.State.{State, Objects, home_in, namespace_id, object_at, put, same_id, state_after}
use Rattle.hx_model.specs.Tree.{hierarchy, hierarchy_id, forest_of, node_in, parent_with}
use Rattle.hx_model.specs.TreeLabels.{is_open}
use Rattle.hx_model.specs.Valid.{IsStored, IsValid}
use Rattle.hx_model.specs.Writes.{MayWrite, id_written}
use Rattle.hx_model.specs.declared.node.Node.{Node}
use Rattle.hx_model.specs.declared.key.Key.{Key}
use Rattle.hx_model.specs.declared.key.Write.{Write}
use Rattle.hx_model.specs.declared.key.Write.TheVariants.{Put, Cut}
use Rattle.hx_model.proofs.Moving.{moved_parent}
use Rattle.hx_model.proofs.Objects.{is_same_id, object_at-put, object_at-put_itself}
use Rattle.hx_model.proofs.Planting.{namespace_is_homed, node_of-objects, there-objects, home_of_hierarchy, forest-put_moves, forest-cut_moves}
use Rattle.hx_model.proofs.Storing.{All-put}
use Rattle.hx_model.proofs.Walking.{no_parent}
use Rattle.hx_marks.specs.Before.{hierarchy_marks, hierarchy_reports_by, inner_marks_by, marks_before, marks_before_among, marks_by_kind, namespace_marks_by, namespace_reports_by, opens_under, report_marks_by}
use Rattle.hx_marks.specs.Law.{anchor_marks, created_marks, ends_following, following_marks, hierarchy_reports, inner_marks, is_modes, leaving_keys, mode_marks, marks_among, marks_by, marks_of, move_marks, moved_by, namespace_marks, namespace_reports, object_marks, object_written, report_marks}
use Rattle.hx_marks.specs.Reports.{anchored_reports, created_reports, placed_reports, report_keys}
use Rattle.hx_marks.specs.Usage.{usage_marks}
use Rattle.hx_marks.proofs.TakingPart.{opens_after}

all_served : (last : ℕ) (objects : Objects) → AllByRecursion (IsStored last) objects → AllByRecursion IsServed objects
all_served last [] h = tt
all_served last (x ∷ objects) h = (h.0.served, all_served last objects h.1)

module _ (s : State) (valid : IsValid s) where
  served : AllByRecursion IsServed s.objects
  served = all_served s.last s.objects valid.stored

  -- ---- HierarchyConfigurations

  -- the tree after a HierarchyConfiguration is `new`, or is gone
  abbrev tree_by : Id → Option Object → Option Object → Forest
  tree_by id new home = option_map_or (λ x. with_parent id.ns (parent_with new x) (forest_of s)) home (forest_of s)

  -- what is marked by the parent of a namespace and by whether it takes part then
  module _ (marked : List ℕ → Option (List ℕ) → Bool → List Key) (idle : (n : List ℕ) (a b : Bool) → parent_of (forest_of s) n ≡ None → marked n None a ≡ marked n None b) where
    abbrev marked_then : State → List ℕ → List Key
    marked_then t n = marked n (parent_of (forest_of t) n) (is_open (forest_of t) n)

    abbrev marked_to : List ℕ → Option (List ℕ) → List Key
    marked_to n parent = marked n parent (opens_under (forest_of s) n parent)

    -- the namespace is there, and gets that parent
    to_parent : (t : State) (n : List ℕ) (parent : Option (List ℕ)) → is_there (forest_of s) n ≡ true → forest_of t ≡ with_parent n parent (forest_of s) → marked_then t n ≡ marked_to n parent
    to_parent t n parent there tree =
        let named : parent_of (forest_of t) n ≡ parent = ap (λ (f : Forest). parent_of f n) tree ∙ moved_parent (forest_of s) n parent there in
        let opens : is_open (forest_of t) n ≡ opens_under (forest_of s) n parent = ap (λ (f : Forest). is_open f n) tree ∙ opens_after (forest_of s) n parent there in
        λ i. marked n (named i) (opens i)

    -- it isn't there
    to_none : (t : State) (n : List ℕ) → is_there (forest_of s) n ≡ false → forest_of t ≡ forest_of s → marked_then t n ≡ marked_to n None
    to_none t n out tree =
        let none = no_parent (forest_of s) n out in
        ap (λ (f : Forest). marked n (parent_of f n) (is_open f n)) tree ∙ ap (λ p. marked n p (is_open (forest_of s) n)) none ∙ idle n (is_open (forest_of s) n) (opens_under (forest_of s) n None) none

    by_home : (t : State) (id : Id) (new home : Option Object) → object_at s.objects (namespace_id id.ns) ≡ home → forest_of t ≡ tree_by id new home → marked_then t id.ns ≡ marked_to id.ns (option_and_then (parent_with new) home)
    by_home t id new None at tree = to_none t id.ns (there-objects s.config.excluded s.objects id.ns served ∙ ap is_some at) tree
    by_home t id new (Some x) at tree = to_parent t id.ns (parent_with new x) (there-objects s.config.excluded s.objects id.ns served ∙ ap is_some at) tree

    read_by : (t : State) (id : Id) (new : Option Object) → is_hierarchy id.kind ≡ true → forest_of t ≡ (if bytes_eq id.name hierarchy then tree_by id new (home_in s.objects id) else forest_of s)
        → (if bytes_eq id.name hierarchy then marked_then t id.ns else []) ≡ (if bytes_eq id.name hierarchy then marked_to id.ns (option_and_then (parent_with new) (object_at s.objects (namespace_id id.ns))) else [])
    read_by t id new is = by_name (bytes_eq id.name hierarchy)
      where
        by_name : (b : Bool) → forest_of t ≡ (if b then tree_by id new (home_in s.objects id) else forest_of s)
            → (if b then marked_then t id.ns else []) ≡ (if b then marked_to id.ns (option_and_then (parent_with new) (object_at s.objects (namespace_id id.ns))) else [])
        by_name true tree = by_home t id new (object_at s.objects (namespace_id id.ns)) refl (tree ∙ ap (tree_by id new) (home_of_hierarchy s.objects id is))
        by_name false tree = refl

    pub hierarchy_read : (write : Write) → is_hierarchy (id_written write).kind ≡ true
        → (if bytes_eq (id_written write).name hierarchy then marked_then (state_after s (write ∷ [])) (id_written write).ns else [])
        ≡ (if bytes_eq (id_written write).name hierarchy then marked_to (id_written write).ns (option_and_then (parent_with (object_written write)) (object_at s.objects (namespace_id (id_written write).ns))) else [])
    hierarchy_read (Put x) is = read_by (state_after s (Put x ∷ [])) x.id (Some x) is (forest-put_moves s.config.excluded s.objects x.id is valid.in_order served x _ refl refl)
    hierarchy_read (Cut id) is = read_by (state_after s (Cut id ∷ [])) id None is (forest-cut_moves s.config.excluded s.objects id is valid.in_order served)

  -- a namespace without a parent that gets none moves nowhere
  abbrev moves : List ℕ → Option (List ℕ) → Bool → List Key
  moves n parent opens = if same_name (parent_of (forest_of s) n) parent then [] else moved_by s n (parent_of (forest_of s) n) parent (is_open (forest_of s) n) opens

  no_move : (n : List ℕ) (a b : Bool) → parent_of (forest_of s) n ≡ None → moves n None a ≡ moves n None b
  no_move n a b none = to a ∙ sym (to b)
    where
      to : (c : Bool) → moves n None c ≡ []
      to c = λ i. if same_name (none i) None then [] else moved_by s n (none i) None (is_open (forest_of s) n) c

  abbrev reports : List ℕ → Option (List ℕ) → Bool → List Key
  reports n parent opens = placed_reports (forest_of s) n (parent_of (forest_of s) n) parent (is_open (forest_of s) n) opens

  no_report : (n : List ℕ) (a b : Bool) → parent_of (forest_of s) n ≡ None → reports n None a ≡ reports n None b
  no_report n a b none = to a ∙ sym (to b)
    where
      to : (c : Bool) → reports n None c ≡ report_keys (forest_of s) n
      to c = λ i. placed_reports (forest_of s) n (none i) None (is_open (forest_of s) n) c

  -- ---- namespaces

  -- the parent of one that is made
  made : (x : Object) → IsServed x → is_namespace x.id.kind ≡ true → parent_of (forest_of (state_after s (Put x ∷ []))) x.id.name ≡ parent_with (object_at s.objects (hierarchy_id x.id.name)) x
  made x fits is =
      let homed = namespace_is_homed x fits is in
      let found : object_at (put x s.objects) (namespace_id x.id.name) ≡ Some x = ap (object_at (put x s.objects)) (sym homed) ∙ object_at-put_itself x s.objects in
      let other : same_id (hierarchy_id x.id.name) x.id ≡ false = false_from_ne_true (same_id (hierarchy_id x.id.name) x.id) (λ h. true≢false (ap (λ (q : Id). is_hierarchy q.kind) (is_same_id (hierarchy_id x.id.name) x.id h) ∙ ap (λ (q : Id). is_hierarchy q.kind) homed)) in
      ap (option_and_then (λ (node : Node). node.parent)) (node_of-objects s.config.excluded (put x s.objects) x.id.name (All-put IsServed x s.objects fits served))
      ∙ ap (λ o. option_and_then (λ (node : Node). node.parent) (option_map (node_in s.config.excluded (put x s.objects)) o)) found
      ∙ ap (λ o. parent_with o x) (object_at-put x s.objects (hierarchy_id x.id.name) ∙ ap (λ b. cond b (Some x) (object_at s.objects (hierarchy_id x.id.name))) other)

  namespace_read : (write : Write) (old : Option Object) → object_at s.objects (id_written write) ≡ old → MayWrite s write → is_namespace (id_written write).kind ≡ true
      → namespace_marks s (state_after s (write ∷ [])) (id_written write).name old (object_written write) ≡ namespace_marks_by s (id_written write).name old (object_written write)
  namespace_read (Put x) (Some old) at may is = refl
  namespace_read (Put x) None at may is = ap (created_marks s x.id.name) (made x may.served is)
  namespace_read (Cut id) (Some old) at may is = refl
  namespace_read (Cut id) None at may is = absurd (true≢false (ap is_some (sym may.there.1 ∙ at)))

  -- and whose reports change with one
  namespace_told : (write : Write) (old : Option Object) → object_at s.objects (id_written write) ≡ old → MayWrite s write → is_namespace (id_written write).kind ≡ true
      → namespace_reports s (state_after s (write ∷ [])) (id_written write).name old (object_written write) ≡ namespace_reports_by s (id_written write).name old (object_written write)
  namespace_told (Put x) (Some old) at may is = refl
  namespace_told (Put x) None at may is = ap (created_reports (forest_of s) x.id.name) (made x may.served is)
  namespace_told (Cut id) (Some old) at may is = refl
  namespace_told (Cut id) None at may is = absurd (true≢false (ap is_some (sym may.there.1 ∙ at)))

  -- ---- writes

  moved_read : (write : Write) → is_hierarchy (id_written write).kind ≡ true
      → (if bytes_eq (id_written write).name hierarchy then move_marks s (state_after s (write ∷ [])) (id_written write).ns else []) ≡ hierarchy_marks s (id_written write) (object_written write)
  moved_read = hierarchy_read moves no_move

  told_read : (write : Write) → is_hierarchy (id_written write).kind ≡ true
      → (if bytes_eq (id_written write).name hierarchy then hierarchy_reports s (state_after s (write ∷ [])) (id_written write).ns else []) ≡ hierarchy_reports_by s (id_written write) (object_written write)
  told_read = hierarchy_read reports no_report

  abbrev old_at : Write → Option Object
  old_at write = object_at s.objects (id_written write)

  abbrev others : Write → List Key
  others write = if is_anchor (id_written write).kind then anchor_marks (id_written write) else object_marks s (id_written write) (old_at write) (object_written write)

  inner_read : (write : Write) → inner_marks s (state_after s (write ∷ [])) (id_written write) (old_at write) (object_written write) ≡ inner_marks_by s (id_written write) (old_at write) (object_written write)
  inner_read write =
      elim (is_hierarchy (id_written write).kind) as (λ b. is_hierarchy (id_written write).kind ≡ b
      → (if b then (if bytes_eq (id_written write).name hierarchy then move_marks s (state_after s (write ∷ [])) (id_written write).ns else []) else others write)
      ≡ (if b then hierarchy_marks s (id_written write) (object_written write) else others write)) [
        | true ↦ λ is. moved_read write is
        | false ↦ λ _. refl
      ] refl

  -- the marks of an object that is no namespace, by those of what lies in one
  abbrev leaf_marks : Write → List Key → List Key
  leaf_marks write inner = if is_modes (id_written write) then mode_marks s (old_at write) (object_written write) else (inner ++ leaving_keys (forest_of s) (id_written write).ns)

  kinds_read : (write : Write) → MayWrite s write
      → marks_by s (state_after s (write ∷ [])) (id_written write) (old_at write) (object_written write) ≡ marks_by_kind s (id_written write) (old_at write) (object_written write)
  kinds_read write may =
      elim (is_namespace (id_written write).kind) as (λ b. is_namespace (id_written write).kind ≡ b
      → (if b then namespace_marks s (state_after s (write ∷ [])) (id_written write).name (old_at write) (object_written write) else leaf_marks write (inner_marks s (state_after s (write ∷ [])) (id_written write) (old_at write) (object_written write)))
      ≡ (if b then namespace_marks_by s (id_written write).name (old_at write) (object_written write) else leaf_marks write (inner_marks_by s (id_written write) (old_at write) (object_written write)))) [
        | true ↦ λ is. namespace_read write (old_at write) refl may is
        | false ↦ λ _. ap (leaf_marks write) (inner_read write)
      ] refl

  -- the reports of an object that is no namespace
  abbrev leaf_reports : Write → List Key → Bool → List Key
  leaf_reports write placed b = if b then placed else (if is_anchor (id_written write).kind then anchored_reports s (id_written write) (old_at write) (object_written write) else [])

  abbrev placed_then : Write → List Key
  placed_then write = if bytes_eq (id_written write).name hierarchy then hierarchy_reports s (state_after s (write ∷ [])) (id_written write).ns else []

  leaf_told : (write : Write) → leaf_reports write (placed_then write) (is_hierarchy (id_written write).kind) ≡ leaf_reports write (hierarchy_reports_by s (id_written write) (object_written write)) (is_hierarchy (id_written write).kind)
  leaf_told write =
      elim (is_hierarchy (id_written write).kind) as (λ b. is_hierarchy (id_written write).kind ≡ b → leaf_reports write (placed_then write) b ≡ leaf_reports write (hierarchy_reports_by s (id_written write) (object_written write)) b) [
        | true ↦ λ is. told_read write is
        | false ↦ λ _. refl
      ] refl

  reports_read : (write : Write) → MayWrite s write
      → report_marks s (state_after s (write ∷ [])) (id_written write) (old_at write) (object_written write) ≡ report_marks_by s (id_written write) (old_at write) (object_written write)
  reports_read write may =
      elim (is_namespace (id_written write).kind) as (λ b. is_namespace (id_written write).kind ≡ b
      → (if b then namespace_reports s (state_after s (write ∷ [])) (id_written write).name (old_at write) (object_written write) else leaf_reports write (placed_then write) (is_hierarchy (id_written write).kind))
      ≡ (if b then namespace_reports_by s (id_written write).name (old_at write) (object_written write) else leaf_reports write (hierarchy_reports_by s (id_written write) (object_written write)) (is_hierarchy (id_written write).kind))) [
        | true ↦ λ is. namespace_told write (old_at write) refl may is
        | false ↦ λ _. leaf_told write
      ] refl

  pub marks_read : (write : Write) → MayWrite s write → marks_of s write ≡ marks_before s write
  marks_read write may = λ i. kinds_read write may i ++ (reports_read write may i ++ usage_marks s (id_written write) (old_at write) (object_written write))

  pub all_read : (names : List (List ℕ)) (writes : List Write) → AllByRecursion (MayWrite s) writes → flat_map (marks_among s names) writes ≡ flat_map (marks_before_among s names) writes
  all_read names [] may = refl
  all_read names (write ∷ writes) may =
      let follows : Bool = ends_following (forest_of s) names (id_written write) (object_at s.objects (id_written write)) (object_written write) in
      λ i. (if follows then following_marks s (id_written write).name else marks_read write may.0 i) ++ all_read names writes may.1 i
