-- Which keys a namespace that is replaced marks.
--     label_law        keys that aren't marked want what they wanted
--     within_labels    those that are marked may be
use Rattle.std.proofs.Common.{◌≡◌, ℕ, Bool, true, false, not, Option, Some, None, option_map, List, [], ◌∷◌, inl, inr, refl, sym, ap, ◌∙◌, subst, true≢false, ◌||◌, ◌++◌}
use Rattle.std.specs.Prelude.{is_none, is_some, if◌then◌else◌}
use Rattle.std.specs.Option.{option_map_or}
use Rattle.std.specs.Str.{bytes_eq}
use Rattle.std.proofs.lemmas.Bool.{cases_Bool, or_left, and_parts, or_cases, false_from_ne_true}
use Rattle.std.proofs.lemmas.List.{append-nil}
use Rattle.hx_object.specs.Kinds.{can_be_copied, is_anchor, is_hierarchy, is_namespace, is_plain, is_in_cluster}
use Rattle.hx_object.proofs.KindTests.{namespace_kind}
use Rattle.hx_object.specs.declared.kind.Kind.{Kind}
use Rattle.hx_object.specs.declared.object.Id.{Id}
use Rattle.hx_object.specs.declared.object.Object.{Object}
use Rattle.hx_object.specs.declared.kind.Kind.TheVariants.{SubnamespaceAnchor}
use Rattle.hx_object.specs.declared.object.AnchorStatus.TheVariants.{Ok, Conflict, Forbidden}
use Rattle.hx_model.specs.Cases.{same_name, is_leaving}
use Rattle.hx_model.specs.Covered.{IsSameFor}
use Rattle.hx_model.specs.Forest.{Forest, node_of, is_there, is_live, chain_of, children_of, halt_of, is_in}
use Rattle.hx_model.specs.Keys.{is_among, is_key, may_mark, has_named}
use Rattle.hx_model.specs.Modes.{mode_of}
use Rattle.hx_model.specs.Moves.{is_eligible}
use Rattle.hx_model.specs.Propagation.{id_in, sources_above}
use Rattle.hx_model.specs.Serving.{IsServed}
use Rattle.hx_model.specs.State.{State, object_at, put, namespace_id, state_after, lies_in}
use Rattle.hx_model.specs.Subnamespaces.{anchor_id}
use Rattle.hx_model.specs.Tree.{forest_of, hierarchy, hierarchy_id, is_terminating}
use Rattle.hx_model.specs.TreeLabels.{is_open}
use Rattle.hx_model.specs.Valid.{IsValid}
use Rattle.hx_model.specs.Wanted.{copy_write, tree_write, guard_at, status_by, anchor_status}
use Rattle.hx_model.specs.Writes.{KeepsItsPlace, MayWriteAll, HasPlace}
use Rattle.hx_model.specs.declared.key.Key.{Key}
use Rattle.hx_model.specs.declared.key.Key.TheVariants as key
use Rattle.hx_model.specs.declared.key.Write.{Write}
use Rattle.hx_model.specs.declared.key.Write.TheVariants.{Put}
use Rattle.hx_model.specs.declared.node.Node.{Node}
use Rattle.hx_model.proofs.Climbing.{is_same}
use Rattle.hx_model.proofs.Objects.{found_id, found_again}
use Rattle.hx_model.proofs.Storing.{All-found}
use Rattle.hx_marks.proofs.Among.{among_here, among_append, out_left, out_right}
use Rattle.hx_marks.proofs.Frames.{none_in_both, shut_child, unanchored_child, taken_child, unanchored_status, staying_removal, same_child, same_status, status_stays, same_removal, put_least}
use Rattle.hx_marks.proofs.Parts.{marks_beside, marks_parts, put_again_usage, usage_by}
use Rattle.hx_marks.proofs.Reporting.{conditions_same, own_report, report_key, same_report, silent_report}
use Rattle.hx_marks.specs.Reports.{anchored_reports, ending_reports, report_keys}
use Rattle.hx_marks.proofs.Replacing.{valid_served, uncopied, copied_leaf, no_namespace, other_name, copy_by, tree_by, same_phase, replaced_forest}
use Rattle.hx_marks.proofs.UsageKeys.{usage_is_key}
use Rattle.hx_marks.proofs.UsageNamespaces.{usage_of_namespace}
use Rattle.hx_marks.proofs.Wanting.{wants_known, all_wants, all_tree, all_children, child_among, status_among}
use Rattle.hx_marks.proofs.Within.{all_keys, status_key, leaving_key, unplain_within}
use Rattle.hx_marks.specs.Law.{all_of, label_marks, namespace_marks, namespace_reports, hierarchy_reports, marks_of, begins_to_end, inner_marks, ending_marks, mode_marks, is_modes, status_keys, leaving_keys}
use Rattle.hx_marks.specs.Usage.{usage_keys}

-- ---- what is marked

-- what a namespace may want that takes part
abbrev own_marks : State → List ℕ → List Key
own_marks s n = if is_open (forest_of s) n then all_of s.objects (chain_of (forest_of s) n) n else []

-- a key that isn't marked is in no part
labels_out : (s : State) (n : List ℕ) (k : Key) → is_among k (label_marks s n) ≡ false
    → (is_among k (own_marks s n) ≡ false) × (is_among k (report_keys (forest_of s) n) ≡ false) × (is_among k (status_keys s.objects n) ≡ false) × (is_among k (usage_keys s.objects n) ≡ false) × (is_among k (leaving_keys (forest_of s) n) ≡ false)
labels_out s n k out =
    let quotas = usage_keys s.objects n ++ leaving_keys (forest_of s) n in
    let last = status_keys s.objects n ++ quotas in
    let all = sym (among_append k (own_marks s n) (report_keys (forest_of s) n ++ last)) ∙ out in
    let told = sym (among_append k (report_keys (forest_of s) n) last) ∙ out_right (is_among k (own_marks s n)) _ all in
    let later = sym (among_append k (status_keys s.objects n) quotas) ∙ out_right (is_among k (report_keys (forest_of s) n)) _ told in
    let behind = sym (among_append k (usage_keys s.objects n) (leaving_keys (forest_of s) n)) ∙ out_right (is_among k (status_keys s.objects n)) _ later in (
      out_left (is_among k (own_marks s n)) _ all,
      out_left (is_among k (report_keys (forest_of s) n)) _ told,
      out_left (is_among k (status_keys s.objects n)) _ later,
      out_left (is_among k (usage_keys s.objects n)) _ behind,
      out_right (is_among k (usage_keys s.objects n)) _ behind,
    )

open_there : (f : Forest) (n : List ℕ) → is_open f n ≡ true → is_there f n ≡ true
open_there f n h = live (node_of f n) (and_parts (is_live f n) _ h).0
  where
    live : (o : Option Node) → option_map_or (λ (node : Node). not node.terminating) o false ≡ true → is_some o ≡ true
    live None e = absurd (true≢false (sym e))
    live (Some node) e = refl

-- what is marked are keys of the state
label_keys : (s : State) (n : List ℕ) (k : Key) → is_among k (label_marks s n) ≡ true → is_key s k ≡ true
label_keys s n k mem = elim (or_cases (is_among k (own_marks s n)) _ (sym (among_append k (own_marks s n) (report_keys (forest_of s) n ++ (status_keys s.objects n ++ (usage_keys s.objects n ++ leaving_keys (forest_of s) n)))) ∙ mem)) [
  | inl own ↦ by (is_open (forest_of s) n) refl own
  | inr told ↦ elim (or_cases (is_among k (report_keys (forest_of s) n)) _ (sym (among_append k (report_keys (forest_of s) n) (status_keys s.objects n ++ (usage_keys s.objects n ++ leaving_keys (forest_of s) n))) ∙ told)) [
    | inl report ↦ report_key s n k report
    | inr later ↦ elim (or_cases (is_among k (status_keys s.objects n)) _ (sym (among_append k (status_keys s.objects n) (usage_keys s.objects n ++ leaving_keys (forest_of s) n)) ∙ later)) [
      | inl status ↦ status_key s n k status
      | inr behind ↦ elim (or_cases (is_among k (usage_keys s.objects n)) _ (sym (among_append k (usage_keys s.objects n) (leaving_keys (forest_of s) n)) ∙ behind)) [
        | inl quota ↦ usage_is_key s n k quota
        | inr leaves ↦ leaving_key s n k leaves
      ]
    ]
  ]
]
  where
    by : (b : Bool) → is_open (forest_of s) n ≡ b → is_among k (if b then all_of s.objects (chain_of (forest_of s) n) n else []) ≡ true → is_key s k ≡ true
    by false e h = absurd (true≢false (sym h))
    by true e h = all_keys s (chain_of (forest_of s) n) n k (or_left (is_there (forest_of s) n) (has_named s.objects SubnamespaceAnchor n) (open_there (forest_of s) n e)) h

-- the identity of a namespace that is there
is_namespace_id : (s : State) (x : Object) {old : Object} → IsValid s → is_namespace x.id.kind ≡ true → object_at s.objects x.id ≡ Some old → x.id ≡ namespace_id x.id.name
is_namespace_id s x {old} valid is there =
    let kind = namespace_kind x.id.kind is in
    let same = found_id s.objects x.id old there in
    let served : IsServed old = All-found IsServed x.id old s.objects (valid_served s valid) there in
    let home : x.id.ns ≡ [] = ap (λ (q : Id). q.ns) same ∙ served.legal.home (ap (λ (q : Id). is_in_cluster q.kind) (sym same) ∙ ap is_in_cluster kind) in
    λ i. record { kind = kind i; ns = home i; name = x.id.name }

-- ---- a namespace is put

module _ (s : State) (x old : Object) (valid : IsValid s) (is : is_namespace x.id.kind ≡ true) (there : object_at s.objects x.id ≡ Some old) (keeps : KeepsItsPlace old x) (stays : begins_to_end old x ≡ false) where
  abbrev t : State
  t = state_after s (Put x ∷ [])

  -- it is on its way out exactly if it was
  phase : is_terminating x.payload ≡ is_terminating old.payload
  phase = same_phase old x keeps stays

  -- another namespace has the guard that it had
  other_guard : (m : List ℕ) → bytes_eq m x.id.name ≡ false → guard_at t (namespace_id m) ≡ guard_at s (namespace_id m)
  other_guard m apart i = record { id = namespace_id m; version = option_map (λ (y : Object). y.version) (other_name s x old valid phase is there keeps.annotation m apart i) }

  place_guard : (q : Id) → is_namespace q.kind ≡ false → guard_at t q ≡ guard_at s q
  place_guard q out i = record { id = q; version = option_map (λ (y : Object). y.version) (no_namespace s x old valid phase is there keeps.annotation q out i) }

  -- what a place of copies in it wants, by the namespace that is found
  abbrev write_in : Kind → List ℕ → Option Object → Option Write
  write_in kind name found = copy_write (is_open (forest_of s) x.id.name) found (mode_of s kind) (sources_above s x.id.name kind name) x.id.name (object_at s.objects (id_in kind name x.id.name))

  unmarked : (kind : Kind) (name : List ℕ) → is_among (key.Copy x.id.name kind name) (own_marks s x.id.name) ≡ false → (found : Option Object) → write_in kind name found ≡ None
  unmarked kind name out found = by (write_in kind name found) refl
    where
      by : (o : Option Write) → write_in kind name found ≡ o → o ≡ None
      by None e = refl
      by (Some w) e =
          let known = wants_known s.objects (chain_of (forest_of s) x.id.name) x.id.name kind name (is_open (forest_of s) x.id.name) found (λ none. true≢false (ap is_some (sym e ∙ none))) in
          let marked = all_wants s.objects (chain_of (forest_of s) x.id.name) x.id.name (key.Copy x.id.name kind name) known.2 in
          absurd (true≢false (sym (ap (λ b. is_among (key.Copy x.id.name kind name) (if b then all_of s.objects (chain_of (forest_of s) x.id.name) x.id.name else [])) known.0 ∙ marked) ∙ out))

  untreed : is_among (key.Tree x.id.name) (own_marks s x.id.name) ≡ false → (found : Option Object) → tree_write (is_open (forest_of s) x.id.name) (chain_of (forest_of s) x.id.name) found ≡ None
  untreed out None = refl
  untreed out (Some y) = by (is_open (forest_of s) x.id.name) refl
    where
      by : (acts : Bool) → is_open (forest_of s) x.id.name ≡ acts → tree_write acts (chain_of (forest_of s) x.id.name) (Some y) ≡ None
      by false e = refl
      by true e =
          absurd (true≢false (sym (ap (λ b. is_among (key.Tree x.id.name) (if b then all_of s.objects (chain_of (forest_of s) x.id.name) x.id.name else [])) e
          ∙ all_tree s.objects (chain_of (forest_of s) x.id.name) x.id.name) ∙ out))

  copies : (m : List ℕ) (kind : Kind) (name : List ℕ) → is_among (key.Copy m kind name) (own_marks s x.id.name) ≡ false → IsSameFor s t (key.Copy m kind name)
  copies m kind name out = elim (cases_Bool (can_be_copied kind)) [
    | inr not_copied ↦ (uncopied s m kind name not_copied ∙ sym (uncopied t m kind name not_copied), λ wants. absurd (wants (uncopied s m kind name not_copied)))
    | inl copied ↦ by copied (bytes_eq m x.id.name) refl
  ]
    where
      by : can_be_copied kind ≡ true → (b : Bool) → bytes_eq m x.id.name ≡ b → IsSameFor s t (key.Copy m kind name)
      by copied true same =
          let here : m ≡ x.id.name = is_same m x.id.name same in
          let none : (found : Option Object) → copy_write (is_open (forest_of s) m) found (mode_of s kind) (sources_above s m kind name) m (object_at s.objects (id_in kind name m)) ≡ None =
          λ found. subst (λ (n : List ℕ). copy_write (is_open (forest_of s) n) found (mode_of s kind) (sources_above s n kind name) n (object_at s.objects (id_in kind name n)) ≡ None) (sym here)
          (unmarked kind name (subst (λ (n : List ℕ). is_among (key.Copy n kind name) (own_marks s x.id.name) ≡ false) here out) found) in
          let before = none (object_at s.objects (namespace_id m)) in
          (before ∙ sym (copy_by s x old valid phase is there keeps.annotation m kind name copied ∙ none (object_at (put x s.objects) (namespace_id m))), λ wants. absurd (wants before))
      by copied false apart = (
        sym (copy_by s x old valid phase is there keeps.annotation m kind name copied
            ∙ ap (λ o. copy_write (is_open (forest_of s) m) o (mode_of s kind) (sources_above s m kind name) m (object_at s.objects (id_in kind name m))) (other_name s x old valid phase is there keeps.annotation m apart)),
        λ _. sym (λ i. place_guard (id_in kind name m) (copied_leaf kind copied) i ∷ other_guard m apart i ∷ []),
      )

  trees : (m : List ℕ) → is_among (key.Tree m) (own_marks s x.id.name) ≡ false → IsSameFor s t (key.Tree m)
  trees m out = by (bytes_eq m x.id.name) refl
    where
      by : (b : Bool) → bytes_eq m x.id.name ≡ b → IsSameFor s t (key.Tree m)
      by true same =
          let here : m ≡ x.id.name = is_same m x.id.name same in
          let none : (found : Option Object) → tree_write (is_open (forest_of s) m) (chain_of (forest_of s) m) found ≡ None =
          λ found. subst (λ (n : List ℕ). tree_write (is_open (forest_of s) n) (chain_of (forest_of s) n) found ≡ None) (sym here)
          (untreed (subst (λ (n : List ℕ). is_among (key.Tree n) (own_marks s x.id.name) ≡ false) here out) found) in
          let before = none (object_at s.objects (namespace_id m)) in
          (before ∙ sym (tree_by s x old valid phase is there keeps.annotation m ∙ none (object_at (put x s.objects) (namespace_id m))), λ wants. absurd (wants before))
      by false apart = (
        sym (tree_by s x old valid phase is there keeps.annotation m
            ∙ ap (tree_write (is_open (forest_of s) m) (chain_of (forest_of s) m)) (other_name s x old valid phase is there keeps.annotation m apart)),
        λ _. sym (λ i. other_guard m apart i ∷ []),
      )

  -- the tree is what it was
  tree : forest_of t ≡ forest_of s
  tree = replaced_forest s x old valid phase is there keeps.annotation

  -- and what is no namespace
  leaf_same : (q : Id) → is_namespace q.kind ≡ false → object_at t.objects q ≡ object_at s.objects q
  leaf_same q leaf = no_namespace s x old valid phase is there keeps.annotation q leaf

  home_same : (m : List ℕ) → bytes_eq m x.id.name ≡ false → object_at t.objects (namespace_id m) ≡ object_at s.objects (namespace_id m)
  home_same m apart = other_name s x old valid phase is there keeps.annotation m apart

  named : namespace_id x.id.name ≡ x.id
  named = sym (is_namespace_id s x valid is there)

  -- the namespace is there before and then
  there_before : object_at s.objects (namespace_id x.id.name) ≡ Some old
  there_before = ap (object_at s.objects) named ∙ there

  there_then : object_at t.objects (namespace_id x.id.name) ≡ Some x
  there_then = ap (object_at t.objects) named ∙ found_again x s.objects

  -- a subnamespace of it, or one of its name
  children : (m n : List ℕ) → is_among (key.Child m n) (own_marks s x.id.name) ≡ false → IsSameFor s t (key.Child m n)
  children m n out = elim (cases_Bool (bytes_eq m x.id.name)) [
    | inl same ↦ own (is_same m x.id.name same)
    | inr apart ↦ elim (cases_Bool (bytes_eq n x.id.name)) [
      | inl same ↦
          let here = is_same n x.id.name same in
          none_in_both s t (key.Child m n)
          (taken_child s m n (ap (λ a. is_some (object_at s.objects (namespace_id a))) here ∙ ap is_some there_before))
          (taken_child t m n (ap (λ a. is_some (object_at t.objects (namespace_id a))) here ∙ ap is_some there_then))
      | inr other ↦ same_child s t m n (leaf_same (anchor_id m n) refl) (home_same m apart) refl (ap (λ f. is_open f m) tree) (home_same n other)
    ]
  ]
    where
      own : m ≡ x.id.name → IsSameFor s t (key.Child m n)
      own here = by (is_open (forest_of s) m) (object_at s.objects (anchor_id m n)) refl refl
        where
          by : (acts : Bool) (anchor : Option Object) → is_open (forest_of s) m ≡ acts → object_at s.objects (anchor_id m n) ≡ anchor → IsSameFor s t (key.Child m n)
          by false anchor shut at = none_in_both s t (key.Child m n) (shut_child s m n shut) (shut_child t m n (ap (λ f. is_open f m) tree ∙ shut))
          by true None acts absent = none_in_both s t (key.Child m n) (unanchored_child s m n absent) (unanchored_child t m n (leaf_same (anchor_id m n) refl ∙ absent))
          by true (Some y) acts at =
              let marked : is_among (key.Child m n) (own_marks s m) ≡ true =
              ap (λ b. is_among (key.Child m n) (if b then all_of s.objects (chain_of (forest_of s) m) m else [])) acts
              ∙ all_children s.objects (chain_of (forest_of s) m) m (key.Child m n) (child_among s.objects m n y at) in
              absurd (true≢false (sym marked ∙ ap (λ a. is_among (key.Child m n) (own_marks s a)) here ∙ out))

  -- the status of an anchor in it, or of one of its name
  statuses : (m n : List ℕ) → is_among (key.Anchor m n) (status_keys s.objects x.id.name) ≡ false → IsSameFor s t (key.Anchor m n)
  statuses m n out = elim (cases_Bool (bytes_eq m x.id.name)) [
    | inl same ↦ own (object_at s.objects (anchor_id m n)) (is_same m x.id.name same) refl
    | inr apart ↦ same_status s t m n (leaf_same (anchor_id m n) refl) (home_same m apart) (ap (λ f. is_live f m) tree) (told (bytes_eq n x.id.name) refl)
  ]
    where
      own : (anchor : Option Object) → m ≡ x.id.name → object_at s.objects (anchor_id m n) ≡ anchor → IsSameFor s t (key.Anchor m n)
      own None here absent = none_in_both s t (key.Anchor m n) (unanchored_status s m n absent) (unanchored_status t m n (leaf_same (anchor_id m n) refl ∙ absent))
      own (Some y) here at = absurd (true≢false (sym (status_among s.objects m n y at) ∙ ap (λ a. is_among (key.Anchor m n) (status_keys s.objects a)) here ∙ out))

      told : (b : Bool) → bytes_eq n x.id.name ≡ b → anchor_status t m n ≡ anchor_status s m n
      told false other = status_stays s t m n refl (home_same n other)
      told true same =
          let here = is_same n x.id.name same in
          let excluded = is_in m s.config.excluded || is_in n s.config.excluded in
          ap (status_by excluded m) (ap (λ a. object_at t.objects (namespace_id a)) here ∙ there_then)
          ∙ ap (λ p. if excluded then Forbidden else (if same_name p (Some m) then Ok else Conflict)) keeps.annotation
          ∙ sym (ap (status_by excluded m) (ap (λ a. object_at s.objects (namespace_id a)) here ∙ there_before))

  -- the removal of it, or of another namespace
  removals : (m : List ℕ) → is_among (key.Purge m) (leaving_keys (forest_of s) x.id.name) ≡ false → IsSameFor s t (key.Purge m)
  removals m out = elim (cases_Bool (is_leaving (forest_of s) m)) [
    | inr stays_there ↦ none_in_both s t (key.Purge m) (staying_removal s m stays_there) (staying_removal t m (ap (λ f. is_leaving f m) tree ∙ stays_there))
    | inl leaves ↦ elim (cases_Bool (bytes_eq m x.id.name)) [
      | inl same ↦
          let marked : is_among (key.Purge m) (leaving_keys (forest_of s) m) ≡ true = ap (λ b. is_among (key.Purge m) (if b then key.Purge m ∷ [] else [])) leaves ∙ among_here (key.Purge m) [] in
          absurd (true≢false (sym marked ∙ ap (λ a. is_among (key.Purge m) (leaving_keys (forest_of s) a)) (is_same m x.id.name same) ∙ out))
      | inr apart ↦
          same_removal s t m (ap (λ f. is_leaving f m) tree)
          (put_least x s.objects m (lies_nowhere m)) (λ q lies. leaf_same q (inner_leaf m q lies)) (home_same m apart)
    ]
  ]
    where
      -- a namespace lies in none
      lies_nowhere : (m : List ℕ) → lies_in m x.id ≡ false
      lies_nowhere m = ap (λ (q : Id). lies_in m q) (sym named)

      inner_leaf : (m : List ℕ) (q : Id) → lies_in m q ≡ true → is_namespace q.kind ≡ false
      inner_leaf m q lies = false_from_ne_true (is_namespace q.kind) (λ h. true≢false (sym (and_parts (not (is_in_cluster q.kind)) _ lies).0 ∙ ap (λ kind. not (is_in_cluster kind)) (namespace_kind q.kind h)))

  -- its report, or that of another namespace
  reports : (m : List ℕ) → is_among (key.Report m) (report_keys (forest_of s) x.id.name) ≡ false → IsSameFor s t (key.Report m)
  reports m out = elim (cases_Bool (is_eligible (forest_of s) m)) [
    | inr silent ↦ silent_report s t m silent (ap (λ f. is_eligible f m) tree ∙ silent)
    | inl eligible ↦ elim (cases_Bool (bytes_eq m x.id.name)) [
      | inl same ↦ absurd (true≢false (sym (own_report (forest_of s) m eligible) ∙ ap (λ a. is_among (key.Report m) (report_keys (forest_of s) a)) (is_same m x.id.name same) ∙ out))
      | inr apart ↦
          same_report s t m (ap (λ f. is_eligible f m) tree) (leaf_same (hierarchy_id m) refl) (home_same m apart) (ap (λ f. children_of f m) tree)
          (conditions_same s t m (ap (λ f. halt_of f m) tree) (home_same m apart) there_still (λ p. ap is_none (leaf_same (anchor_id p m) refl)))
    ]
  ]
    where
      there_still : (p : List ℕ) → is_some (object_at t.objects (namespace_id p)) ≡ is_some (object_at s.objects (namespace_id p))
      there_still p = elim (cases_Bool (bytes_eq p x.id.name)) [
        | inr other ↦ ap is_some (home_same p other)
        | inl same ↦
            let here = is_same p x.id.name same in
            ap (λ a. is_some (object_at t.objects (namespace_id a))) here ∙ ap is_some there_then ∙ sym (ap (λ a. is_some (object_at s.objects (namespace_id a))) here ∙ ap is_some there_before)
      ]

  pub replaced_same : ((n name : List ℕ) → is_among (key.Used n name) (usage_keys s.objects x.id.name) ≡ false → IsSameFor s t (key.Used n name)) → (k : Key) → is_among k (label_marks s x.id.name) ≡ false → IsSameFor s t k
  replaced_same quotas k out = by k own.0 own.1 own.2 own.3 own.4
    where
      own : (is_among k (own_marks s x.id.name) ≡ false) × (is_among k (report_keys (forest_of s) x.id.name) ≡ false) × (is_among k (status_keys s.objects x.id.name) ≡ false) × (is_among k (usage_keys s.objects x.id.name) ≡ false) × (is_among k (leaving_keys (forest_of s) x.id.name) ≡ false)
      own = labels_out s x.id.name k out

      by : (k : Key) → is_among k (own_marks s x.id.name) ≡ false → is_among k (report_keys (forest_of s) x.id.name) ≡ false → is_among k (status_keys s.objects x.id.name) ≡ false → is_among k (usage_keys s.objects x.id.name) ≡ false → is_among k (leaving_keys (forest_of s) x.id.name) ≡ false → IsSameFor s t k
      by (key.Copy m kind name) out told statused quoted left = copies m kind name out
      by (key.Tree m) out told statused quoted left = trees m out
      by (key.Report m) out told statused quoted left = reports m told
      by (key.Child m name) out told statused quoted left = children m name out
      by (key.Anchor m name) out told statused quoted left = statuses m name statused
      by (key.Used m name) out told statused quoted left = quotas m name quoted
      by (key.Purge m) out told statused quoted left = removals m left

-- ---- the law

-- what a namespace that is replaced marks
marks_are : (s : State) (x old : Object) → is_namespace x.id.kind ≡ true → object_at s.objects x.id ≡ Some old → begins_to_end old x ≡ false → marks_of s (Put x) ≡ label_marks s x.id.name
marks_are s x old is there stays =
    let t = state_after s (Put x ∷ []) in
    marks_parts s (Put x)
    ∙ (λ i. marks_beside s (Put x) ++ no_usage i)
    ∙ append-nil (marks_beside s (Put x))
    ∙ ap (λ b. (if b then namespace_marks s t x.id.name (object_at s.objects x.id) (Some x) else beside) ++ (if b then namespace_reports s t x.id.name (object_at s.objects x.id) (Some x) else reports_beside)) is
    ∙ ap (λ o. namespace_marks s t x.id.name o (Some x) ++ namespace_reports s t x.id.name o (Some x)) there
    ∙ ap (λ b. (if b then ending_marks s x.id.name else label_marks s x.id.name) ++ (if b then ending_reports (forest_of s) x.id.name else [])) stays
    ∙ append-nil (label_marks s x.id.name)
  where
    no_usage : usage_by s (Put x) ≡ []
    no_usage = put_again_usage s x old is there

    reports_beside : List Key
    reports_beside =
        if is_hierarchy x.id.kind then (if bytes_eq x.id.name hierarchy then hierarchy_reports s (state_after s (Put x ∷ [])) x.id.ns else []) else (
        if is_anchor x.id.kind then anchored_reports s x.id (object_at s.objects x.id) (Some x) else [])

    beside : List Key
    beside =
        if is_modes x.id then mode_marks s (object_at s.objects x.id) (Some x)
        else (inner_marks s (state_after s (Put x ∷ [])) x.id (object_at s.objects x.id) (Some x) ++ leaving_keys (forest_of s) x.id.ns)

module _ (s : State) (x old : Object) (valid : IsValid s) (may : MayWriteAll s (Put x ∷ [])) (is : is_namespace x.id.kind ≡ true) (there : object_at s.objects x.id ≡ Some old) (stays : begins_to_end old x ≡ false) (k : Key) where
  -- keys that aren't marked want what they wanted
  pub label_law : is_among k (marks_of s (Put x)) ≡ false → IsSameFor s (state_after s (Put x ∷ [])) k
  label_law out =
      let keeps : KeepsItsPlace old x = subst (λ (o : Option Object). HasPlace o x) there (may.each.0.place is) in
      replaced_same s x old valid is there keeps stays (usage_of_namespace s x old valid may is there) k (sym (ap (is_among k) (marks_are s x old is there stays)) ∙ out)

  -- those that are marked may be
  pub within_labels : is_among k (marks_of s (Put x)) ≡ true → may_mark s (Put x ∷ []) k ≡ true
  within_labels mem =
      unplain_within s (Put x) k (or_left (is_key s k) (is_key (state_after s (Put x ∷ [])) k) (label_keys s x.id.name k (sym (ap (is_among k) (marks_are s x old is there stays)) ∙ mem)))
      (ap is_plain (namespace_kind x.id.kind is))
