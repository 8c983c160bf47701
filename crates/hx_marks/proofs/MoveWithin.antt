-- A HierarchyConfiguration that is written marks keys of the state before it alone.
--     all_sent_key       what marks its tree labels, and the places of what is sent
--     within_moves       what is marked may be marked
use Rattle.std.proofs.Common.{◌≡◌, ℕ, Bool, true, false, ◌&&◌, ◌||◌, ◌==◌, Option, Some, List, [], ◌∷◌, map, filter, flat_map, sym, ap, ◌∙◌, inl, inr, true≢false, eqb-true}
use Rattle.std.specs.Prelude.{if◌then◌else◌}
use Rattle.std.specs.List.{list_any, list_all}
use Rattle.std.specs.Str.{bytes_eq}
use Rattle.std.proofs.lemmas.Bool.{and_parts, or_cases, or_left}
use Rattle.hx_object.specs.Kinds.{can_be_copied, is_hierarchy, is_plain, number_of}
use Rattle.hx_object.specs.declared.kind.Kind.{Kind}
use Rattle.hx_object.specs.declared.kind.Kind.TheVariants.{SubnamespaceAnchor}
use Rattle.hx_object.specs.declared.object.Object.{Object}
use Rattle.hx_object.proofs.KindTests.{hierarchy_kind}
use Rattle.hx_model.specs.Answers.{is_listed}
use Rattle.hx_model.specs.Cases.{same_name}
use Rattle.hx_model.specs.Forest.{Forest, is_in, is_there, parent_of, chain_of, in_chain, names_of, subtree_of}
use Rattle.hx_model.specs.Keys.{same_key, is_among, is_key, has_named, may_mark}
use Rattle.hx_model.specs.Moves.{up_to, is_eligible, moved_chain_of, chain_from, mode_at, copied_kinds}
use Rattle.hx_model.specs.State.{State, object_at, state_after}
use Rattle.hx_model.specs.Tree.{hierarchy, forest_of}
use Rattle.hx_model.specs.TreeLabels.{is_open}
use Rattle.hx_model.specs.Valid.{IsValid}
use Rattle.hx_model.specs.Writes.{id_written, MayWriteAll}
use Rattle.hx_model.specs.declared.key.Key.{Key}
use Rattle.hx_model.specs.declared.key.Key.TheVariants as key
use Rattle.hx_model.specs.declared.key.Write.{Write}
use Rattle.hx_model.proofs.Objects.{same_kind}
use Rattle.hx_model.proofs.Parents.{is_in_filter}
use Rattle.hx_model.proofs.Walking.{names_have}
use Rattle.hx_marks.specs.Law.{is_sent, listed_in, sent_from, key_for, all_of, live_below, in_one, all_sent, sent_marks, moved_by, move_marks, object_written, leaving_keys, hierarchy_reports}
use Rattle.hx_marks.proofs.Among.{same_key_is, among_flat_map, among_map, any_filter, found_object, found_name, found_kind}
use Rattle.hx_marks.proofs.MoveLaw.{hierarchy_among}
use Rattle.hx_marks.proofs.MoveReports.{placed_known}
use Rattle.hx_marks.proofs.Parts.{marks_beside}
use Rattle.hx_marks.proofs.Wanting.{any_flat_map}
use Rattle.hx_marks.proofs.Within.{all_keys, copy_key, leaving_key, unplain_within}

-- ---- keys of objects

module _ (s : State) (m : List ℕ) (there : is_there (forest_of s) m ≡ true) where
  tree_key : (k : Key) → same_key k (key.Tree m) ≡ true → is_key s k ≡ true
  tree_key k same = ap (is_key s) (same_key_is k (key.Tree m) same) ∙ or_left (is_there (forest_of s) m) (has_named s.objects SubnamespaceAnchor m) there

  module _ (valid : IsValid s) (k : Key) where
    -- of objects that are listed
    listed_key : (kind : Kind) → can_be_copied kind ≡ true → (a : List ℕ) (t : Object → Bool) → list_any (λ x. same_key k (key_for m x)) (filter t (listed_in s.objects kind a)) ≡ true → is_key s k ≡ true
    listed_key kind copied a t h =
        let found = found_object (λ x. is_listed kind (Some a) x && (t x && same_key k (key_for m x))) s.objects valid.in_order
        (sym (any_filter (λ x. t x && same_key k (key_for m x)) (is_listed kind (Some a)) s.objects) ∙ sym (any_filter (λ x. same_key k (key_for m x)) t (listed_in s.objects kind a)) ∙ h) in
        let parts = and_parts (is_listed kind (Some a) found.0) _ found.2 in
        let same : kind ≡ found.0.id.kind = same_kind kind found.0.id.kind (eqb-true _ _ (and_parts (number_of kind == number_of found.0.id.kind) _ parts.0).0) in
        ap (is_key s) (same_key_is k (key_for m found.0) (and_parts (t found.0) _ parts.1).1) ∙ copy_key s found.0 m found.1 (sym (ap can_be_copied same) ∙ copied) there

    sent_key : (kind : Kind) → can_be_copied kind ≡ true → (names : List (List ℕ)) → list_any (λ x. same_key k (key_for m x)) (sent_from s.objects kind names) ≡ true → is_key s k ≡ true
    sent_key kind copied names h =
        let found = found_name (λ a. list_any (λ x. same_key k (key_for m x)) (filter (is_sent (mode_at s.objects kind)) (listed_in s.objects kind a))) names (sym (any_flat_map (λ x. same_key k (key_for m x)) (λ a. filter (is_sent (mode_at s.objects kind)) (listed_in s.objects kind a)) names) ∙ h) in
        listed_key kind copied found.0 (is_sent (mode_at s.objects kind)) found.2

    -- its tree labels, and the places of what some namespaces send
    pub all_sent_key : (names : List (List ℕ)) → is_among k (sent_marks (all_sent s.objects names) m) ≡ true → is_key s k ≡ true
    all_sent_key names h = elim (or_cases (same_key k (key.Tree m)) (is_among k (map (key_for m) (all_sent s.objects names))) h) [
      | inl tree ↦ tree_key k tree
      | inr copy ↦
          let found = found_kind (λ kind. list_any (λ x. same_key k (key_for m x)) (sent_from s.objects kind names))
          (sym (any_flat_map (λ x. same_key k (key_for m x)) (λ kind. sent_from s.objects kind names) copied_kinds) ∙ sym (among_map k (key_for m) (all_sent s.objects names)) ∙ copy) in
          sent_key found.0 found.1 names found.2
    ]

-- ---- keys of a move

live_there : (f : Forest) (n m : List ℕ) → is_in m (live_below f n) ≡ true → is_there f m ≡ true
live_there f n m mem =
    let below = (and_parts (is_in m (subtree_of f n)) _ (sym (is_in_filter (λ a. list_all (is_eligible f) (up_to n (chain_of f a))) m (subtree_of f n)) ∙ mem)).0 in
    names_have f m ∙ (and_parts (is_in m (names_of f)) _ (sym (is_in_filter (λ a. in_chain f a n) m (names_of f)) ∙ below)).0

module _ (s : State) (valid : IsValid s) (k : Key) (n : List ℕ) where
  -- what each of the subtree marks
  of_member : (marks : List ℕ → List Key) → ((m : List ℕ) → is_there (forest_of s) m ≡ true → is_among k (marks m) ≡ true → is_key s k ≡ true) → is_among k (flat_map marks (live_below (forest_of s) n)) ≡ true → is_key s k ≡ true
  of_member marks each h =
      let found = found_name (λ a. is_among k (marks a)) (live_below (forest_of s) n) (sym (among_flat_map k marks (live_below (forest_of s) n)) ∙ h) in
      each found.0 (live_there (forest_of s) n found.0 found.1) found.2

  moved_key : (old new : Option (List ℕ)) (a b : Bool) → is_among k (moved_by s n old new a b) ≡ true → is_key s k ≡ true
  moved_key old new true true h =
      of_member (sent_marks (all_sent s.objects (in_one (chain_from (forest_of s) old) (chain_from (forest_of s) new)))) (λ m there mark. all_sent_key s m there valid k (in_one (chain_from (forest_of s) old) (chain_from (forest_of s) new)) mark) h
  moved_key old new true false h = of_member (λ m. all_of s.objects (chain_of (forest_of s) m) m) (λ m there mark. all_keys s (chain_of (forest_of s) m) m k (or_left (is_there (forest_of s) m) (has_named s.objects SubnamespaceAnchor m) there) mark) h
  moved_key old new false true h = of_member (λ m. all_of s.objects (moved_chain_of (forest_of s) n new m) m) (λ m there mark. all_keys s (moved_chain_of (forest_of s) n new m) m k (or_left (is_there (forest_of s) m) (has_named s.objects SubnamespaceAnchor m) there) mark) h
  moved_key old new false false h = absurd (true≢false (sym h))

  move_key : (t : State) → is_among k (move_marks s t n) ≡ true → is_key s k ≡ true
  move_key t h = by (same_name (parent_of (forest_of s) n) (parent_of (forest_of t) n)) h
    where
      by : (b : Bool) → is_among k (if b then [] else moved_by s n (parent_of (forest_of s) n) (parent_of (forest_of t) n) (is_open (forest_of s) n) (is_open (forest_of t) n)) ≡ true → is_key s k ≡ true
      by true h = absurd (true≢false (sym h))
      by false h = moved_key (parent_of (forest_of s) n) (parent_of (forest_of t) n) (is_open (forest_of s) n) (is_open (forest_of t) n) h

-- the reports that are marked
told_key : (s t : State) (k : Key) (n : List ℕ) → is_among k (hierarchy_reports s t n) ≡ true → is_key s k ≡ true
told_key s t k n h =
    let found = placed_known (forest_of s) k n (parent_of (forest_of s) n) (parent_of (forest_of t) n) (is_open (forest_of s) n) (is_open (forest_of t) n) h in
    ap (is_key s) found.1 ∙ or_left (is_there (forest_of s) found.0) (has_named s.objects SubnamespaceAnchor found.0) found.2

-- what is marked may be marked
pub within_moves : (s : State) (write : Write) → IsValid s → MayWriteAll s (write ∷ []) → is_hierarchy (id_written write).kind ≡ true → (k : Key) → is_among k (marks_beside s write) ≡ true → may_mark s (write ∷ []) k ≡ true
within_moves s write valid may is k marked =
    unplain_within s write k (or_left (is_key s k) (is_key (state_after s (write ∷ [])) k) (elim (or_cases (moves || leaves) told (sym (hierarchy_among s (state_after s (write ∷ [])) (id_written write) (object_at s.objects (id_written write)) (object_written write) is k) ∙ marked)) [
      | inl placed ↦ elim (or_cases moves leaves placed) [
        | inl moved ↦ moving (bytes_eq (id_written write).name hierarchy) moved
        | inr left ↦ leaving_key s (id_written write).ns k left
      ]
      | inr report ↦ telling (bytes_eq (id_written write).name hierarchy) report
    ])) (ap is_plain (hierarchy_kind (id_written write).kind is))
  where
    moves : Bool
    moves = is_among k (if bytes_eq (id_written write).name hierarchy then move_marks s (state_after s (write ∷ [])) (id_written write).ns else [])

    leaves : Bool
    leaves = is_among k (leaving_keys (forest_of s) (id_written write).ns)

    told : Bool
    told = is_among k (if bytes_eq (id_written write).name hierarchy then hierarchy_reports s (state_after s (write ∷ [])) (id_written write).ns else [])

    moving : (b : Bool) → is_among k (if b then move_marks s (state_after s (write ∷ [])) (id_written write).ns else []) ≡ true → is_key s k ≡ true
    moving true h = move_key s valid k (id_written write).ns (state_after s (write ∷ [])) h
    moving false h = absurd (true≢false (sym h))

    telling : (b : Bool) → is_among k (if b then hierarchy_reports s (state_after s (write ∷ [])) (id_written write).ns else []) ≡ true → is_key s k ≡ true
    telling true h = told_key s (state_after s (write ∷ [])) k (id_written write).ns h
    telling false h = absurd (true≢false (sym h))
