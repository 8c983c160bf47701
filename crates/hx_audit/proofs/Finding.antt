-- Each key that wants a write is found.
--     place_found      a place of copies that wants one
--     wanting_found    any key that does
use Rattle.std.proofs.Common.{◌≡◌, ◌⊎◌, inl, inr, ℕ, Bool, true, false, cond, not, ◌&&◌, Option, Some, None, List, [], ◌∷◌, ◌++◌, flat_map, refl, sym, ap, ◌∙◌, subst, true≢false}
use Rattle.std.specs.Prelude.{is_some, is_none, find, option_and_then, if◌then◌else◌}
use Rattle.std.specs.Str.{bytes_eq}
use Rattle.std.proofs.lemmas.Bool.{and_parts, and_from, or_left, or_right}
use Rattle.hx_audit.specs.Candidates.{active_kinds, anchor_keys, copy_keys, is_active, is_ignored, is_lacking, kind_keys, lacking_keys, listed_in, open_keys, place_facts, place_keys, quota_keys, sent_keys, state_of, taken_keys, wanted, wanting, wanting_of}
use Rattle.hx_audit.proofs.Holding.{among_first, among_later, among_flat_map, kept_among, passing_listed, there_passes, live_there, leaving_there, open_live, eligible_live, from_so}
use Rattle.hx_audit.proofs.Keeping.{above_of, senders_of, place_same, planned_here}
use Rattle.hx_audit.proofs.Senders.{kind_active}
use Rattle.hx_model.proofs.Climbing.{same_itself}
use Rattle.hx_model.proofs.Objects.{found_id}
use Rattle.hx_model.proofs.Passing.{any_filter, passing_name, passing_kind}
use Rattle.hx_model.specs.Cases.{is_leaving}
use Rattle.hx_model.specs.First.{so}
use Rattle.hx_model.specs.Forest.{Forest, node_of, chain_of, children_of, is_in, is_live}
use Rattle.hx_model.specs.Keys.{is_among}
use Rattle.hx_model.specs.Limits.{is_copy}
use Rattle.hx_model.specs.Machine.{wants}
use Rattle.hx_model.specs.Moves.{copied_kinds, is_eligible, mode_at}
use Rattle.hx_model.specs.Propagation.{as_list, goes_to, id_in, is_source, source_at, sources_along, top_of}
use Rattle.hx_model.specs.Reports.{conditions_of, report_write}
use Rattle.hx_model.specs.State.{State, Objects, object_at, namespace_id}
use Rattle.hx_model.specs.Subnamespaces.{anchor_id}
use Rattle.hx_model.specs.Tree.{hierarchy_id}
use Rattle.hx_model.specs.TreeLabels.{is_open}
use Rattle.hx_model.specs.Wanted.{anchor_status, anchor_write, child_write, copied, copied_in, copy_write, quota_id, sums_of, tree_write, used_write, without_copy}
use Rattle.hx_model.specs.declared.key.Key.{Key}
use Rattle.hx_model.specs.declared.key.Key.TheVariants as key
use Rattle.hx_model.specs.declared.key.Write.TheVariants.{Cut}
use Rattle.hx_object.specs.Kinds.{can_be_copied}
use Rattle.hx_object.specs.declared.kind.Kind.{Kind}
use Rattle.hx_object.specs.declared.kind.Kind.TheVariants.{SubnamespaceAnchor, HierarchicalResourceQuota}
use Rattle.hx_object.specs.declared.object.AnchorStatus.{AnchorStatus}
use Rattle.hx_object.specs.declared.object.Condition.{Condition}
use Rattle.hx_object.specs.declared.object.Id.{Id}
use Rattle.hx_object.specs.declared.object.Mode.{Mode}
use Rattle.hx_object.specs.declared.object.Mode.TheVariants.{Propagate, AllowPropagate, Remove, Ignore}
use Rattle.hx_object.specs.declared.object.Object.{Object}
use Rattle.hx_reconcile.specs.Briefs.{facts_of, planned}
use Rattle.hx_survey.specs.Surveyed.{Surveyed, tree_of}

-- ---- what is sent from above

find_either : {A : Type 0} (p : A → Bool) (xs ys : List A) (t : A) → find p (xs ++ ys) ≡ Some t → (find p xs ≡ Some t) ⊎ (find p ys ≡ Some t)
find_either p [] ys t e = inr e
find_either p (x ∷ xs) ys t e = elim (p x) as (λ b. cond b (Some x) (find p (xs ++ ys)) ≡ Some t → (cond b (Some x) (find p xs) ≡ Some t) ⊎ (find p ys ≡ Some t)) [
  | true ↦ λ h. inl h
  | false ↦ λ h. find_either p xs ys t h
] e

-- the one source of a place
one_found : (p : Object → Bool) (found : Option Object) (t : Object) → find p (as_list (option_and_then (λ x. so (is_source x) x) found)) ≡ Some t → (found ≡ Some t) × (is_source t ≡ true)
one_found p None t e = absurd (true≢false (sym (ap is_some e)))
one_found p (Some x) t e = by (is_source x) refl e
  where
    passed : (b : Bool) → is_source x ≡ true → cond b (Some x) None ≡ Some t → (Some x ≡ Some t) × (is_source t ≡ true)
    passed true is h = (h, subst (λ (z : Object). is_source z ≡ true) (let same : x ≡ t = cc in same) is)
    passed false is h = absurd (true≢false (sym (ap is_some h)))

    by : (b : Bool) → is_source x ≡ b → find p (as_list (so b x)) ≡ Some t → (Some x ≡ Some t) × (is_source t ≡ true)
    by true is h = passed (p x) is h
    by false is h = absurd (true≢false (sym (ap is_some h)))

-- a source that is found among those of a chain lies in one of its namespaces
along_found : (p : Object → Bool) (objects : Objects) (kind : Kind) (name : List ℕ) (chain : List (List ℕ)) (t : Object) → find p (sources_along objects kind name chain) ≡ Some t
    → (a : List ℕ) × (is_in a chain ≡ true) × (object_at objects (id_in kind name a) ≡ Some t) × (is_source t ≡ true)
along_found p objects kind name [] t e = absurd (true≢false (sym (ap is_some e)))
along_found p objects kind name (a ∷ chain) t e = elim (find_either p (sources_along objects kind name chain) (as_list (source_at objects (id_in kind name a))) t e) [
  | inl later ↦ let found = along_found p objects kind name chain t later in (found.0, or_right (bytes_eq found.0 a) (is_in found.0 chain) found.1, found.2, found.3)
  | inr here ↦ let found = one_found p (object_at objects (id_in kind name a)) t here in (a, or_left (bytes_eq a a) (is_in a chain) (same_itself a), found.0, found.1)
]

source_kind : (x : Object) → is_source x ≡ true → can_be_copied x.id.kind ≡ true
source_kind x h = (and_parts (can_be_copied x.id.kind) (not (is_copy x)) h).0

copy_kind : (x : Object) → is_copy x ≡ true → can_be_copied x.id.kind ≡ true
unfolding is_copy
copy_kind x h = (and_parts (can_be_copied x.id.kind) _ h).0

-- ---- places of copies

-- some object is of a kind
abbrev pub HasObject : Objects → Kind → Type 0
HasObject objects kind = (n : List ℕ) × ((name : List ℕ) × ((x : Object) × (object_at objects (id_in kind name n) ≡ Some x)))

module _ (objects : Objects) (mode : Mode) (x : Object) (above : List (List ℕ)) (n : List ℕ) (kind : Kind) (name : List ℕ) where
  abbrev k : Key
  k = key.Copy n kind name

  abbrev at_home : Id
  at_home = id_in kind name n

  module _ (wanting : is_some (planned k (place_facts objects mode x above n kind name)) ≡ true) where
    -- a place where something lies
    taken_found : (y : Object) → object_at objects at_home ≡ Some y → is_among k (taken_keys objects mode x above n kind) ≡ true
    taken_found y at =
        passing_listed k (λ (z : Object). place_keys objects mode x above n kind z.id.name) objects kind n name y at
        (subst (λ (q : Id). is_among k (place_keys objects mode x above n kind q.name) ≡ true) (found_id objects at_home y at) (kept_among k (place_facts objects mode x above n kind name) wanting))

    -- an empty one, below a source
    sent_found : (a : List ℕ) (t : Object) → is_in a above ≡ true → object_at objects (id_in kind name a) ≡ Some t → is_source t ≡ true → object_at objects at_home ≡ None → is_among k (flat_map (sent_keys objects mode x above n kind) above) ≡ true
    sent_found a t mem at source empty =
        let is : id_in kind name a ≡ t.id = found_id objects (id_in kind name a) t at in
        let lacks : is_lacking objects n kind t ≡ true =
        and_from (is_source t) (is_none (object_at objects (id_in kind t.id.name n))) source (subst (λ (q : Id). is_none (object_at objects (id_in kind q.name n)) ≡ true) is (ap is_none empty)) in
        let its : is_among k (place_keys objects mode x above n kind t.id.name) ≡ true =
        subst (λ (q : Id). is_among k (place_keys objects mode x above n kind q.name) ≡ true) is (kept_among k (place_facts objects mode x above n kind name) wanting) in
        let here : is_among k (lacking_keys objects mode x above n kind t) ≡ true = ap (λ b. is_among k (if b then place_keys objects mode x above n kind t.id.name else [])) lacks ∙ its in
        among_flat_map k (sent_keys objects mode x above n kind) above
        ∙ passing_name (λ b. is_among k (sent_keys objects mode x above n kind b)) a above mem (passing_listed k (lacking_keys objects mode x above n kind) objects kind a name t at here)

    -- the kind isn't passed over, can be copied, some object is of it, and the place is looked at
    abbrev IsFound : Type 0
    IsFound = (is_ignored mode ≡ false) × (can_be_copied kind ≡ true) × (HasObject objects kind) × (is_among k (taken_keys objects mode x above n kind ++ flat_map (sent_keys objects mode x above n kind) above) ≡ true)

    of_kind : (q : Id) (y : Object) → object_at objects q ≡ Some y → q.kind ≡ kind → can_be_copied y.id.kind ≡ true → can_be_copied kind ≡ true
    of_kind q y at is h = ap can_be_copied (sym is) ∙ ap (λ (p : Id). can_be_copied p.kind) (found_id objects q y at) ∙ h

    lying : is_ignored mode ≡ false → (y : Object) → object_at objects at_home ≡ Some y → can_be_copied kind ≡ true → IsFound
    lying counts y at can = (counts, can, (n, (name, (y, at))), among_first k (taken_keys objects mode x above n kind) (flat_map (sent_keys objects mode x above n kind) above) (taken_found y at))

    -- a copy that goes
    by_copy : is_ignored mode ≡ false → (place : Option Object) → object_at objects at_home ≡ place → is_some (without_copy place) ≡ true → IsFound
    by_copy counts None at h = absurd (true≢false (sym h))
    by_copy counts (Some y) at h = lying counts y at (of_kind at_home y at refl (copy_kind y (from_so (is_copy y) (Cut y.id) h)))

    -- a source above
    by_source : is_ignored mode ≡ false → (a : List ℕ) (t : Object) → is_in a above ≡ true → object_at objects (id_in kind name a) ≡ Some t → is_source t ≡ true → (place : Option Object) → object_at objects at_home ≡ place → IsFound
    by_source counts a t mem at source None empty =
        (counts, of_kind (id_in kind name a) t at refl (source_kind t source), (a, (name, (t, at))), among_later k (taken_keys objects mode x above n kind) (flat_map (sent_keys objects mode x above n kind) above) (sent_found a t mem at source empty))
    by_source counts a t mem at source (Some y) there = lying counts y there (of_kind (id_in kind name a) t at refl (source_kind t source))

    by_top : is_ignored mode ≡ false → (labels : List (List ℕ × List ℕ)) (top : Option Object) → top_of mode labels (sources_along objects kind name above) ≡ top → is_some (copied top n (object_at objects at_home)) ≡ true → IsFound
    by_top counts labels None is h = by_copy counts (object_at objects at_home) refl h
    by_top counts labels (Some t) is h =
        let found = along_found (λ y. goes_to mode y labels) objects kind name above t is in
        by_source counts found.0 t found.1 found.2 found.3 (object_at objects at_home) refl

    by_mode : (m : Mode) → mode ≡ m → is_some (copied_in m (top_of mode x.labels (sources_along objects kind name above)) n (object_at objects at_home)) ≡ true → IsFound
    by_mode Propagate is h = by_top (ap is_ignored is) x.labels (top_of mode x.labels (sources_along objects kind name above)) refl h
    by_mode AllowPropagate is h = by_top (ap is_ignored is) x.labels (top_of mode x.labels (sources_along objects kind name above)) refl h
    by_mode Remove is h = by_copy (ap is_ignored is) (object_at objects at_home) refl h
    by_mode Ignore is h = absurd (true≢false (sym h))

    pub place_found : IsFound
    place_found = by_mode mode refl wanting

-- ---- all keys

module _ (v : Surveyed) where
  abbrev s : State
  s = state_of v

  -- the tree
  abbrev f : Forest
  f = tree_of v

  in_all : (k : Key) (n : List ℕ) → is_some (node_of (tree_of v) n) ≡ true → is_among k (wanting_of v n) ≡ true → is_among k (wanting v) ≡ true
  in_all k n there h = among_flat_map k (λ e. wanting_of v e.0) (tree_of v) ∙ there_passes (λ m. is_among k (wanting_of v m)) n (tree_of v) there h

  its_own : (k : Key) → wants (state_of v) k ≡ true → is_among k (wanted v k) ≡ true
  its_own k h = kept_among k (facts_of (state_of v) k) (ap is_some (planned_here (state_of v) k) ∙ h)

  module _ (n : List ℕ) where
    abbrev copies : List Key
    copies = open_keys v.objects (active_kinds v) (is_open (tree_of v) n) (above_of v n) n

    abbrev anchors : List Key
    anchors = flat_map (anchor_keys v n) (listed_in v.objects SubnamespaceAnchor n)

    abbrev quotas : List Key
    quotas = flat_map (quota_keys v n) (listed_in v.objects HierarchicalResourceQuota n)

    abbrev from_removal : List Key
    from_removal = wanted v (key.Purge n) ++ (anchors ++ quotas)

    abbrev from_report : List Key
    from_report = wanted v (key.Report n) ++ from_removal

    abbrev from_tree : List Key
    from_tree = wanted v (key.Tree n) ++ from_report

    module _ (k : Key) where
      in_tree : is_among k (wanted v (key.Tree n)) ≡ true → is_among k (wanting_of v n) ≡ true
      in_tree h = among_later k copies from_tree (among_first k (wanted v (key.Tree n)) from_report h)

      in_report : is_among k (wanted v (key.Report n)) ≡ true → is_among k (wanting_of v n) ≡ true
      in_report h = among_later k copies from_tree (among_later k (wanted v (key.Tree n)) from_report (among_first k (wanted v (key.Report n)) from_removal h))

      behind_report : is_among k from_removal ≡ true → is_among k (wanting_of v n) ≡ true
      behind_report h = among_later k copies from_tree (among_later k (wanted v (key.Tree n)) from_report (among_later k (wanted v (key.Report n)) from_removal h))

      in_removal : is_among k (wanted v (key.Purge n)) ≡ true → is_among k (wanting_of v n) ≡ true
      in_removal h = behind_report (among_first k (wanted v (key.Purge n)) (anchors ++ quotas) h)

      in_anchors : is_among k anchors ≡ true → is_among k (wanting_of v n) ≡ true
      in_anchors h = behind_report (among_later k (wanted v (key.Purge n)) (anchors ++ quotas) (among_first k anchors quotas h))

      in_quotas : is_among k quotas ≡ true → is_among k (wanting_of v n) ≡ true
      in_quotas h = behind_report (among_later k (wanted v (key.Purge n)) (anchors ++ quotas) (among_later k anchors quotas h))

      -- a key that an anchor has
      at_anchor : (name : List ℕ) (x : Object) → object_at v.objects (anchor_id n name) ≡ Some x → is_among k (wanted v (key.Child n name) ++ wanted v (key.Anchor n name)) ≡ true → is_among k (wanting_of v n) ≡ true
      at_anchor name x at h =
          in_anchors
          (passing_listed k (anchor_keys v n) v.objects SubnamespaceAnchor n name x at
          (subst (λ (q : Id). is_among k (wanted v (key.Child n q.name) ++ wanted v (key.Anchor n q.name)) ≡ true) (found_id v.objects (anchor_id n name) x at) h))

      at_quota : (name : List ℕ) (x : Object) → object_at v.objects (quota_id n name) ≡ Some x → is_among k (wanted v (key.Used n name)) ≡ true → is_among k (wanting_of v n) ≡ true
      at_quota name x at h =
          in_quotas
          (passing_listed k (quota_keys v n) v.objects HierarchicalResourceQuota n name x at
          (subst (λ (q : Id). is_among k (wanted v (key.Used n q.name)) ≡ true) (found_id v.objects (quota_id n name) x at) h))

    -- a place in a namespace that takes part
    at_place : (kind : Kind) (name : List ℕ) (x : Object) → is_open (tree_of v) n ≡ true → object_at v.objects (namespace_id n) ≡ Some x → wants (state_of v) (key.Copy n kind name) ≡ true → is_among (key.Copy n kind name) copies ≡ true
    at_place kind name x acts at h =
        let k = key.Copy n kind name in
        let mode = mode_at v.objects kind in
        let found = place_found v.objects mode x (senders_of v n kind) n kind name (sym (ap is_some (place_same v n x kind name acts at)) ∙ h) in
        let active : is_active v.objects kind ≡ true = kind_active v.objects kind found.2.0 found.2.1.0 found.2.1.1.0 found.0 found.2.1.1.1 in
        (λ i. is_among k (if acts i then copy_keys v.objects (active_kinds v) (above_of v n) n (at i) else []))
        ∙ among_flat_map k (kind_keys v.objects x (above_of v n) n) (active_kinds v)
        ∙ any_filter (λ kind. is_among k (kind_keys v.objects x (above_of v n) n kind)) (is_active v.objects) copied_kinds
        ∙ passing_kind (λ kind. is_active v.objects kind && is_among k (kind_keys v.objects x (above_of v n) n kind)) kind found.1 (and_from (is_active v.objects kind) (is_among k (kind_keys v.objects x (above_of v n) n kind)) active found.3)

    copy_found : (kind : Kind) (name : List ℕ) → wants (state_of v) (key.Copy n kind name) ≡ true → is_among (key.Copy n kind name) (wanting v) ≡ true
    copy_found kind name h = by (is_open (tree_of v) n) (object_at v.objects (namespace_id n)) refl refl h
      where
        written : Bool → Option Object → Bool
        written acts o = is_some (copy_write acts o (mode_at v.objects kind) (sources_along v.objects kind name (above_of v n)) n (object_at v.objects (id_in kind name n)))

        by : (acts : Bool) (o : Option Object) → is_open (tree_of v) n ≡ acts → object_at v.objects (namespace_id n) ≡ o → written acts o ≡ true → is_among (key.Copy n kind name) (wanting v) ≡ true
        by acts None is at w = absurd (true≢false (sym w))
        by false (Some x) is at w = absurd (true≢false (sym w))
        by true (Some x) is at w = in_all (key.Copy n kind name) n (live_there (tree_of v) n (open_live (tree_of v) n is)) (among_first (key.Copy n kind name) copies from_tree (at_place kind name x is at h))

  tree_acts : (acts : Bool) (chain : List (List ℕ)) (o : Option Object) → is_some (tree_write acts chain o) ≡ true → acts ≡ true
  tree_acts acts chain None h = absurd (true≢false (sym h))
  tree_acts true chain (Some x) h = refl
  tree_acts false chain (Some x) h = absurd (true≢false (sym h))

  report_takes : (takes : Bool) (o : Option Object) (children : List (List ℕ)) (conditions : List Condition) (n : List ℕ) → is_some (report_write takes o children conditions n) ≡ true → takes ≡ true
  report_takes takes None children conditions n h = (and_parts takes _ (from_so _ _ h)).0
  report_takes takes (Some x) children conditions n h = (and_parts takes _ (from_so _ _ h)).0

  -- a subnamespace that is wanted: its parent takes part, and the anchor is there
  child_acts : (acts : Bool) (anchor : Option Object) (excluded taken : Bool) (n m : List ℕ) → is_some (child_write acts (is_some anchor) excluded taken n m) ≡ true → (acts ≡ true) × (x : Object) × (anchor ≡ Some x)
  child_acts true None excluded taken n m h = absurd (true≢false (sym h))
  child_acts true (Some x) excluded taken n m h = (refl, x, refl)
  child_acts false anchor excluded taken n m h = absurd (true≢false (sym h))

  status_acts : (live : Bool) (status : AnchorStatus) (anchor : Option Object) → is_some (anchor_write live status anchor) ≡ true → (live ≡ true) × (x : Object) × (anchor ≡ Some x)
  status_acts live status None h = absurd (true≢false (sym h))
  status_acts true status (Some x) h = (refl, x, refl)
  status_acts false status (Some x) h = absurd (true≢false (sym h))

  used_acts : (live : Bool) (sums : List ℕ) (quota : Option Object) → is_some (used_write live sums quota) ≡ true → (live ≡ true) × (x : Object) × (quota ≡ Some x)
  used_acts live sums None h = absurd (true≢false (sym h))
  used_acts true sums (Some x) h = (refl, x, refl)
  used_acts false sums (Some x) h = absurd (true≢false (sym h))

  pub wanting_found : (k : Key) → wants (state_of v) k ≡ true → is_among k (wanting v) ≡ true
  wanting_found (key.Copy n kind name) h = copy_found n kind name h
  wanting_found (key.Tree n) h =
      let acts = tree_acts (is_open (tree_of v) n) (chain_of (tree_of v) n) (object_at v.objects (namespace_id n)) h in
      in_all (key.Tree n) n (live_there (tree_of v) n (open_live (tree_of v) n acts)) (in_tree n (key.Tree n) (its_own (key.Tree n) h))
  wanting_found (key.Report n) h =
      let eligible = report_takes (is_eligible (tree_of v) n) (object_at v.objects (hierarchy_id n)) (children_of (tree_of v) n) (conditions_of (state_of v) n) n h in
      in_all (key.Report n) n (live_there (tree_of v) n (eligible_live (tree_of v) n eligible)) (in_report n (key.Report n) (its_own (key.Report n) h))
  wanting_found (key.Child n name) h =
      let found = child_acts (is_open (tree_of v) n) (object_at v.objects (anchor_id n name)) (is_in name v.excluded) (is_some (object_at v.objects (namespace_id name))) n name h in
      in_all (key.Child n name) n (live_there (tree_of v) n (open_live (tree_of v) n found.0))
      (at_anchor n (key.Child n name) name found.1 found.2 (among_first (key.Child n name) (wanted v (key.Child n name)) (wanted v (key.Anchor n name)) (its_own (key.Child n name) h)))
  wanting_found (key.Anchor n name) h =
      let found = status_acts (is_live (tree_of v) n) (anchor_status (state_of v) n name) (object_at v.objects (anchor_id n name)) h in
      in_all (key.Anchor n name) n (live_there (tree_of v) n found.0)
      (at_anchor n (key.Anchor n name) name found.1 found.2 (among_later (key.Anchor n name) (wanted v (key.Child n name)) (wanted v (key.Anchor n name)) (its_own (key.Anchor n name) h)))
  wanting_found (key.Used n name) h =
      let found = used_acts (is_live (tree_of v) n) (sums_of (state_of v) n (object_at v.objects (quota_id n name))) (object_at v.objects (quota_id n name)) h in
      in_all (key.Used n name) n (live_there (tree_of v) n found.0) (at_quota n (key.Used n name) name found.1 found.2 (its_own (key.Used n name) h))
  wanting_found (key.Purge n) h =
      in_all (key.Purge n) n (leaving_there (tree_of v) n (from_so (is_leaving (tree_of v) n) _ h)) (in_removal n (key.Purge n) (its_own (key.Purge n) h))
