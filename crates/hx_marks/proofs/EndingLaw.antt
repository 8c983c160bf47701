-- The law of marks where namespaces begin to leave, and anchors go.
--     leaving_law, ending_law          a key that isn't marked wants what it wanted
--     within_leaving, within_ending    only keys of the state are marked
use Rattle.std.proofs.Common.{◌≡◌, ℕ, Bool, true, false, not, ◌||◌, Option, Some, None, List, [], ◌∷◌, ◌++◌, ◌⊎◌, refl, sym, ap, ◌∙◌, subst, inl, inr, true≢false}
use Rattle.std.specs.Prelude.{◌&&◌, is_some, is_none, flat_map, if◌then◌else◌}
use Rattle.std.specs.List.{AllByRecursion}
use Rattle.std.specs.Option.{option_map_or}
use Rattle.std.proofs.lemmas.Bool.{or_cases, or_left, or_right, cases_Bool, false_from_ne_true}
use Rattle.hx_object.specs.Kinds.{is_plain}
use Rattle.hx_object.specs.declared.kind.Kind.{Kind}
use Rattle.hx_object.specs.declared.kind.Kind.TheVariants.{SubnamespaceAnchor}
use Rattle.hx_object.specs.declared.object.Id.{Id}
use Rattle.hx_object.specs.declared.object.Object.{Object}
use Rattle.hx_object.proofs.KindTests.{namespace_kind}
use Rattle.hx_object.specs.declared.object.AnchorStatus.TheVariants.{Ok, Conflict, Forbidden}
use Rattle.hx_model.specs.Cases.{is_leaving, same_name}
use Rattle.hx_model.specs.Covered.{IsSameFor}
use Rattle.hx_model.specs.Forest.{Forest, is_in, is_there, is_live, is_excluded, parent_of, chain_of, in_chain, halt_of}
use Rattle.hx_model.specs.Keys.{is_among, has_named, is_key, may_mark}
use Rattle.hx_model.specs.Modes.{config_id}
use Rattle.hx_model.specs.Moves.{is_eligible}
use Rattle.hx_model.specs.Propagation.{id_in}
use Rattle.hx_model.specs.Reports.{misses_anchor, conditions_by}
use Rattle.hx_model.specs.Serving.{IsServed}
use Rattle.hx_model.specs.State.{State, Objects, ascends, object_at, namespace_id, state_after}
use Rattle.hx_model.specs.Subnamespaces.{anchor_id}
use Rattle.hx_model.specs.Tree.{forest_of, hierarchy_id, subnamespace_parent}
use Rattle.hx_model.specs.TreeLabels.{is_open}
use Rattle.hx_model.specs.Valid.{IsValid}
use Rattle.hx_model.specs.Wanted.{wanted_copy, wanted_child, status_by, anchor_status}
use Rattle.hx_model.specs.Writes.{MayWrite, MayWriteAll, id_written}
use Rattle.hx_model.specs.declared.key.Key.{Key}
use Rattle.hx_model.specs.declared.key.Key.TheVariants as key
use Rattle.hx_model.specs.declared.key.Write.{Write}
use Rattle.hx_model.specs.declared.key.Write.TheVariants.{Put, Cut}
use Rattle.hx_model.specs.declared.node.Node.{Node}
use Rattle.hx_model.proofs.Climbing.{chain_trans}
use Rattle.hx_model.proofs.Planting.{there-objects, namespace_is_homed}
use Rattle.hx_marks.specs.Halves.{IsEndingWrite}
use Rattle.hx_marks.specs.Law.{all_of, status_keys, anchor_keys, leaving_keys, open_below, ending_marks, marks_of, ending_names, marks_among, all_marks}
use Rattle.hx_marks.specs.Reports.{ending_reports, anchored_reports}
use Rattle.hx_marks.specs.Usage.{usage_keys}
use Rattle.hx_marks.proofs.Among.{among_append, among_flat_map, among_here, found_name, passing_name}
use Rattle.hx_marks.proofs.Asking.{is_anchor_place, copied_no_anchor, anchor_key, child_of_anchor, status_of_anchor, leaving_among}
use Rattle.hx_marks.proofs.EndingChains.{IsQuieter, quiet_chain, quiet_above, quiet_or}
use Rattle.hx_marks.proofs.EndingHalting.{own_same, halt_same, forest_ascends, children_stay}
use Rattle.hx_marks.proofs.EndingReports.{near_reports, near_own, near_child, ending_open, anchored_own, ending_reports_key, anchored_key}
use Rattle.hx_marks.proofs.EndingWrites.{IsLeavingWrite, AreMarked, HasBegun, HasEnded, has_ended, put_marks, cut_marks, among_within, all_leave}
use Rattle.hx_marks.proofs.Frames.{none_in_both, closed_wants, shut_child}
use Rattle.hx_marks.proofs.Keeping.{Stands, closed_labels, kept_copy, kept_tree, kept_child, kept_anchor, kept_purge, without_status, staying_both}
use Rattle.hx_marks.proofs.KeptTree.{KeepsTree, kept_live, kept_node, kept_quieter, node_before, node_then}
use Rattle.hx_marks.proofs.MoveChains.{open_above}
use Rattle.hx_marks.proofs.MoveStates.{none_from}
use Rattle.hx_marks.proofs.OpenBelow.{open_is_there, in_own_chain, in_open_below, open_below_has}
use Rattle.hx_marks.proofs.Replacing.{valid_served, copied_leaf}
use Rattle.hx_marks.proofs.Reporting.{same_report, silent_report}
use Rattle.hx_marks.proofs.Topmost.{topmost}
use Rattle.hx_marks.proofs.UsageEndings.{begun_stays, ended_keeps, usage_of_ended}
use Rattle.hx_marks.proofs.UsageKeys.{usage_is_key}
use Rattle.hx_marks.proofs.Wanting.{wants_known, child_known, child_among, status_among, all_tree, all_wants, all_children}
use Rattle.hx_marks.proofs.Within.{all_keys, status_key, removal_key, leaving_key, unplain_within}

-- the statuses of the anchors in a namespace, its quotas, and its removal
abbrev own_keys : State → List ℕ → List Key
own_keys s n = status_keys s.objects n ++ (usage_keys s.objects n ++ key.Purge n ∷ [])

own_status : (s : State) (n : List ℕ) (k : Key) → is_among k (status_keys s.objects n) ≡ true → is_among k (own_keys s n) ≡ true
own_status s n k mem =
    let behind : List Key = usage_keys s.objects n ++ key.Purge n ∷ [] in
    among_append k (status_keys s.objects n) behind ∙ or_left (is_among k (status_keys s.objects n)) (is_among k behind) mem

own_removal : (s : State) (n : List ℕ) → is_among (key.Purge n) (own_keys s n) ≡ true
own_removal s n =
    let k = key.Purge n in
    let removal : List Key = key.Purge n ∷ [] in
    among_append k (status_keys s.objects n) (usage_keys s.objects n ++ removal)
    ∙ or_right (is_among k (status_keys s.objects n)) (is_among k (usage_keys s.objects n ++ removal))
    (among_append k (usage_keys s.objects n) removal ∙ or_right (is_among k (usage_keys s.objects n)) (is_among k removal) (among_here k []))

module _ (s t : State) (names : List (List ℕ)) (keys : List Key) (before : AllByRecursion IsServed s.objects) (up : ascends s.objects ≡ true) (has : HasEnded s t names keys) where
  abbrev f : Forest
  f = forest_of s

  abbrev g : Forest
  g = forest_of t

  -- ---- the tree

  keeps : KeepsTree s t
  keeps = ended_keeps s t names keys before up has

  quieter : IsQuieter f g
  quieter = kept_quieter s t keeps

  same_live : (m : List ℕ) → object_at t.objects (namespace_id m) ≡ object_at s.objects (namespace_id m) → is_live g m ≡ is_live f m
  same_live m same = kept_live s t keeps m same

  same_leaving : (m : List ℕ) → object_at t.objects (namespace_id m) ≡ object_at s.objects (namespace_id m) → is_leaving g m ≡ is_leaving f m
  same_leaving m same = ap (λ o. option_map_or (λ (node : Node). node.terminating) o false) (kept_node s t keeps m same)

  -- one that began to leave was there and live, and isn't live any more
  was_there : (m : List ℕ) → HasBegun s t names keys m → is_there f m ≡ true
  was_there m begun = ap is_some (node_before s t keeps m (begun_stays s t names keys m begun))

  was_live : (m : List ℕ) → HasBegun s t names keys m → is_live f m ≡ true
  was_live m begun = ap (λ o. option_map_or (λ (node : Node). not node.terminating) o false) (node_before s t keeps m (begun_stays s t names keys m begun)) ∙ ap not begun.stood

  dead_then : (m : List ℕ) → HasBegun s t names keys m → is_live g m ≡ false
  dead_then m begun = ap (λ o. option_map_or (λ (node : Node). not node.terminating) o false) (node_then s t keeps m (begun_stays s t names keys m begun)) ∙ ap not begun.leaves

  -- ---- below one that began to leave

  -- the topmost of those above m that began to leave: what is below it is marked
  record HasTop (m : List ℕ) : Type 0 where
    top : List ℕ
    over : in_chain f m top ≡ true
    marked : AreMarked (ending_marks s top) keys
    reported : AreMarked (ending_reports f top) keys

  top_above : (a m : List ℕ) → HasBegun s t names keys a → in_chain f m a ≡ true → is_open f m ≡ true → HasTop m
  top_above a m begun over acts =
      let found = topmost f names (HasBegun s t names keys) has.each a (open_above f a m over acts) begun in
      let marks = found.1.below found.3 in
      record { top = found.0; over = chain_trans f m a found.0 over found.2; marked = marks.0; reported = marks.1 }

  -- what takes part below one is marked
  below_marked : (a m : List ℕ) (k : Key) → HasBegun s t names keys a → in_chain f m a ≡ true → is_open f m ≡ true → is_among k (all_of s.objects (chain_of f m) m) ≡ true → is_among k keys ≡ true
  below_marked a m k begun over acts mem =
      let wanted : List ℕ → List Key = λ b. all_of s.objects (chain_of f b) b in
      let found = top_above a m begun over acts in
      found.marked k
      (among_append k (flat_map wanted (open_below f found.top)) (own_keys s found.top)
      ∙ or_left (is_among k (flat_map wanted (open_below f found.top))) _ (among_flat_map k wanted (open_below f found.top) ∙ passing_name (λ b. is_among k (wanted b)) m (open_below f found.top) (in_open_below f found.top m acts found.over) mem))

  own_marked : (a : List ℕ) (k : Key) → HasBegun s t names keys a → is_among k (own_keys s a) ≡ true → is_among k keys ≡ true
  own_marked a k begun mem = begun.own k (among_append k (own_keys s a) (near_reports f a) ∙ or_left (is_among k (own_keys s a)) (is_among k (near_reports f a)) mem)

  near_marked : (a : List ℕ) (k : Key) → HasBegun s t names keys a → is_among k (near_reports f a) ≡ true → is_among k keys ≡ true
  near_marked a k begun mem =
      begun.own k (among_append k (own_keys s a) (near_reports f a) ∙ or_right (is_among k (own_keys s a)) (is_among k (near_reports f a)) mem)

  -- a member of its chain began to leave, or it stands as before
  standing : (m : List ℕ) → ((a : List ℕ) × HasBegun s t names keys a × (in_chain f m a ≡ true) × (is_open g m ≡ false)) ⊎ Stands s t m
  standing m = elim (quiet_or f g quieter m) [
    | inl (a, over, lives, dead) ↦ elim (has.homes a) [
      | inl same ↦ absurd (true≢false (sym lives ∙ sym (same_live a same) ∙ dead))
      | inr begun ↦ inl (a, begun, over, false_from_ne_true (is_open g m) (λ acts. true≢false (sym (quiet_above f g quieter m a over acts) ∙ dead)))
    ]
    | inr (acts, lives) ↦ inr (record {
      acts = acts;
      chain = quiet_chain f g quieter m;
      home = elim (has.homes m) [
        | inl same ↦ same
        | inr begun ↦ absurd (true≢false (sym (was_live m begun) ∙ sym (lives m (in_own_chain f m (was_there m begun))) ∙ dead_then m begun))
      ];
    })
  ]

  -- ---- keys

  abbrev Unmarked : Key → Type 0
  Unmarked k = is_among k keys ≡ false

  copy_law : (m : List ℕ) (kind : Kind) (name : List ℕ) → Unmarked (key.Copy m kind name) → IsSameFor s t (key.Copy m kind name)
  copy_law m kind name out = elim (standing m) [
    | inr stands ↦ kept_copy s t m kind name stands (has.others config_id refl refl) (λ b copied. has.others (id_in kind name b) (copied_leaf kind copied) (copied_no_anchor kind copied))
    | inl (a, begun, over, shut) ↦
        none_in_both s t (key.Copy m kind name)
        (none_from (wanted_copy s m kind name) (λ wants.
        let known = wants_known s.objects (chain_of f m) m kind name (is_open f m) (object_at s.objects (namespace_id m)) wants in
        true≢false (sym (below_marked a m (key.Copy m kind name) begun over known.0 (all_wants s.objects (chain_of f m) m (key.Copy m kind name) known.2)) ∙ out)))
        (closed_wants t m kind name shut)
  ]

  tree_law : (m : List ℕ) → Unmarked (key.Tree m) → IsSameFor s t (key.Tree m)
  tree_law m out = elim (standing m) [
    | inr stands ↦ kept_tree s t m stands
    | inl (a, begun, over, shut) ↦ elim (cases_Bool (is_open f m)) [
      | inl acts ↦ absurd (true≢false (sym (below_marked a m (key.Tree m) begun over acts (all_tree s.objects (chain_of f m) m)) ∙ out))
      | inr closed ↦ closed_labels s t m closed shut
    ]
  ]

  -- a name is taken as before
  taken : (name : List ℕ) → is_some (object_at t.objects (namespace_id name)) ≡ is_some (object_at s.objects (namespace_id name))
  taken name = elim (has.homes name) [ inl same ↦ ap is_some same | inr begun ↦ ap is_some begun.ends ∙ sym (ap is_some begun.there) ]

  child_law : (m name : List ℕ) → Unmarked (key.Child m name) → IsSameFor s t (key.Child m name)
  child_law m name out = elim (standing m) [
    | inr stands ↦ elim (has.anchors m name) [
      | inl same ↦ kept_child s t m name stands has.excluded same (taken name)
      | inr (gone, marked) ↦ absurd (true≢false (sym (marked.0 (key.Child m name) (child_of_anchor m name)) ∙ out))
    ]
    | inl (a, begun, over, shut) ↦
        none_in_both s t (key.Child m name)
        (none_from (wanted_child s m name) (λ wants.
        let known = child_known (is_open f m) (object_at s.objects (anchor_id m name)) (is_in name s.config.excluded) (is_some (object_at s.objects (namespace_id name))) m name wants in
        true≢false (sym (below_marked a m (key.Child m name) begun over known.0 (all_children s.objects (chain_of f m) m (key.Child m name) (child_among s.objects m name known.1 known.2))) ∙ out)))
        (shut_child t m name shut)
  ]

  -- the status by a namespace that began to leave is as before
  status_same : (m name : List ℕ) → anchor_status t m name ≡ anchor_status s m name
  status_same m name = elim (has.homes name) [
    | inl same ↦ (λ i. status_by (is_in m (has.excluded i) || is_in name (has.excluded i)) m (same i))
    | inr begun ↦
        ap (status_by (is_in m t.config.excluded || is_in name t.config.excluded) m) begun.ends
        ∙ (λ i. if is_in m (has.excluded i) || is_in name (has.excluded i) then Forbidden else (if same_name (begun.annotation i) (Some m) then Ok else Conflict))
        ∙ sym (ap (status_by (is_in m s.config.excluded || is_in name s.config.excluded) m) begun.there)
  ]

  -- the status of an anchor in one that began to leave is marked
  unlisted : (m name : List ℕ) → HasBegun s t names keys m → Unmarked (key.Anchor m name) → object_at s.objects (anchor_id m name) ≡ None
  unlisted m name begun out = by (object_at s.objects (anchor_id m name)) refl
    where
      by : (o : Option Object) → object_at s.objects (anchor_id m name) ≡ o → o ≡ None
      by None e = refl
      by (Some x) e =
          absurd (true≢false (sym (own_marked m (key.Anchor m name) begun (own_status s m (key.Anchor m name) (status_among s.objects m name x e))) ∙ out))

  anchor_law : (m name : List ℕ) → Unmarked (key.Anchor m name) → IsSameFor s t (key.Anchor m name)
  anchor_law m name out = elim (has.homes m) [
    | inl home ↦ elim (has.anchors m name) [
      | inl same ↦ kept_anchor s t m name (same_live m home) home same (status_same m name)
      | inr (gone, marked) ↦ absurd (true≢false (sym (marked.0 (key.Anchor m name) (status_of_anchor m name)) ∙ out))
    ]
    | inr begun ↦
        let none : object_at s.objects (anchor_id m name) ≡ None = unlisted m name begun out in
        without_status s t m name none (elim (has.anchors m name) [ inl same ↦ same ∙ none | inr (gone, marked) ↦ gone ])
  ]

  purge_law : (m : List ℕ) → Unmarked (key.Purge m) → IsSameFor s t (key.Purge m)
  purge_law m out = elim (has.homes m) [
    | inr begun ↦ absurd (true≢false (sym (own_marked m (key.Purge m) begun (own_removal s m)) ∙ out))
    | inl home ↦ elim (cases_Bool (is_leaving f m)) [
      | inr stays ↦ staying_both s t m stays (same_leaving m home ∙ stays)
      | inl leaves ↦ elim (has.inside m) [
        | inr marked ↦ absurd (true≢false (sym (marked (key.Purge m) (leaving_among f m leaves)) ∙ out))
        | inl (same, least) ↦ kept_purge s t m (same_leaving m home) home same least
      ]
    ]
  ]

  -- whether its parent is there and holds no anchor of its name
  misses_same : (m : List ℕ) → is_eligible f m ≡ true → Unmarked (key.Report m) → object_at t.objects (namespace_id m) ≡ object_at s.objects (namespace_id m)
      → option_map_or (misses_anchor t.objects m) (object_at t.objects (namespace_id m)) false ≡ option_map_or (misses_anchor s.objects m) (object_at s.objects (namespace_id m)) false
  misses_same m eligible out home = ap (λ o. option_map_or (misses_anchor t.objects m) o false) home ∙ by (object_at s.objects (namespace_id m)) refl
    where
      by : (found : Option Object) → object_at s.objects (namespace_id m) ≡ found → option_map_or (misses_anchor t.objects m) found false ≡ option_map_or (misses_anchor s.objects m) found false
      by None absent = refl
      by (Some x) there = under (subnamespace_parent x) refl
        where
          -- no anchor goes that its annotation asks for
          unheld : (p : List ℕ) → subnamespace_parent x ≡ Some p → AreMarked (anchored_reports s (anchor_id p m) (object_at s.objects (anchor_id p m)) None) keys → (o : Option Object) → object_at s.objects (anchor_id p m) ≡ o → o ≡ None
          unheld p named reported None e = refl
          unheld p named reported (Some a) e = absurd (true≢false (sym (reported (key.Report m) (anchored_own s p m x a there named e eligible)) ∙ out))

          held : (p : List ℕ) → subnamespace_parent x ≡ Some p → object_at t.objects (anchor_id p m) ≡ object_at s.objects (anchor_id p m)
          held p named = elim (has.anchors p m) [
            | inl same ↦ same
            | inr (gone, marked) ↦ gone ∙ sym (unheld p named marked.1 (object_at s.objects (anchor_id p m)) refl)
          ]

          misses_under : Objects → Option (List ℕ) → Bool
          misses_under objects next = option_map_or (λ p. is_some (object_at objects (namespace_id p)) && is_none (object_at objects (anchor_id p m))) next false

          under : (next : Option (List ℕ)) → subnamespace_parent x ≡ next → misses_under t.objects next ≡ misses_under s.objects next
          under None named = refl
          under (Some p) named = (λ i. taken p i && is_none (held p named i))

  -- a parent that began to leave has marked it
  parent_stays : (m : List ℕ) → is_eligible f m ≡ true → Unmarked (key.Report m) → (p : List ℕ) → parent_of f m ≡ Some p → is_live g p ≡ is_live f p
  parent_stays m eligible out p under = elim (has.homes p) [
    | inl same ↦ same_live p same
    | inr begun ↦ absurd (true≢false (sym (near_marked p (key.Report m) begun (near_child f p m eligible under)) ∙ out))
  ]

  -- so has one above it, where it took part
  report_open : (m : List ℕ) → is_eligible f m ≡ true → Unmarked (key.Report m) → is_open g m ≡ is_open f m
  report_open m eligible out = elim (standing m) [
    | inr stands ↦ stands.acts
    | inl (a, begun, over, shut) ↦ elim (cases_Bool (is_open f m)) [
      | inl acts ↦
          let found = top_above a m begun over acts in
          absurd (true≢false (sym (found.reported (key.Report m) (ending_open f found.top m eligible acts found.over)) ∙ out))
      | inr closed ↦ shut ∙ sym closed
    ]
  ]

  report_law : (m : List ℕ) → Unmarked (key.Report m) → IsSameFor s t (key.Report m)
  report_law m out = elim (has.homes m) [
    | inr begun ↦ elim (cases_Bool (is_eligible f m)) [
      | inl eligible ↦ absurd (true≢false (sym (near_marked m (key.Report m) begun (near_own f m eligible)) ∙ out))
      | inr none ↦ silent_report s t m none (ap (λ b. b && not (is_excluded g m)) (dead_then m begun))
    ]
    | inl home ↦
        let same : is_eligible g m ≡ is_eligible f m = (λ i. same_live m home i && not (quieter.excluded m i)) in
        elim (cases_Bool (is_eligible f m)) [
          | inr none ↦ silent_report s t m none (same ∙ none)
          | inl eligible ↦
              let halt : halt_of g m ≡ halt_of f m = halt_same f g m eligible (same ∙ eligible) (own_same f g quieter m (parent_stays m eligible out)) (report_open m eligible out) in
              same_report s t m same (has.others (hierarchy_id m) refl refl) home
              (children_stay f g quieter (forest_ascends s up before) (forest_ascends t has.ascending has.served) m)
              (λ i. conditions_by (halt i) (misses_same m eligible out home i))
        ]
  ]

  law_by : (k : Key) → Unmarked k → IsSameFor s t k
  law_by (key.Copy m kind name) out = copy_law m kind name out
  law_by (key.Tree m) out = tree_law m out
  law_by (key.Report m) out = report_law m out
  law_by (key.Child m name) out = child_law m name out
  law_by (key.Anchor m name) out = anchor_law m name out
  law_by (key.Used m name) out = usage_of_ended s t names keys before up has m name out
  law_by (key.Purge m) out = purge_law m out

-- namespaces begin to leave, and anchors go: a key that isn't marked wants what it wanted
pub leaving_law : (s : State) (ws : List Write) → IsValid s → MayWriteAll s ws → AllByRecursion (IsLeavingWrite s) ws → (k : Key) → is_among k (all_marks s ws) ≡ false → IsSameFor s (state_after s ws) k
leaving_law s ws valid may ends k out = law_by s (state_after s ws) (ending_names ws) (all_marks s ws) (valid_served s valid) valid.in_order (has_ended s ws valid may ends) k out

-- ---- keys of the state

ending_keys : (s : State) (n : List ℕ) (k : Key) → is_there (forest_of s) n ≡ true → is_among k (ending_marks s n) ≡ true → is_key s k ≡ true
ending_keys s n k there mem =
    let f = forest_of s in
    let wanted : List ℕ → List Key = λ b. all_of s.objects (chain_of f b) b in
    elim (or_cases (is_among k (flat_map wanted (open_below f n))) (is_among k (own_keys s n)) (sym (among_append k (flat_map wanted (open_below f n)) (own_keys s n)) ∙ mem)) [
      | inl below ↦
          let found = found_name (λ b. is_among k (wanted b)) (open_below f n) (sym (among_flat_map k wanted (open_below f n)) ∙ below) in
          let m = found.0 in
          all_keys s (chain_of f m) m k (or_left (is_there f m) (has_named s.objects SubnamespaceAnchor m) (open_is_there f m (open_below_has f n m found.1).0)) found.2
      | inr own ↦ elim (or_cases (is_among k (status_keys s.objects n)) (is_among k (usage_keys s.objects n ++ key.Purge n ∷ [])) (sym (among_append k (status_keys s.objects n) (usage_keys s.objects n ++ key.Purge n ∷ [])) ∙ own)) [
        | inl status ↦ status_key s n k status
        | inr behind ↦ elim (or_cases (is_among k (usage_keys s.objects n)) (is_among k (key.Purge n ∷ [])) (sym (among_append k (usage_keys s.objects n) (key.Purge n ∷ [])) ∙ behind)) [
          | inl quota ↦ usage_is_key s n k quota
          | inr purge ↦ removal_key s n k there purge
        ]
      ]
    ]

one_keys : (s : State) (w : Write) → IsValid s → MayWrite s w → IsLeavingWrite s w → (k : Key) → is_among k (marks_of s w) ≡ true → is_key s k ≡ true
one_keys s (Put x) valid may ends k mem =
    let there : is_there (forest_of s) x.id.name ≡ true =
    there-objects s.config.excluded s.objects x.id.name (valid_served s valid) ∙ ap (λ (q : Id). is_some (object_at s.objects q)) (sym (namespace_is_homed x may.served ends.kind)) ∙ ap is_some ends.there in
    elim (or_cases (is_among k (ending_marks s x.id.name)) (is_among k (ending_reports (forest_of s) x.id.name)) (sym (among_append k (ending_marks s x.id.name) (ending_reports (forest_of s) x.id.name)) ∙ sym (ap (is_among k) (put_marks s x ends)) ∙ mem)) [
      | inl own ↦ ending_keys s x.id.name k there own
      | inr report ↦ ending_reports_key s x.id.name k report
    ]
one_keys s (Cut id) valid may ends k mem =
    let own : List Key = anchor_keys id ++ leaving_keys (forest_of s) id.ns in
    let reports : List Key = anchored_reports s id (object_at s.objects id) None in
    elim (or_cases (is_among k own) (is_among k reports) (sym (among_append k own reports) ∙ sym (ap (is_among k) (cut_marks s id ends)) ∙ mem)) [
      | inr report ↦ anchored_key s id (object_at s.objects id) None k report
      | inl either ↦ elim (or_cases (is_among k (anchor_keys id)) (is_among k (leaving_keys (forest_of s) id.ns)) (sym (among_append k (anchor_keys id) (leaving_keys (forest_of s) id.ns)) ∙ either)) [
        | inl anchor ↦
            let place = is_anchor_place id ends in
            anchor_key s id.ns id.name may.there.0 k (ap (object_at s.objects) (sym place) ∙ may.there.1) (subst (λ (q : Id). is_among k (anchor_keys q) ≡ true) place anchor)
        | inr leaves ↦ leaving_key s id.ns k leaves
      ]
    ]

each_keys : (s : State) (names : List (List ℕ)) (ws : List Write) → IsValid s → AllByRecursion (MayWrite s) ws → AllByRecursion (IsLeavingWrite s) ws → (k : Key) → is_among k (flat_map (marks_among s names) ws) ≡ true → is_key s k ≡ true
each_keys s names [] valid may ends k mem = absurd (true≢false (sym mem))
each_keys s names (w ∷ ws) valid may ends k mem =
    let later : List Key = flat_map (marks_among s names) ws in
    elim (or_cases (is_among k (marks_among s names w)) (is_among k later) (sym (among_append k (marks_among s names w) later) ∙ mem)) [
      | inl here ↦ one_keys s w valid may.0 ends.0 k (among_within s names w ends.0 k here)
      | inr there ↦ each_keys s names ws valid may.1 ends.1 k there
    ]

-- no such write is of a kind that is kept as it is given
ending_kind : (s : State) (w : Write) → IsLeavingWrite s w → is_plain (id_written w).kind ≡ false
ending_kind s (Put x) ends = ap is_plain (namespace_kind x.id.kind ends.kind)
ending_kind s (Cut id) ends = ap (λ (q : Id). is_plain q.kind) (is_anchor_place id ends)

-- and only keys of the state are marked
pub within_leaving : (s : State) (ws : List Write) → IsValid s → MayWriteAll s ws → AllByRecursion (IsLeavingWrite s) ws → (k : Key) → is_among k (all_marks s ws) ≡ true → may_mark s ws k ≡ true
within_leaving s [] valid may ends k mem = absurd (true≢false (sym mem))
within_leaving s (w ∷ []) valid may ends k mem =
    unplain_within s w k (or_left (is_key s k) (is_key (state_after s (w ∷ [])) k) (each_keys s (ending_names (w ∷ [])) (w ∷ []) valid may.each ends k mem)) (ending_kind s w ends.0)
within_leaving s (w ∷ v ∷ ws) valid may ends k mem = or_left (is_key s k) (is_key (state_after s (w ∷ v ∷ ws)) k) (each_keys s (ending_names (w ∷ v ∷ ws)) (w ∷ v ∷ ws) valid may.each ends k mem)

-- ---- the writes of endings

pub ending_law : (s : State) (ws : List Write) → IsValid s → MayWriteAll s ws → AllByRecursion (IsEndingWrite s) ws → (k : Key) → is_among k (all_marks s ws) ≡ false → IsSameFor s (state_after s ws) k
ending_law s ws valid may ends = leaving_law s ws valid may (all_leave s ws ends)

pub within_ending : (s : State) (ws : List Write) → IsValid s → MayWriteAll s ws → AllByRecursion (IsEndingWrite s) ws → (k : Key) → is_among k (all_marks s ws) ≡ true → may_mark s ws k ≡ true
within_ending s ws valid may ends = within_leaving s ws valid may (all_leave s ws ends)
