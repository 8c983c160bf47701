-- The law of marks where an anchor is written or removed.
--     anchor_law        a key that isn't marked wants what it wanted
--     within_anchors    only keys of the two states are marked
use Rattle.std.proofs.Common.{◌≡◌, ℕ, Bool, true, false, not, ◌&&◌, ◌||◌, cond, Option, None, Some, List, [], ◌∷◌, ◌++◌, refl, sym, ap, ◌∙◌, subst, inl, inr, true≢false}
use Rattle.std.specs.Prelude.{is_none, is_some, if◌then◌else◌}
use Rattle.std.specs.Cmp.{tied_itself}
use Rattle.std.specs.Option.{option_map_or}
use Rattle.std.specs.Str.{bytes_eq}
use Rattle.std.proofs.lemmas.Bool.{and_parts, or_cases, or_left, or_right, cases_Bool, false_from_ne_true}
use Rattle.hx_object.specs.Kinds.{is_anchor, is_hierarchy, is_in_cluster, is_namespace, is_plain}
use Rattle.hx_object.specs.declared.object.Id.{Id}
use Rattle.hx_object.specs.declared.object.Object.{Object}
use Rattle.hx_model.specs.Answers.{owns_named}
use Rattle.hx_model.specs.Cases.{is_leaving, same_name}
use Rattle.hx_model.specs.Covered.{IsSameFor}
use Rattle.hx_model.specs.Forest.{children_of, halt_of, is_in, is_live, chain_of}
use Rattle.hx_model.specs.Keys.{is_among, is_key, may_mark}
use Rattle.hx_model.specs.Modes.{config_id}
use Rattle.hx_model.specs.Moves.{is_eligible}
use Rattle.hx_model.specs.Propagation.{id_in}
use Rattle.hx_model.specs.Reports.{conditions_by, misses_anchor}
use Rattle.hx_model.specs.State.{State, object_at, same_id, namespace_id, lies_in, least_in, state_after}
use Rattle.hx_model.specs.Subnamespaces.{anchor_id, is_owned_by}
use Rattle.hx_model.specs.Tree.{forest_of, hierarchy_id, subnamespace_parent}
use Rattle.hx_model.specs.TreeLabels.{is_open}
use Rattle.hx_model.specs.Wanted.{status_by, anchor_status}
use Rattle.hx_model.specs.Writes.{MayWriteAll, id_written}
use Rattle.hx_model.specs.declared.key.Key.{Key}
use Rattle.hx_model.specs.declared.key.Key.TheVariants as key
use Rattle.hx_model.specs.declared.key.Write.{Write}
use Rattle.hx_model.specs.declared.key.Write.TheVariants.{Put, Cut}
use Rattle.hx_model.proofs.Climbing.{is_same, same_itself}
use Rattle.hx_model.proofs.Displacing.{KeepsOthers, put_keeps, cut_keeps}
use Rattle.hx_model.proofs.Objects.{id_total, is_same_id, same_from_Equal, found_again, object_at-cut}
use Rattle.hx_model.proofs.Planting.{forest-put, forest-cut}
use Rattle.hx_marks.specs.Law.{anchor_keys, leaving_keys, object_written, marks_by, report_marks, differ}
use Rattle.hx_marks.specs.Reports.{anchored_reports, report_keys}
use Rattle.hx_marks.proofs.Among.{among_append, among_cond, out_left, out_right}
use Rattle.hx_marks.proofs.Asking.{is_anchor_place, copied_no_anchor, anchor_key, child_of_anchor, status_of_anchor, leaving_among}
use Rattle.hx_marks.proofs.Frames.{put_least, cut_least}
use Rattle.hx_marks.proofs.Parts.{UsedSame, marks_beside}
use Rattle.hx_marks.proofs.Reporting.{own_report, report_key, same_report, silent_report}
use Rattle.hx_marks.proofs.Keeping.{Stands, kept_copy, kept_tree, kept_child, kept_anchor, kept_purge, staying_both}
use Rattle.hx_marks.proofs.Within.{leaving_key, unplain_within}

-- what kinds of anchors are not
anchor_leaf : (id : Id) → is_anchor id.kind ≡ true → is_namespace id.kind ≡ false
anchor_leaf id is = ap (λ (q : Id). is_namespace q.kind) (is_anchor_place id is)

anchor_level : (id : Id) → is_anchor id.kind ≡ true → is_hierarchy id.kind ≡ false
anchor_level id is = ap (λ (q : Id). is_hierarchy q.kind) (is_anchor_place id is)

-- another kind is another identity
other_kind : (id q : Id) → is_anchor id.kind ≡ true → is_anchor q.kind ≡ false → same_id q id ≡ false
other_kind id q is out = false_from_ne_true (same_id q id) (λ h. true≢false (sym is ∙ sym (ap (λ (p : Id). is_anchor p.kind) (is_same_id q id h)) ∙ out))

-- what such a write leaves
record LeavesAnchor (s t : State) (id : Id) : Type 0 where
  tree : forest_of t ≡ forest_of s
  excluded : t.config.excluded ≡ s.config.excluded
  others : KeepsOthers id s.objects t.objects
  least : (m : List ℕ) → lies_in m id ≡ false → least_in t.objects m ≡ least_in s.objects m

leaves_anchor : (s : State) (w : Write) → is_anchor (id_written w).kind ≡ true → LeavesAnchor s (state_after s (w ∷ [])) (id_written w)
leaves_anchor s (Put x) is = record {
  tree = forest-put s.config.excluded x s.objects (anchor_leaf x.id is) (anchor_level x.id is);
  excluded = refl;
  others = put_keeps x x.id s.objects refl;
  least = λ m out. put_least x s.objects m out;
}
leaves_anchor s (Cut id) is = record {
  tree = forest-cut s.config.excluded id s.objects (anchor_leaf id is) (anchor_level id is);
  excluded = refl;
  others = cut_keeps id s.objects;
  least = λ m out. cut_least id s.objects m out;
}

module _ (s t : State) (id : Id) (is : is_anchor id.kind ≡ true) (left : LeavesAnchor s t id) where
  stands : (m : List ℕ) → Stands s t m
  stands m = record { acts = ap (λ f. is_open f m) left.tree; chain = ap (λ f. chain_of f m) left.tree; home = left.others (namespace_id m) (other_kind id (namespace_id m) is refl) }

  -- its keys are those of its place
  own_child : (m name : List ℕ) → same_id (anchor_id m name) id ≡ true → is_among (key.Child m name) (anchor_keys id) ≡ true
  own_child m name same = subst (λ (q : Id). is_among (key.Child m name) (anchor_keys q) ≡ true) (is_same_id (anchor_id m name) id same) (child_of_anchor m name)

  own_status : (m name : List ℕ) → same_id (anchor_id m name) id ≡ true → is_among (key.Anchor m name) (anchor_keys id) ≡ true
  own_status m name same = subst (λ (q : Id). is_among (key.Anchor m name) (anchor_keys q) ≡ true) (is_same_id (anchor_id m name) id same) (status_of_anchor m name)

  same_leaving : (m : List ℕ) → is_leaving (forest_of t) m ≡ is_leaving (forest_of s) m
  same_leaving m = ap (λ f. is_leaving f m) left.tree

  -- a namespace that isn't its own
  elsewhere : (m : List ℕ) → bytes_eq m id.ns ≡ false → lies_in m id ≡ false
  elsewhere m off = ap (λ b. not (is_in_cluster id.kind) && b) off ∙ never (not (is_in_cluster id.kind))
    where
      never : (b : Bool) → (b && false) ≡ false
      never true = refl
      never false = refl

  inside : (m : List ℕ) → lies_in m id ≡ false → (q : Id) → lies_in m q ≡ true → object_at t.objects q ≡ object_at s.objects q
  inside m out q lies = left.others q (false_from_ne_true (same_id q id) (λ h. true≢false (sym lies ∙ ap (lies_in m) (is_same_id q id h) ∙ out)))

  -- the report of a namespace that isn't marked: its anchor is there as before, or it isn't this one
  module _ (new : Option Object) (here : object_at t.objects id ≡ new) (m : List ℕ) (out : is_among (key.Report m) (anchored_reports s id (object_at s.objects id) new) ≡ false) (eligible : is_eligible (forest_of s) m ≡ true) where
    home : object_at t.objects (namespace_id m) ≡ object_at s.objects (namespace_id m)
    home = left.others (namespace_id m) (other_kind id (namespace_id m) is refl)

    -- where its parent is that of the anchor, the anchor is there before and then, or in neither
    presence : (x : Object) (p : List ℕ) → object_at s.objects (namespace_id m) ≡ Some x → subnamespace_parent x ≡ Some p → anchor_id p m ≡ id → is_none (object_at t.objects (anchor_id p m)) ≡ is_none (object_at s.objects (anchor_id p m))
    presence x p at named place =
        let owns : owns_named s id ≡ true =
        subst (λ (q : Id). owns_named s q ≡ true) place (ap (λ o. option_map_or (is_owned_by p) o false) at ∙ ap (λ o. same_name o (Some p)) named ∙ same_itself p) in
        let told : is_among (key.Report m) (report_keys (forest_of s) id.name) ≡ true = subst (λ (q : Id). is_among (key.Report m) (report_keys (forest_of s) q.name) ≡ true) place (own_report (forest_of s) m eligible) in
        let same : differ (is_some (object_at s.objects id)) (is_some new) ≡ false = false_from_ne_true (differ (is_some (object_at s.objects id)) (is_some new)) (λ h.
        true≢false (sym ((λ i. is_among (key.Report m) (if h i && owns i then report_keys (forest_of s) id.name else [])) ∙ told) ∙ out)) in
        ap (λ (q : Id). is_none (object_at t.objects q)) place ∙ ap is_none here ∙ by_presence (object_at s.objects id) new same ∙ ap (λ (q : Id). is_none (object_at s.objects q)) (sym place)
      where
        by_presence : (a b : Option Object) → differ (is_some a) (is_some b) ≡ false → is_none b ≡ is_none a
        by_presence None None e = refl
        by_presence None (Some b) e = absurd (true≢false e)
        by_presence (Some a) None e = absurd (true≢false e)
        by_presence (Some a) (Some b) e = refl

    misses : (o : Option Object) → object_at s.objects (namespace_id m) ≡ o → option_map_or (misses_anchor t.objects m) o false ≡ option_map_or (misses_anchor s.objects m) o false
    misses None at = refl
    misses (Some x) at = by (subnamespace_parent x) refl
      where
        missing : State → List ℕ → Bool
        missing u p = is_some (object_at u.objects (namespace_id p)) && is_none (object_at u.objects (anchor_id p m))

        by : (o : Option (List ℕ)) → subnamespace_parent x ≡ o → option_map_or (missing t) o false ≡ option_map_or (missing s) o false
        by None named = refl
        by (Some p) named =
            let anchored : is_none (object_at t.objects (anchor_id p m)) ≡ is_none (object_at s.objects (anchor_id p m)) = elim (cases_Bool (same_id (anchor_id p m) id)) [
              | inr off ↦ ap is_none (left.others (anchor_id p m) off)
              | inl same ↦ presence x p at named (is_same_id (anchor_id p m) id same)
            ] in
            λ i. is_some (left.others (namespace_id p) (other_kind id (namespace_id p) is refl) i) && anchored i

    report_law : IsSameFor s t (key.Report m)
    report_law =
        same_report s t m (ap (λ f. is_eligible f m) left.tree) (left.others (hierarchy_id m) (other_kind id (hierarchy_id m) is refl)) home (ap (λ f. children_of f m) left.tree)
        ((λ i. conditions_by (halt_of (left.tree i) m) (option_map_or (misses_anchor t.objects m) (home i) false)) ∙ ap (conditions_by (halt_of (forest_of s) m)) (misses (object_at s.objects (namespace_id m)) refl))

  report_same : (new : Option Object) → object_at t.objects id ≡ new → (m : List ℕ) → is_among (key.Report m) (anchored_reports s id (object_at s.objects id) new) ≡ false → IsSameFor s t (key.Report m)
  report_same new here m out = elim (cases_Bool (is_eligible (forest_of s) m)) [
    | inl eligible ↦ report_law new here m out eligible
    | inr silent ↦ silent_report s t m silent (ap (λ f. is_eligible f m) left.tree ∙ silent)
  ]

  law_by : (new : Option Object) → object_at t.objects id ≡ new → (k : Key) → is_among k (anchor_keys id) ≡ false → is_among k (leaving_keys (forest_of s) id.ns) ≡ false → is_among k (anchored_reports s id (object_at s.objects id) new) ≡ false → UsedSame s t k → IsSameFor s t k
  law_by new here (key.Copy m kind name) out stays told used =
      kept_copy s t m kind name (stands m) (left.others config_id (other_kind id config_id is refl)) (λ a copied. left.others (id_in kind name a) (other_kind id (id_in kind name a) is (copied_no_anchor kind copied)))
  law_by new here (key.Tree m) out stays told used = kept_tree s t m (stands m)
  law_by new here (key.Report m) out stays told used = report_same new here m told
  law_by new here (key.Child m name) out stays told used = elim (cases_Bool (same_id (anchor_id m name) id)) [
    | inl same ↦ absurd (true≢false (sym (own_child m name same) ∙ out))
    | inr off ↦ kept_child s t m name (stands m) left.excluded (left.others (anchor_id m name) off) (ap is_some (left.others (namespace_id name) (other_kind id (namespace_id name) is refl)))
  ]
  law_by new here (key.Anchor m name) out stays told used = elim (cases_Bool (same_id (anchor_id m name) id)) [
    | inl same ↦ absurd (true≢false (sym (own_status m name same) ∙ out))
    | inr off ↦
        let named = left.others (namespace_id name) (other_kind id (namespace_id name) is refl) in
        let status : anchor_status t m name ≡ anchor_status s m name = λ i. status_by (is_in m (left.excluded i) || is_in name (left.excluded i)) m (named i) in
        kept_anchor s t m name (ap (λ f. is_live f m) left.tree) (left.others (namespace_id m) (other_kind id (namespace_id m) is refl)) (left.others (anchor_id m name) off) status
  ]
  law_by new here (key.Used m name) out stays told used = used m name refl
  law_by new here (key.Purge m) out stays told used = elim (cases_Bool (bytes_eq m id.ns)) [
    | inl here ↦ elim (cases_Bool (is_leaving (forest_of s) m)) [
      | inl leaves ↦ absurd (true≢false (sym (leaving_among (forest_of s) m leaves) ∙ ap (λ (n : List ℕ). is_among (key.Purge m) (leaving_keys (forest_of s) n)) (is_same m id.ns here) ∙ stays))
      | inr still ↦ staying_both s t m still (same_leaving m ∙ still)
    ]
    | inr off ↦
        let out_of = elsewhere m off in
        kept_purge s t m (same_leaving m) (left.others (namespace_id m) (other_kind id (namespace_id m) is refl)) (inside m out_of) (left.least m out_of)
  ]

-- what is marked
anchor_marked : (s : State) (w : Write) → is_anchor (id_written w).kind ≡ true
    → marks_beside s w ≡ (anchor_keys (id_written w) ++ leaving_keys (forest_of s) (id_written w).ns) ++ anchored_reports s (id_written w) (object_at s.objects (id_written w)) (object_written w)
anchor_marked s w is = by (id_written w) is (object_at s.objects (id_written w)) (object_written w)
  where
    t : State
    t = state_after s (w ∷ [])

    by : (id : Id) → is_anchor id.kind ≡ true → (old new : Option Object) → marks_by s t id old new ++ report_marks s t id old new ≡ (anchor_keys id ++ leaving_keys (forest_of s) id.ns) ++ anchored_reports s id old new
    by id of_anchor old new = subst (λ (q : Id). marks_by s t q old new ++ report_marks s t q old new ≡ (anchor_keys q ++ leaving_keys (forest_of s) q.ns) ++ anchored_reports s q old new) (sym (is_anchor_place id of_anchor)) refl

-- what is there then
anchor_then : (s : State) (w : Write) → object_at (state_after s (w ∷ [])).objects (id_written w) ≡ object_written w
anchor_then s (Put x) = found_again x s.objects
anchor_then s (Cut id) = object_at-cut id s.objects id ∙ ap (λ b. cond b None (object_at s.objects id)) (same_from_Equal id id (tied_itself id_total id))

-- an anchor: a key that isn't marked wants what it wanted
pub anchor_law : (s : State) (w : Write) → is_anchor (id_written w).kind ≡ true → (k : Key) → is_among k (marks_beside s w) ≡ false → UsedSame s (state_after s (w ∷ [])) k → IsSameFor s (state_after s (w ∷ [])) k
anchor_law s w is k out used =
    let id = id_written w in
    let own = anchor_keys id ++ leaving_keys (forest_of s) id.ns in
    let reports = anchored_reports s id (object_at s.objects id) (object_written w) in
    let all = sym (among_append k own reports) ∙ sym (ap (is_among k) (anchor_marked s w is)) ∙ out in
    let none = sym (among_append k (anchor_keys id) (leaving_keys (forest_of s) id.ns)) ∙ out_left (is_among k own) _ all in
    law_by s (state_after s (w ∷ [])) id is (leaves_anchor s w is) (object_written w) (anchor_then s w) k
    (out_left (is_among k (anchor_keys id)) _ none) (out_right (is_among k (anchor_keys id)) _ none) (out_right (is_among k own) _ all) used

-- ---- keys of the two states

-- both of its keys are of the state where it is there, before or then
own_keys : (s : State) (w : Write) → MayWriteAll s (w ∷ []) → is_anchor (id_written w).kind ≡ true → (k : Key) → is_among k (anchor_keys (id_written w)) ≡ true → (is_key s k || is_key (state_after s (w ∷ [])) k) ≡ true
own_keys s (Put x) may is k mem =
    let t = state_after s (Put x ∷ []) in
    let place = is_anchor_place x.id is in
    or_right (is_key s k) (is_key t k) (anchor_key t x.id.ns x.id.name x k (ap (object_at t.objects) (sym place) ∙ found_again x s.objects) (subst (λ (q : Id). is_among k (anchor_keys q) ≡ true) place mem))
own_keys s (Cut id) may is k mem =
    let place = is_anchor_place id is in
    or_left (is_key s k) _ (anchor_key s id.ns id.name may.each.0.there.0 k (ap (object_at s.objects) (sym place) ∙ may.each.0.there.1) (subst (λ (q : Id). is_among k (anchor_keys q) ≡ true) place mem))

-- and only keys of the two states are marked
pub within_anchors : (s : State) (w : Write) → MayWriteAll s (w ∷ []) → is_anchor (id_written w).kind ≡ true → (k : Key) → is_among k (marks_beside s w) ≡ true → may_mark s (w ∷ []) k ≡ true
within_anchors s w may is k mem =
    let id = id_written w in
    let own = anchor_keys id ++ leaving_keys (forest_of s) id.ns in
    let reports = anchored_reports s id (object_at s.objects id) (object_written w) in
    let shows = differ (is_some (object_at s.objects id)) (is_some (object_written w)) && owns_named s id in
    unplain_within s w k (elim (or_cases (is_among k own) (is_among k reports) (sym (among_append k own reports) ∙ sym (ap (is_among k) (anchor_marked s w is)) ∙ mem)) [
      | inr told ↦ or_left (is_key s k) _ (report_key s id.name k (and_parts shows _ (sym (among_cond k shows (report_keys (forest_of s) id.name)) ∙ told)).1)
      | inl first ↦ elim (or_cases (is_among k (anchor_keys id)) (is_among k (leaving_keys (forest_of s) id.ns)) (sym (among_append k (anchor_keys id) (leaving_keys (forest_of s) id.ns)) ∙ first)) [
        | inl one ↦ own_keys s w may is k one
        | inr leaves ↦ or_left (is_key s k) _ (leaving_key s id.ns k leaves)
      ]
    ]) (ap (λ (q : Id). is_plain q.kind) (is_anchor_place id is))
