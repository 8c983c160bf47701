-- A write of the HNCConfiguration that isn't marked for a key leaves what the key wants.
--     config_written              the identity that such a write is of
--     marked_copy, marked_source  the place of a copy is marked where its kind begins or ends to be ignored, and those below a source where it begins or ends to be sent
--     mode_law                    a key that isn't marked wants the same before and after the write
use Rattle.std.proofs.Common.{◌≡◌, ℕ, ◌==◌, Bool, true, false, cond, not, ◌&&◌, ◌||◌, ◌⊎◌, Option, Some, None, List, [], ◌∷◌, ◌++◌, map, filter, refl, sym, ap, ◌∙◌, subst, inl, inr, true≢false, eq-eqb}
use Rattle.std.specs.Str.{bytes_eq}
use Rattle.std.proofs.lemmas.Bool.{and_parts, and_from, or_left, or_right, or_from, cases_Bool, not_from_false, false_from_ne_true}
use Rattle.hx_object.specs.Kinds.{can_be_copied, is_namespace, is_hierarchy, is_in_cluster, number_of}
use Rattle.hx_object.specs.WellKnown.{config}
use Rattle.hx_object.specs.declared.kind.Kind.{Kind}
use Rattle.hx_object.specs.declared.kind.Kind.TheVariants as of
use Rattle.hx_object.specs.declared.object.Id.{Id}
use Rattle.hx_object.specs.declared.object.Mode.{Mode}
use Rattle.hx_object.specs.declared.object.Mode.TheVariants.{Propagate}
use Rattle.hx_object.specs.declared.object.Object.{Object}
use Rattle.hx_model.specs.Answers.{is_listed}
use Rattle.hx_model.specs.Covered.{IsSameFor}
use Rattle.hx_model.specs.First.{so}
use Rattle.hx_model.specs.Forest.{is_in, chain_of, in_chain, tail_of}
use Rattle.hx_model.specs.Keys.{same_key, is_among}
use Rattle.hx_model.specs.Limits.{is_copy}
use Rattle.hx_model.specs.Modes.{config_id, mode_in, mode_of}
use Rattle.hx_model.specs.Moves.{copied_kinds}
use Rattle.hx_model.specs.Propagation.{is_propagated, id_in, top_of, sources_along}
use Rattle.hx_model.specs.State.{State, object_at, same_id, namespace_id, state_after}
use Rattle.hx_model.specs.Tree.{forest_of}
use Rattle.hx_model.specs.TreeLabels.{is_open}
use Rattle.hx_model.specs.Valid.{IsStored, IsValid}
use Rattle.hx_model.specs.Wanted.{without_copy, copied_in}
use Rattle.hx_model.specs.Writes.{id_written, MayWriteAll}
use Rattle.hx_model.specs.declared.key.Key.{Key}
use Rattle.hx_model.specs.declared.key.Key.TheVariants as key
use Rattle.hx_model.specs.declared.key.Write.{Write}
use Rattle.hx_model.specs.declared.key.Write.TheVariants.{Put, Cut}
use Rattle.hx_model.proofs.Climbing.{is_same}
use Rattle.hx_model.proofs.Conflicting.{tail_chain}
use Rattle.hx_model.proofs.Displacing.{KeepsOthers}
use Rattle.hx_model.proofs.Objects.{is_same_id, found_id}
use Rattle.hx_model.proofs.Parents.{is_in_filter}
use Rattle.hx_model.proofs.Storing.{All-found}
use Rattle.hx_marks.specs.Law.{is_ignored, is_sent, key_for, open_below, apart, differ, copy_marks, source_marks, kind_marks, mode_marks, is_config_kind, is_modes, object_written}
use Rattle.hx_marks.proofs.Among.{same_key_itself, among_append, among_flat_map, among_map, among_here, among_cond, any_filter, passing_object, passing_name, passing_kind}
use Rattle.hx_marks.proofs.OpenBelow.{in_open_below, above_apart}
use Rattle.hx_marks.proofs.Frames.{none_in_both, uncopied_wants, nothing_copied, same_tree, same_closed, same_copied, then_above, KeepsLeast, removal_apart}
use Rattle.hx_marks.proofs.Going.{sent_alike, going, top_along, copied_in_none, top_goes}
use Rattle.hx_marks.proofs.Leaving.{Leaves, leaves, namespaces_stay, marks_by_modes, child_stays, anchored_stays, leaving_stay, report_stays}
use Rattle.hx_marks.proofs.Parts.{UsedSame, marks_beside}

-- ---- what is written

config_kind : (kind : Kind) → is_config_kind kind ≡ true → kind ≡ of.HncConfiguration
config_kind of.HncConfiguration is = refl
config_kind _ is = absurd (true≢false (sym is))

modes_kind : (id : Id) → is_modes id ≡ true → id.kind ≡ of.HncConfiguration
modes_kind id is = config_kind id.kind (and_parts (is_config_kind id.kind) _ is).0

config_is : (id : Id) → is_modes id ≡ true → id.ns ≡ [] → id ≡ config_id
config_is id is home =
    let kind = modes_kind id is in
    let name = is_same id.name config (and_parts (is_config_kind id.kind) _ is).1 in
    λ i. record { kind = kind i; ns = home i; name = name i }

-- an HNCConfiguration lies in no namespace
pub config_written : (s : State) (write : Write) → IsValid s → MayWriteAll s (write ∷ []) → is_modes (id_written write) ≡ true → id_written write ≡ config_id
config_written s (Put x) valid may is = config_is x.id is (may.each.0.served.legal.home (ap is_in_cluster (modes_kind x.id is)))
config_written s (Cut id) valid may is =
    let there = may.each.0.there in
    let same = found_id s.objects id there.0 there.1 in
    let stored = All-found (IsStored s.last) id there.0 s.objects valid.stored there.1 in
    config_is id is (ap (λ (q : Id). q.ns) same ∙ stored.served.legal.home (ap (λ (q : Id). is_in_cluster q.kind) (sym same) ∙ ap is_in_cluster (modes_kind id is)))

-- ---- what is marked

same_tests : (a b : Bool) → differ a b ≡ false → a ≡ b
same_tests true true e = refl
same_tests true false e = absurd (true≢false e)
same_tests false true e = absurd (true≢false e)
same_tests false false e = refl

module _ (s : State) (old new : Option Object) where
  -- an object of a kind that can be copied is marked by its kind
  marked_by : (x : Object) (k : Key) → object_at s.objects x.id ≡ Some x → can_be_copied x.id.kind ≡ true
      → (is_among k (copy_marks (forest_of s) (mode_in old x.id.kind) (mode_in new x.id.kind) x) || is_among k (source_marks (forest_of s) (mode_in old x.id.kind) (mode_in new x.id.kind) x)) ≡ true
      → is_among k (mode_marks s old new) ≡ true
  marked_by x k at copied h =
      let a = mode_in old x.id.kind in
      let b = mode_in new x.id.kind in
      among_flat_map k (λ kind. kind_marks s (mode_in old kind) (mode_in new kind) kind) copied_kinds
      ∙ passing_kind (λ kind. is_among k (kind_marks s (mode_in old kind) (mode_in new kind) kind)) x.id.kind copied
      (among_flat_map k (λ y. copy_marks (forest_of s) a b y ++ source_marks (forest_of s) a b y) (filter (is_listed x.id.kind None) s.objects)
      ∙ any_filter (λ y. is_among k (copy_marks (forest_of s) a b y ++ source_marks (forest_of s) a b y)) (is_listed x.id.kind None) s.objects
      ∙ passing_object (λ y. is_listed x.id.kind None y && is_among k (copy_marks (forest_of s) a b y ++ source_marks (forest_of s) a b y)) s.objects x.id x at
      (and_from (is_listed x.id.kind None x) _ (and_from (number_of x.id.kind == number_of x.id.kind) true (eq-eqb (number_of x.id.kind) (number_of x.id.kind) refl) refl)
      (among_append k (copy_marks (forest_of s) a b x) (source_marks (forest_of s) a b x) ∙ h)))

  copy_marked : (x : Object) → object_at s.objects x.id ≡ Some x → can_be_copied x.id.kind ≡ true → differ (is_ignored (mode_in old x.id.kind)) (is_ignored (mode_in new x.id.kind)) ≡ true → is_copy x ≡ true → is_open (forest_of s) x.id.ns ≡ true
      → is_among (key_for x.id.ns x) (mode_marks s old new) ≡ true
  copy_marked x at copied differs is acts =
      let test = differ (is_ignored (mode_in old x.id.kind)) (is_ignored (mode_in new x.id.kind)) && (is_copy x && is_open (forest_of s) x.id.ns) in
      marked_by x (key_for x.id.ns x) at copied (or_left _ _
      (among_cond (key_for x.id.ns x) test (key_for x.id.ns x ∷ []) ∙ and_from test _ (and_from _ _ differs (and_from (is_copy x) _ is acts)) (among_here (key_for x.id.ns x) [])))

  source_marked : (x : Object) (m : List ℕ) → object_at s.objects x.id ≡ Some x → can_be_copied x.id.kind ≡ true → differ (is_sent (mode_in old x.id.kind) x) (is_sent (mode_in new x.id.kind) x) ≡ true
      → is_open (forest_of s) m ≡ true → in_chain (forest_of s) m x.id.ns ≡ true → bytes_eq m x.id.ns ≡ false → is_among (key_for m x) (mode_marks s old new) ≡ true
  source_marked x m at copied differs acts has off =
      let test = differ (is_sent (mode_in old x.id.kind) x) (is_sent (mode_in new x.id.kind) x) in
      let places = apart (open_below (forest_of s) x.id.ns) (x.id.ns ∷ []) in
      let inside : is_in m places ≡ true =
      is_in_filter (λ a. not (is_in a (x.id.ns ∷ []))) m (open_below (forest_of s) x.id.ns)
      ∙ and_from (is_in m (open_below (forest_of s) x.id.ns)) _ (in_open_below (forest_of s) x.id.ns m acts has) (not_from_false (is_in m (x.id.ns ∷ [])) (or_from (bytes_eq m x.id.ns) false off refl)) in
      marked_by x (key_for m x) at copied (or_right _ _
      (among_cond (key_for m x) test (map (λ a. key_for a x) places) ∙ and_from test _ differs
      (among_map (key_for m x) (λ a. key_for a x) places ∙ passing_name (λ a. same_key (key_for m x) (key_for a x)) m places inside (same_key_itself (key_for m x)))))

  -- by the place where the object is found
  pub marked_copy : (n : List ℕ) (kind : Kind) (name : List ℕ) (x : Object) → object_at s.objects (id_in kind name n) ≡ Some x → can_be_copied kind ≡ true → differ (is_ignored (mode_in old kind)) (is_ignored (mode_in new kind)) ≡ true → is_copy x ≡ true → is_open (forest_of s) n ≡ true
      → is_among (key.Copy n kind name) (mode_marks s old new) ≡ true
  marked_copy n kind name x at copied differs is acts =
      let same = found_id s.objects (id_in kind name n) x at in
      ap (λ (q : Id). is_among (key.Copy q.ns q.kind q.name) (mode_marks s old new)) same
      ∙ copy_marked x (ap (object_at s.objects) (sym same) ∙ at) (ap (λ (q : Id). can_be_copied q.kind) (sym same) ∙ copied) (ap (λ (q : Id). differ (is_ignored (mode_in old q.kind)) (is_ignored (mode_in new q.kind))) (sym same) ∙ differs) is (ap (λ (q : Id). is_open (forest_of s) q.ns) (sym same) ∙ acts)

  pub marked_source : (n a : List ℕ) (kind : Kind) (name : List ℕ) (x : Object) → object_at s.objects (id_in kind name a) ≡ Some x → can_be_copied kind ≡ true → differ (is_sent (mode_in old kind) x) (is_sent (mode_in new kind) x) ≡ true
      → is_open (forest_of s) n ≡ true → in_chain (forest_of s) n a ≡ true → bytes_eq n a ≡ false → is_among (key.Copy n kind name) (mode_marks s old new) ≡ true
  marked_source n a kind name x at copied differs acts has off =
      let same = found_id s.objects (id_in kind name a) x at in
      ap (λ (q : Id). is_among (key.Copy n q.kind q.name) (mode_marks s old new)) same
      ∙ source_marked x n (ap (object_at s.objects) (sym same) ∙ at) (ap (λ (q : Id). can_be_copied q.kind) (sym same) ∙ copied) (ap (λ (q : Id). differ (is_sent (mode_in old q.kind) x) (is_sent (mode_in new q.kind) x)) (sym same) ∙ differs) acts
      (ap (λ (q : Id). in_chain (forest_of s) n q.ns) (sym same) ∙ has) (ap (λ (q : Id). bytes_eq n q.ns) (sym same) ∙ off)

-- ---- the law

propagated : (mode : Mode) → is_propagated mode ≡ true → mode ≡ Propagate
propagated Propagate is = refl
propagated _ is = absurd (true≢false (sym is))

-- where the same source wins in two modes, the same is wanted in both, but for a copy that goes in one of them
modes_alike : (a b : Mode) (labels : List (List ℕ × List ℕ)) (before after : List Object) (n : List ℕ) (place : Option Object) → top_of a labels before ≡ top_of b labels after → (is_ignored a ≡ is_ignored b) ⊎ (without_copy place ≡ None)
    → copied_in a (top_of a labels before) n place ≡ copied_in b (top_of b labels after) n place
modes_alike a b labels before after n place same alike = by (top_of a labels before) refl
  where
    left_alone : (is_ignored a ≡ is_ignored b) ⊎ (without_copy place ≡ None) → cond (is_ignored a) None (without_copy place) ≡ cond (is_ignored b) None (without_copy place)
    left_alone (inl e) = ap (λ c. cond c None (without_copy place)) e
    left_alone (inr none) = ap (cond (is_ignored a) None) none ∙ nothing (is_ignored a) ∙ sym (nothing (is_ignored b)) ∙ sym (ap (cond (is_ignored b) None) none)
      where
        nothing : (c : Bool) → cond {A = Option Write} c None None ≡ None
        nothing true = refl
        nothing false = refl

    mode_of_top : (mode : Mode) (sources : List Object) (x : Object) → top_of mode labels sources ≡ Some x → mode ≡ Propagate
    mode_of_top mode sources x e = propagated mode (and_parts (is_propagated mode) _ (top_goes mode labels sources x e)).0

    by : (o : Option Object) → top_of a labels before ≡ o → copied_in a (top_of a labels before) n place ≡ copied_in b (top_of b labels after) n place
    by None e =
        ap (λ o. copied_in a o n place) e
        ∙ copied_in_none a n place
        ∙ left_alone alike
        ∙ sym (copied_in_none b n place)
        ∙ ap (λ o. copied_in b o n place) (sym e ∙ same)
    by (Some x) e = λ i. copied_in ((mode_of_top a before x e ∙ sym (mode_of_top b after x (sym same ∙ e))) i) (same i) n place

module _ (s t : State) (left : Leaves s t config_id (object_at t.objects config_id)) where
  found : (m : List ℕ) → object_at t.objects (namespace_id m) ≡ object_at s.objects (namespace_id m)
  found = namespaces_stay s t config_id left.others refl

  abbrev config_marks : List Key
  config_marks = mode_marks s (object_at s.objects config_id) (object_at t.objects config_id)

  copies_stay : (kind : Kind) (name n : List ℕ) → can_be_copied kind ≡ true → object_at t.objects (id_in kind name n) ≡ object_at s.objects (id_in kind name n)
  copies_stay kind name n copied = left.others (id_in kind name n) (false_from_ne_true (same_id (id_in kind name n) config_id) (λ h. true≢false (sym copied ∙ ap (λ (q : Id). can_be_copied q.kind) (is_same_id (id_in kind name n) config_id h))))

  module _ (n : List ℕ) (kind : Kind) (name : List ℕ) (out : is_among (key.Copy n kind name) config_marks ≡ false) (copied : can_be_copied kind ≡ true) (acts : is_open (forest_of s) n ≡ true) where
    -- the same goes from each later member of the chain
    goes_alike : (labels : List (List ℕ × List ℕ)) (a : List ℕ) → is_in a (tail_of (chain_of (forest_of s) n)) ≡ true → going (mode_of s kind) labels (object_at s.objects (id_in kind name a)) ≡ going (mode_of t kind) labels (object_at t.objects (id_in kind name a))
    goes_alike labels a mem = by (object_at s.objects (id_in kind name a)) refl ∙ ap (going (mode_of t kind) labels) (sym (copies_stay kind name a copied))
      where
        by : (o : Option Object) → object_at s.objects (id_in kind name a) ≡ o → going (mode_of s kind) labels (object_at s.objects (id_in kind name a)) ≡ going (mode_of t kind) labels (object_at s.objects (id_in kind name a))
        by None e = ap (going (mode_of s kind) labels) e ∙ ap (going (mode_of t kind) labels) (sym e)
        by (Some x) e =
            let alike : is_sent (mode_of s kind) x ≡ is_sent (mode_of t kind) x = same_tests _ _ (false_from_ne_true _ (λ differs.
            true≢false (sym (marked_source s (object_at s.objects config_id) (object_at t.objects config_id) n a kind name x e copied differs acts (tail_chain (forest_of s) n a mem) (above_apart (forest_of s) n a mem)) ∙ out))) in
            ap (going (mode_of s kind) labels) e ∙ ap (λ b. so b x) (sent_alike (mode_of s kind) (mode_of t kind) x labels alike) ∙ ap (going (mode_of t kind) labels) (sym e)

    place_alike : (o : Option Object) → object_at s.objects (id_in kind name n) ≡ o → (is_ignored (mode_of s kind) ≡ is_ignored (mode_of t kind)) ⊎ (without_copy o ≡ None)
    place_alike None e = inr refl
    place_alike (Some x) e = elim (cases_Bool (differ (is_ignored (mode_of s kind)) (is_ignored (mode_of t kind)))) [
      | inr same ↦ inl (same_tests _ _ same)
      | inl differs ↦ inr (nothing_copied x (false_from_ne_true (is_copy x) (λ is.
          true≢false (sym (marked_copy s (object_at s.objects config_id) (object_at t.objects config_id) n kind name x e copied differs is acts) ∙ out))))
    ]

    wants_alike : IsSameFor s t (key.Copy n kind name)
    wants_alike = same_copied s t left.tree found n kind name (copies_stay kind name n copied) (λ labels.
        modes_alike (mode_of s kind) (mode_of t kind) labels (sources_along s.objects kind name (tail_of (chain_of (forest_of s) n))) (then_above s t left.tree found n kind name) n (object_at s.objects (id_in kind name n))
        (top_along (mode_of s kind) (mode_of t kind) labels s.objects t.objects kind name (tail_of (chain_of (forest_of s) n)) (goes_alike labels))
        (place_alike (object_at s.objects (id_in kind name n)) refl))

  copy_law : (n : List ℕ) (kind : Kind) (name : List ℕ) → is_among (key.Copy n kind name) config_marks ≡ false → IsSameFor s t (key.Copy n kind name)
  copy_law n kind name out = elim (cases_Bool (is_open (forest_of s) n)) [
    | inr closed ↦ same_closed s t left.tree found n kind name closed
    | inl acts ↦ elim (cases_Bool (can_be_copied kind)) [
      | inr uncopied ↦ none_in_both s t (key.Copy n kind name) (uncopied_wants s n kind name uncopied) (uncopied_wants t n kind name uncopied)
      | inl copied ↦ wants_alike n kind name out copied acts
    ]
  ]

  key_law : (k : Key) → is_among k config_marks ≡ false → UsedSame s t k → IsSameFor s t k
  key_law (key.Copy n kind name) out used = copy_law n kind name out
  key_law (key.Tree n) out used = same_tree s t left.tree found n
  key_law (key.Report n) out used = report_stays s t config_id (object_at t.objects config_id) left refl refl refl n
  key_law (key.Child n m) out used = child_stays s t config_id (object_at t.objects config_id) left refl refl n m
  key_law (key.Anchor n m) out used = anchored_stays s t config_id (object_at t.objects config_id) left refl refl n m
  key_law (key.Used n name) out used = used n name refl
  key_law (key.Purge n) out used = removal_apart s t config_id refl left.others left.least (leaving_stay s t config_id (object_at t.objects config_id) left) n refl

-- a key that isn't marked wants the same before and after the write
pub mode_law : (s : State) (write : Write) → IsValid s → MayWriteAll s (write ∷ []) → is_namespace (id_written write).kind ≡ false → is_hierarchy (id_written write).kind ≡ false → is_modes (id_written write) ≡ true
    → (k : Key) → is_among k (marks_beside s write) ≡ false → UsedSame s (state_after s (write ∷ [])) k → IsSameFor s (state_after s (write ∷ [])) k
mode_law s write valid may namespace hierarchical modes k out used =
    let left = leaves s write namespace hierarchical in
    let same = config_written s write valid may modes in
    let here : object_at (state_after s (write ∷ [])).objects config_id ≡ object_written write = ap (object_at (state_after s (write ∷ [])).objects) (sym same) ∙ left.here in
    key_law s (state_after s (write ∷ []))
    (record {
      tree = left.tree;
      others = subst (λ (q : Id). KeepsOthers q s.objects (state_after s (write ∷ [])).objects) same left.others;
      least = subst (λ (q : Id). KeepsLeast q s.objects (state_after s (write ∷ [])).objects) same left.least;
      here = refl;
      config = left.config;
    })
    k
    ((λ i. is_among k (mode_marks s (object_at s.objects (sym same i)) (here i))) ∙ ap (is_among k) (sym (marks_by_modes s write namespace hierarchical modes)) ∙ out)
    used
