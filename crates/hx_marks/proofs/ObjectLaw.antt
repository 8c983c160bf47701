-- A write of an object that isn't marked for a key leaves what the key wants.
--     marked_below, marked_place      a namespace below the object's that takes part is marked where it is sent, and its own always is
--     marks_by_object                 what such a write marks
--     object_law                      a key that isn't marked wants the same before and after the write
--     copied_key                      the copies of what is written or removed have a key before or after it
--     object_within, leaving_within   its copies in its subtree, and the removal of its namespace, are keys that it may make wait
--     within_objects                  a key that is marked is one that the write may make wait
use Rattle.std.proofs.Common.{◌≡◌, ℕ, ◌==◌, Bool, true, false, cond, not, ◌&&◌, ◌||◌, Option, Some, None, List, [], ◌∷◌, refl, sym, ap, ◌∙◌, inl, inr, true≢false, eq-eqb, ◌++◌}
use Rattle.std.specs.Option.{option_map_or}
use Rattle.std.specs.Str.{bytes_eq}
use Rattle.std.proofs.lemmas.List.{append-nil}
use Rattle.std.proofs.lemmas.Bool.{and_parts, and_from, or_parts, cases_Bool, not_from_false, false_from_ne_true, or_cases, or_left, or_right}
use Rattle.hx_object.specs.Kinds.{can_be_copied, is_namespace, is_hierarchy, number_of, is_anchor}
use Rattle.hx_object.specs.declared.kind.Kind.{Kind}
use Rattle.hx_object.specs.declared.object.Id.{Id}
use Rattle.hx_object.specs.declared.object.Mode.{Mode}
use Rattle.hx_object.specs.declared.object.Object.{Object}
use Rattle.hx_model.specs.Cases.{is_leaving}
use Rattle.hx_model.specs.Covered.{IsSameFor}
use Rattle.hx_model.specs.First.{so}
use Rattle.hx_model.specs.Forest.{is_in, is_there, chain_of, in_chain, tail_of}
use Rattle.hx_model.specs.Keys.{same_key, is_among, is_key, is_key_of_either, touches, may_mark}
use Rattle.hx_model.specs.Modes.{config_id, mode_in, mode_of}
use Rattle.hx_model.specs.Moves.{mode_at}
use Rattle.hx_model.specs.Propagation.{id_in}
use Rattle.hx_model.specs.State.{State, object_at, same_id, namespace_id, state_after}
use Rattle.hx_model.specs.Tree.{forest_of}
use Rattle.hx_model.specs.TreeLabels.{is_open}
use Rattle.hx_model.specs.Valid.{IsValid}
use Rattle.hx_model.specs.Wanted.{copied_in}
use Rattle.hx_model.specs.Writes.{id_written, MayWrite, MayWriteAll}
use Rattle.hx_model.specs.declared.key.Key.{Key}
use Rattle.hx_model.specs.declared.key.Key.TheVariants as key
use Rattle.hx_model.specs.declared.key.Write.{Write}
use Rattle.hx_model.specs.declared.key.Write.TheVariants.{Put, Cut}
use Rattle.hx_model.proofs.Climbing.{same_itself}
use Rattle.hx_model.proofs.Conflicting.{tail_chain}
use Rattle.hx_model.proofs.Objects.{is_same_id, found_id}
use Rattle.hx_marks.specs.Law.{is_ignored, is_sent, key_for, open_below, is_any_sent, place_marks, object_marks, is_modes, object_written, anchor_marks, leaving_keys}
use Rattle.hx_marks.proofs.Among.{same_key_is, same_key_itself, among_map, among_here, among_cond, passing_name, found_name, among_append, out_left, out_right}
use Rattle.hx_marks.proofs.OpenBelow.{open_is_there, in_own_chain, in_open_below, open_below_has}
use Rattle.hx_marks.proofs.Frames.{none_in_both, ignored_wants, uncopied_wants, same_tree, same_closed, same_copied, removal_beside}
use Rattle.hx_marks.proofs.Going.{unsent_stays, going, top_along}
use Rattle.hx_marks.specs.Reports.{anchored_reports}
use Rattle.hx_marks.proofs.Leaving.{Leaves, leaves, namespaces_stay, marks_by_kept, child_stays, anchored_stays, leaving_stay, report_stays}
use Rattle.hx_marks.proofs.Parts.{UsedSame, marks_beside}
use Rattle.hx_marks.proofs.Within.{copy_key, leaving_key, touched_within}

-- ---- what is marked

-- of a kind that is copied and not ignored
abbrev pub HasMarks : State → Kind → Type 0
HasMarks s kind = (can_be_copied kind ≡ true) × (is_ignored (mode_at s.objects kind) ≡ false)

object_marked : (s : State) (id : Id) (old new : Option Object) (k : Key) → HasMarks s id.kind → is_among k (place_marks (forest_of s) (is_any_sent (mode_at s.objects id.kind) old new) id) ≡ true → is_among k (object_marks s id old new) ≡ true
object_marked s id old new k has h =
    let acts = can_be_copied id.kind && not (is_ignored (mode_at s.objects id.kind)) in
    among_cond k acts (place_marks (forest_of s) (is_any_sent (mode_at s.objects id.kind) old new) id)
    ∙ and_from acts _ (and_from (can_be_copied id.kind) _ has.0 (not_from_false _ has.1)) h

-- below an object that is sent, before or after the write
pub marked_below : (s : State) (n a : List ℕ) (kind : Kind) (name : List ℕ) (old new : Option Object) → HasMarks s kind → is_open (forest_of s) n ≡ true → in_chain (forest_of s) n a ≡ true → is_any_sent (mode_at s.objects kind) old new ≡ true
    → is_among (key.Copy n kind name) (object_marks s (id_in kind name a) old new) ≡ true
marked_below s n a kind name old new has acts above sent =
    object_marked s (id_in kind name a) old new (key.Copy n kind name) has
    (ap (λ b. is_among (key.Copy n kind name) (place_marks (forest_of s) b (id_in kind name a))) sent
    ∙ among_map (key.Copy n kind name) (λ m. key.Copy m kind name) (open_below (forest_of s) a)
    ∙ passing_name (λ m. same_key (key.Copy n kind name) (key.Copy m kind name)) n (open_below (forest_of s) a) (in_open_below (forest_of s) a n acts above) (same_key_itself (key.Copy n kind name)))

-- the place itself
pub marked_place : (s : State) (n : List ℕ) (kind : Kind) (name : List ℕ) (old new : Option Object) → HasMarks s kind → is_open (forest_of s) n ≡ true → is_among (key.Copy n kind name) (object_marks s (id_in kind name n) old new) ≡ true
marked_place s n kind name old new has acts = elim (cases_Bool (is_any_sent (mode_at s.objects kind) old new)) [
  | inl sent ↦ marked_below s n n kind name old new has acts (in_own_chain (forest_of s) n (open_is_there (forest_of s) n acts)) sent
  | inr out ↦ object_marked s (id_in kind name n) old new (key.Copy n kind name) has
      (ap (λ b. is_among (key.Copy n kind name) (place_marks (forest_of s) b (id_in kind name n))) out
      ∙ ap (λ b. is_among (key.Copy n kind name) (cond b (key.Copy n kind name ∷ []) [])) acts
      ∙ among_here (key.Copy n kind name) [])
]

-- what isn't sent goes nowhere
unsent_going : (mode : Mode) (labels : List (List ℕ × List ℕ)) (found : Option Object) → option_map_or (is_sent mode) found false ≡ false → going mode labels found ≡ None
unsent_going mode labels None out = refl
unsent_going mode labels (Some x) out = ap (λ b. so b x) (unsent_stays mode x labels out)

-- ---- the law

module _ (s t : State) (id : Id) (new : Option Object) (left : Leaves s t id new) (namespace : is_namespace id.kind ≡ false) (hierarchical : is_hierarchy id.kind ≡ false) (modes : is_modes id ≡ false) (other : is_anchor id.kind ≡ false) where
  found : (m : List ℕ) → object_at t.objects (namespace_id m) ≡ object_at s.objects (namespace_id m)
  found = namespaces_stay s t id left.others namespace

  mode_stays : (kind : Kind) → mode_of t kind ≡ mode_of s kind
  mode_stays kind = ap (λ o. mode_in o kind) (left.others config_id (false_from_ne_true (same_id config_id id) (λ h. true≢false (ap is_modes (is_same_id config_id id h) ∙ modes))))

  module _ (n : List ℕ) (kind : Kind) (name : List ℕ) (out : is_among (key.Copy n kind name) (object_marks s id (object_at s.objects id) new) ≡ false) (has : HasMarks s kind) (acts : is_open (forest_of s) n ≡ true) where
    unmarked : (a : List ℕ) → id_in kind name a ≡ id → is_among (key.Copy n kind name) (object_marks s (id_in kind name a) (object_at s.objects id) new) ≡ false
    unmarked a is = ap (λ (q : Id). is_among (key.Copy n kind name) (object_marks s q (object_at s.objects id) new)) is ∙ out

    place_stays : object_at t.objects (id_in kind name n) ≡ object_at s.objects (id_in kind name n)
    place_stays = left.others (id_in kind name n) (false_from_ne_true (same_id (id_in kind name n) id) (λ h.
        true≢false (sym (marked_place s n kind name (object_at s.objects id) new has acts) ∙ unmarked n (is_same_id (id_in kind name n) id h))))

    -- the same goes from each later member of the chain
    goes_alike : (labels : List (List ℕ × List ℕ)) (a : List ℕ) → is_in a (tail_of (chain_of (forest_of s) n)) ≡ true → going (mode_of s kind) labels (object_at s.objects (id_in kind name a)) ≡ going (mode_of t kind) labels (object_at t.objects (id_in kind name a))
    goes_alike labels a mem = elim (cases_Bool (same_id (id_in kind name a) id)) [
      | inr apart ↦ λ i. going (sym (mode_stays kind) i) labels (sym (left.others (id_in kind name a) apart) i)
      | inl h ↦
          let is = is_same_id (id_in kind name a) id h in
          let unsent : is_any_sent (mode_of s kind) (object_at s.objects id) new ≡ false = false_from_ne_true _ (λ sent.
          true≢false (sym (marked_below s n a kind name (object_at s.objects id) new has acts (tail_chain (forest_of s) n a mem) sent) ∙ unmarked a is)) in
          let parts = or_parts (option_map_or (is_sent (mode_of s kind)) (object_at s.objects id) false) (option_map_or (is_sent (mode_of s kind)) new false) unsent in
          ap (λ (q : Id). going (mode_of s kind) labels (object_at s.objects q)) is
          ∙ unsent_going (mode_of s kind) labels (object_at s.objects id) parts.0
          ∙ sym (unsent_going (mode_of s kind) labels new parts.1)
          ∙ (λ i. going (sym (mode_stays kind) i) labels (sym left.here i))
          ∙ ap (λ (q : Id). going (mode_of t kind) labels (object_at t.objects q)) (sym is)
    ]

    wants_alike : IsSameFor s t (key.Copy n kind name)
    wants_alike = same_copied s t left.tree found n kind name place_stays (λ labels.
        (λ i. copied_in (sym (mode_stays kind) i) (top_along (mode_of s kind) (mode_of t kind) labels s.objects t.objects kind name (tail_of (chain_of (forest_of s) n)) (goes_alike labels) i) n (object_at s.objects (id_in kind name n))))

  copy_law : (n : List ℕ) (kind : Kind) (name : List ℕ) → is_among (key.Copy n kind name) (object_marks s id (object_at s.objects id) new) ≡ false → IsSameFor s t (key.Copy n kind name)
  copy_law n kind name out = elim (cases_Bool (is_open (forest_of s) n)) [
    | inr closed ↦ same_closed s t left.tree found n kind name closed
    | inl acts ↦ elim (cases_Bool (can_be_copied kind)) [
      | inr uncopied ↦ none_in_both s t (key.Copy n kind name) (uncopied_wants s n kind name uncopied) (uncopied_wants t n kind name uncopied)
      | inl copied ↦ elim (cases_Bool (is_ignored (mode_of s kind))) [
        | inl ignored ↦ none_in_both s t (key.Copy n kind name) (ignored_wants s n kind name ignored) (ignored_wants t n kind name (ap is_ignored (mode_stays kind) ∙ ignored))
        | inr counts ↦ wants_alike n kind name out (copied, counts) acts
      ]
    ]
  ]

  key_law : (k : Key) → is_among k (object_marks s id (object_at s.objects id) new) ≡ false → is_among k (leaving_keys (forest_of s) id.ns) ≡ false → UsedSame s t k → IsSameFor s t k
  key_law (key.Copy n kind name) out stays used = copy_law n kind name out
  key_law (key.Tree n) out stays used = same_tree s t left.tree found n
  key_law (key.Report n) out stays used = report_stays s t id new left namespace hierarchical other n
  key_law (key.Child n m) out stays used = child_stays s t id new left namespace other n m
  key_law (key.Anchor n m) out stays used = anchored_stays s t id new left namespace other n m
  key_law (key.Used n name) out stays used = used n name refl
  key_law (key.Purge n) out stays used = removal_beside s t id namespace left.others left.least (leaving_stay s t id new left) n stays

pub marks_by_object : (s : State) (write : Write) → is_namespace (id_written write).kind ≡ false → is_hierarchy (id_written write).kind ≡ false → is_modes (id_written write) ≡ false → is_anchor (id_written write).kind ≡ false
    → marks_beside s write ≡ object_marks s (id_written write) (object_at s.objects (id_written write)) (object_written write) ++ leaving_keys (forest_of s) (id_written write).ns
marks_by_object s write namespace hierarchical modes other =
    let marks = object_marks s (id_written write) (object_at s.objects (id_written write)) (object_written write) in
    let leaving = leaving_keys (forest_of s) (id_written write).ns in
    let reports = anchored_reports s (id_written write) (object_at s.objects (id_written write)) (object_written write) in
    marks_by_kept s write namespace hierarchical modes ∙ ap (λ b. (cond b (anchor_marks (id_written write)) marks ++ leaving) ++ cond b reports []) other ∙ append-nil (marks ++ leaving)

-- a key that isn't marked wants the same before and after the write
pub object_law : (s : State) (write : Write) → IsValid s → MayWriteAll s (write ∷ []) → is_namespace (id_written write).kind ≡ false → is_hierarchy (id_written write).kind ≡ false → is_modes (id_written write) ≡ false → is_anchor (id_written write).kind ≡ false
    → (k : Key) → is_among k (marks_beside s write) ≡ false → UsedSame s (state_after s (write ∷ [])) k → IsSameFor s (state_after s (write ∷ [])) k
object_law s write valid may namespace hierarchical modes other k out used =
    let marks = object_marks s (id_written write) (object_at s.objects (id_written write)) (object_written write) in
    let keys = leaving_keys (forest_of s) (id_written write).ns in
    let none : (is_among k marks || is_among k keys) ≡ false = sym (among_append k marks keys) ∙ ap (is_among k) (sym (marks_by_object s write namespace hierarchical modes other)) ∙ out in
    key_law s (state_after s (write ∷ [])) (id_written write) (object_written write) (leaves s write namespace hierarchical) namespace hierarchical modes other k
    (out_left (is_among k marks) (is_among k keys) none) (out_right (is_among k marks) (is_among k keys) none) used

-- ---- and nothing else is marked

-- the copies of what is written or removed have a key before or after it, in a namespace that is there
copied_key : (s : State) (write : Write) → MayWrite s write → Leaves s (state_after s (write ∷ [])) (id_written write) (object_written write) → can_be_copied (id_written write).kind ≡ true → (m : List ℕ) → is_there (forest_of s) m ≡ true
    → is_key_of_either s (state_after s (write ∷ [])) (key.Copy m (id_written write).kind (id_written write).name) ≡ true
copied_key s (Put x) may left copied m there =
    let t = state_after s (Put x ∷ []) in
    or_right (is_key s (key_for m x)) (is_key t (key_for m x)) (copy_key t x m left.here copied (ap (λ f. is_there f m) left.tree ∙ there))
copied_key s (Cut id) may left copied m there =
    let old = may.there.0 in
    let is : id ≡ old.id = found_id s.objects id old may.there.1 in
    let here = copy_key s old m (ap (object_at s.objects) (sym is) ∙ may.there.1) (ap (λ (q : Id). can_be_copied q.kind) (sym is) ∙ copied) there in
    or_left (is_key s (key.Copy m id.kind id.name)) _ (ap (λ (q : Id). is_key s (key.Copy m q.kind q.name)) is ∙ here)

module _ (s : State) (write : Write) (may : MayWrite s write) (left : Leaves s (state_after s (write ∷ [])) (id_written write) (object_written write)) (k : Key) where
  abbrev place : Id
  place = id_written write

  -- a copy in its subtree
  copy_within : can_be_copied place.kind ≡ true → (m : List ℕ) → is_open (forest_of s) m ≡ true → in_chain (forest_of s) m place.ns ≡ true → same_key k (key.Copy m place.kind place.name) ≡ true → may_mark s (write ∷ []) k ≡ true
  copy_within copied m acts above same =
      let is = same_key_is k (key.Copy m place.kind place.name) same in
      touched_within s write k (ap (is_key_of_either s (state_after s (write ∷ []))) is ∙ copied_key s write may left copied m (open_is_there (forest_of s) m acts))
      (ap (touches s place) is
      ∙ and_from (number_of place.kind == number_of place.kind) _ (eq-eqb (number_of place.kind) (number_of place.kind) refl) (and_from (bytes_eq place.name place.name) (in_chain (forest_of s) m place.ns) (same_itself place.name) above))

  place_within : can_be_copied place.kind ≡ true → (sent : Bool) → is_among k (place_marks (forest_of s) sent place) ≡ true → may_mark s (write ∷ []) k ≡ true
  place_within copied true h =
      let at = found_name (λ m. same_key k (key.Copy m place.kind place.name)) (open_below (forest_of s) place.ns) (sym (among_map k (λ m. key.Copy m place.kind place.name) (open_below (forest_of s) place.ns)) ∙ h) in
      let below = open_below_has (forest_of s) place.ns at.0 at.1 in
      copy_within copied at.0 below.0 below.1 at.2
  place_within copied false h =
      let own = key.Copy place.ns place.kind place.name in
      let parts = and_parts (is_open (forest_of s) place.ns) (is_among k (own ∷ [])) (sym (among_cond k (is_open (forest_of s) place.ns) (own ∷ [])) ∙ h) in
      copy_within copied place.ns parts.0 (in_own_chain (forest_of s) place.ns (open_is_there (forest_of s) place.ns parts.0)) (only (same_key k own) parts.1)
    where
      only : (b : Bool) → (b || false) ≡ true → b ≡ true
      only true e = refl
      only false e = absurd (true≢false (sym e))

  object_within : (old : Option Object) → is_among k (object_marks s place old (object_written write)) ≡ true → may_mark s (write ∷ []) k ≡ true
  object_within old h =
      let acts = can_be_copied place.kind && not (is_ignored (mode_at s.objects place.kind)) in
      let sent = is_any_sent (mode_at s.objects place.kind) old (object_written write) in
      let parts = and_parts acts (is_among k (place_marks (forest_of s) sent place)) (sym (among_cond k acts (place_marks (forest_of s) sent place)) ∙ h) in
      place_within (and_parts (can_be_copied place.kind) _ parts.0).0 sent parts.1

-- the removal of the namespace that an object lies in, where it is on its way out
leaving_within : (s : State) (write : Write) (k : Key) → is_among k (leaving_keys (forest_of s) (id_written write).ns) ≡ true → may_mark s (write ∷ []) k ≡ true
leaving_within s write k h =
    let home = (id_written write).ns in
    touched_within s write k (or_left (is_key s k) _ (leaving_key s home k h))
    (elim (or_cases (same_key k (key.Purge home)) false (and_parts (is_leaving (forest_of s) home) _ (sym (among_cond k (is_leaving (forest_of s) home) (key.Purge home ∷ [])) ∙ h)).1) [
      | inl same ↦ ap (touches s (id_written write)) (same_key_is k (key.Purge home) same) ∙ same_itself home
      | inr never ↦ absurd (true≢false (sym never))
    ])

-- a key that is marked is one that the write may make wait
pub within_objects : (s : State) (write : Write) → IsValid s → MayWriteAll s (write ∷ []) → is_namespace (id_written write).kind ≡ false → is_hierarchy (id_written write).kind ≡ false → is_modes (id_written write) ≡ false → is_anchor (id_written write).kind ≡ false
    → (k : Key) → is_among k (marks_beside s write) ≡ true → may_mark s (write ∷ []) k ≡ true
within_objects s write valid may namespace hierarchical modes other k h =
    let id = id_written write in
    let marks = object_marks s id (object_at s.objects id) (object_written write) in
    let keys = leaving_keys (forest_of s) id.ns in
    elim (or_cases (is_among k marks) (is_among k keys) (sym (among_append k marks keys) ∙ ap (is_among k) (sym (marks_by_object s write namespace hierarchical modes other)) ∙ h)) [
      | inl object ↦ object_within s write may.each.0 (leaves s write namespace hierarchical) k (object_at s.objects id) object
      | inr leaving ↦ leaving_within s write k leaving
    ]
