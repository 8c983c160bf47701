-- The law of marks, for each write and for the writes of a commit, and what comes of it for queues.
--     law, law_of_commit         a key that isn't marked wants the same before and after
--     within, within_commit      only keys that the commit may make wait are marked
--     all_one                    the marks of one write are those of the list of it
--     stays_covered              where each marked key waits or was marked again, no work is forgotten
--     stays_covered_but          the same where one key isn't marked, which wants nothing afterwards
use Rattle.std.proofs.Common.{◌≡◌, ℕ, Bool, true, false, not, Option, Some, None, ◌&&◌, ◌||◌, List, [], ◌∷◌, ◌++◌, ◌⊎◌, inl, inr, sym, refl, ap, ◌∙◌, subst}
use Rattle.std.specs.Prelude.{if◌then◌else◌}
use Rattle.std.specs.Option.{option_map_or}
use Rattle.std.specs.Str.{bytes_eq}
use Rattle.std.proofs.lemmas.Bool.{and_parts, cases_Bool, or_cases, or_left}
use Rattle.std.proofs.lemmas.List.{append-nil}
use Rattle.hx_object.specs.Kinds.{is_anchor, is_namespace, is_hierarchy, is_plain}
use Rattle.hx_object.specs.declared.object.Object.{Object}
use Rattle.hx_object.proofs.KindTests.{hierarchy_kind, namespace_kind}
use Rattle.hx_model.specs.Covered.{IsCovered, IsSameFor}
use Rattle.hx_model.specs.Forest.{is_in, parent_of}
use Rattle.hx_model.specs.Hands.{Hand}
use Rattle.hx_model.specs.Keys.{same_key, is_among, is_key, may_mark}
use Rattle.hx_model.specs.State.{State, object_at, state_after}
use Rattle.hx_model.specs.Tree.{forest_of, is_terminating}
use Rattle.hx_model.specs.Valid.{IsValid}
use Rattle.hx_model.specs.Wanted.{wanted_write}
use Rattle.hx_model.specs.Writes.{HasPlace, MayWriteAll, id_written}
use Rattle.hx_model.specs.declared.key.Key.{Key}
use Rattle.hx_model.specs.declared.key.Key.TheVariants as key
use Rattle.hx_model.specs.declared.key.Write.{Write}
use Rattle.hx_model.specs.declared.key.Write.TheVariants.{Put, Cut}
use Rattle.hx_marks.specs.Halves.{Covers, IsRegular}
use Rattle.hx_marks.specs.Law.{begins_to_end, begins_by, is_modes, marks_of, object_written, ending_names, following_marks, marks_among, all_marks}
use Rattle.hx_marks.specs.Usage.{usage_marks}
use Rattle.hx_marks.proofs.Among.{same_key_is}
use Rattle.hx_marks.proofs.AnchorLaw.{anchor_law, within_anchors}
use Rattle.hx_marks.proofs.CreatedLaw.{created_law, within_created, cut_there}
use Rattle.hx_marks.proofs.EndingLaw.{ending_law, within_ending, leaving_law, within_leaving}
use Rattle.hx_marks.proofs.EndingWrites.{LeavesNow}
use Rattle.hx_marks.proofs.Labelling.{label_law, within_labels}
use Rattle.hx_marks.proofs.ModeKeys.{within_modes}
use Rattle.hx_marks.proofs.ModeLaw.{mode_law}
use Rattle.hx_marks.proofs.MoveLaw.{move_law}
use Rattle.hx_marks.proofs.MoveWithin.{within_moves}
use Rattle.hx_marks.proofs.ObjectLaw.{object_law, within_objects}
use Rattle.hx_marks.proofs.Parts.{UsedSame, among_parts, beside_out, hierarchy_usage_key, marks_beside, namespace_usage_key, usage_by, usage_out, used_same_for}
use Rattle.hx_marks.proofs.RemovedLaw.{removed_law, within_removed}
use Rattle.hx_marks.proofs.StayingCovered.{HaveTheirGuards, covered_next}
use Rattle.hx_marks.proofs.UsageCreated.{usage_of_created}
use Rattle.hx_marks.proofs.UsageMoved.{usage_of_moved}
use Rattle.hx_marks.proofs.UsageObjects.{usage_of_object, usage_within_object}
use Rattle.hx_marks.proofs.UsageRemoved.{usage_of_removed}
use Rattle.hx_marks.proofs.Within.{unplain_within}

-- the marks of one write
pub all_one : (s : State) (write : Write) → all_marks s (write ∷ []) ≡ marks_of s write
all_one s (Cut id) = append-nil (marks_of s (Cut id))
all_one s (Put x) =
    append-nil (marks_among s (ending_names (Put x ∷ [])) (Put x))
    ∙ ap (λ b. if b then following_marks s x.id.name else marks_of s (Put x)) (never (begins_by (object_at s.objects x.id) (Some x)) (is_namespace x.id.kind) (alone x.id.name (is_namespace x.id.kind && is_terminating x.payload) (parent_of (forest_of s) x.id.name)))
  where
    never : (a b : Bool) {c : Bool} → c ≡ false → (a && (b && c)) ≡ false
    never false b out = refl
    never true false out = refl
    never true true out = out

    other : (same : Bool) → (not same && (same || false)) ≡ false
    other true = refl
    other false = refl

    none : (b : Bool) → (b && false) ≡ false
    none true = refl
    none false = refl

    -- a namespace that is the only one follows none
    alone : (n : List ℕ) (b : Bool) (next : Option (List ℕ)) → option_map_or (λ p. not (bytes_eq p n) && is_in p ((if b then n ∷ [] else []) ++ [])) next false ≡ false
    alone n b None = refl
    alone n true (Some p) = other (bytes_eq p n)
    alone n false (Some p) = none (not (bytes_eq p n))

-- ---- a namespace

-- one that is there begins to leave
begins : (s : State) (x old : Object) → is_namespace x.id.kind ≡ true → object_at s.objects x.id ≡ Some old → MayWriteAll s (Put x ∷ []) → begins_to_end old x ≡ true → LeavesNow s x
begins s x old is there may ends =
    let parts = and_parts (is_terminating x.payload) _ ends in
    record {
      kind = is;
      old = old;
      there = there;
      stood = stood (is_terminating old.payload) parts.1;
      leaves = parts.0;
      annotation = (subst (λ (o : Option Object). HasPlace o x) there (may.each.0.place is)).annotation;
    }
  where
    stood : (b : Bool) → not b ≡ true → b ≡ false
    stood true e = sym e
    stood false e = refl

namespace_law : (s : State) (write : Write) → IsValid s → MayWriteAll s (write ∷ []) → is_namespace (id_written write).kind ≡ true → (found : Option Object) → object_at s.objects (id_written write) ≡ found
    → (k : Key) → is_among k (marks_of s write) ≡ false → IsSameFor s (state_after s (write ∷ [])) k
namespace_law s (Cut id) valid may is None absent k out = absurd (cut_there s id may absent)
namespace_law s (Put x) valid may is None absent k out =
    created_law s x valid may is absent k (beside_out s (Put x) k out)
    (used_same_for s (state_after s (Put x ∷ [])) (usage_marks s x.id None (Some x)) k (usage_of_created s x valid may is absent) (ap (λ o. is_among k (usage_marks s x.id o (Some x))) (sym absent) ∙ usage_out s (Put x) k out))
namespace_law s (Cut id) valid may is (Some old) there k out =
    removed_law s id valid may is k (beside_out s (Cut id) k out) (used_same_for s (state_after s (Cut id ∷ [])) (usage_by s (Cut id)) k (usage_of_removed s id valid may is) (usage_out s (Cut id) k out))
namespace_law s (Put x) valid may is (Some old) there k out = elim (cases_Bool (begins_to_end old x)) [
  | inr stays ↦ label_law s x old valid may is there stays k out
  | inl ends ↦ leaving_law s (Put x ∷ []) valid may (begins s x old is there may ends, tt) k (ap (is_among k) (all_one s (Put x)) ∙ out)
]

-- what is marked on account of what quotas tell are keys of the state
namespace_usage_within : (s : State) (write : Write) → is_namespace (id_written write).kind ≡ true → (k : Key) → is_among k (usage_by s write) ≡ true → may_mark s (write ∷ []) k ≡ true
namespace_usage_within s write is k mem =
    unplain_within s write k (or_left (is_key s k) (is_key (state_after s (write ∷ [])) k) (namespace_usage_key s k (id_written write) (object_at s.objects (id_written write)) (object_written write) is mem))
    (ap is_plain (namespace_kind (id_written write).kind is))

hierarchy_usage_within : (s : State) (write : Write) → is_hierarchy (id_written write).kind ≡ true → (k : Key) → is_among k (usage_by s write) ≡ true → may_mark s (write ∷ []) k ≡ true
hierarchy_usage_within s write is k mem =
    unplain_within s write k (or_left (is_key s k) (is_key (state_after s (write ∷ [])) k) (hierarchy_usage_key s k (id_written write) (object_at s.objects (id_written write)) (object_written write) is mem))
    (ap is_plain (hierarchy_kind (id_written write).kind is))

-- a key that is marked is so either way
either_within : (s : State) (write : Write) (k : Key) → (is_among k (marks_beside s write) ≡ true → may_mark s (write ∷ []) k ≡ true) → (is_among k (usage_by s write) ≡ true → may_mark s (write ∷ []) k ≡ true)
    → is_among k (marks_of s write) ≡ true → may_mark s (write ∷ []) k ≡ true
either_within s write k beside usage mem = elim (or_cases (is_among k (marks_beside s write)) (is_among k (usage_by s write)) (sym (among_parts s write k) ∙ mem)) [ inl one ↦ beside one | inr quota ↦ usage quota ]

namespace_within : (s : State) (write : Write) → IsValid s → MayWriteAll s (write ∷ []) → is_namespace (id_written write).kind ≡ true → (found : Option Object) → object_at s.objects (id_written write) ≡ found
    → (k : Key) → is_among k (marks_of s write) ≡ true → may_mark s (write ∷ []) k ≡ true
namespace_within s (Cut id) valid may is None absent k mem = absurd (cut_there s id may absent)
namespace_within s (Put x) valid may is None absent k mem = either_within s (Put x) k (within_created s x valid may is absent k) (namespace_usage_within s (Put x) is k) mem
namespace_within s (Cut id) valid may is (Some old) there k mem = either_within s (Cut id) k (within_removed s id valid may is k) (namespace_usage_within s (Cut id) is k) mem
namespace_within s (Put x) valid may is (Some old) there k mem = elim (cases_Bool (begins_to_end old x)) [
  | inr stays ↦ within_labels s x old valid may is there stays k mem
  | inl ends ↦ within_leaving s (Put x ∷ []) valid may (begins s x old is there may ends, tt) k (ap (is_among k) (all_one s (Put x)) ∙ mem)
]

-- ---- one write

module _ (s : State) (write : Write) (valid : IsValid s) (may : MayWriteAll s (write ∷ [])) (k : Key) where
  pub law : is_among k (marks_of s write) ≡ false → IsSameFor s (state_after s (write ∷ [])) k
  law out = elim (cases_Bool (is_namespace (id_written write).kind)) [
    | inl is ↦ namespace_law s write valid may is (object_at s.objects (id_written write)) refl k out
    | inr leaf ↦ elim (cases_Bool (is_hierarchy (id_written write).kind)) [
      | inl is ↦ move_law s write valid may is k beside (used (usage_of_moved s write valid may is))
      | inr plain ↦
          let quotas = used (usage_of_object s write valid may leaf plain) in
          elim (cases_Bool (is_modes (id_written write))) [
            | inl is ↦ mode_law s write valid may leaf plain is k beside quotas
            | inr other ↦ elim (cases_Bool (is_anchor (id_written write).kind)) [
              | inl is ↦ anchor_law s write is k beside quotas
              | inr object ↦ object_law s write valid may leaf plain other object k beside quotas
            ]
          ]
    ]
  ]
    where
      beside : is_among k (marks_beside s write) ≡ false
      beside = beside_out s write k out

      used : ((n name : List ℕ) → is_among (key.Used n name) (usage_by s write) ≡ false → IsSameFor s (state_after s (write ∷ [])) (key.Used n name)) → UsedSame s (state_after s (write ∷ [])) k
      used quotas = used_same_for s (state_after s (write ∷ [])) (usage_by s write) k quotas (usage_out s write k out)

  pub within : is_among k (marks_of s write) ≡ true → may_mark s (write ∷ []) k ≡ true
  within mem = elim (cases_Bool (is_namespace (id_written write).kind)) [
    | inl is ↦ namespace_within s write valid may is (object_at s.objects (id_written write)) refl k mem
    | inr leaf ↦ elim (cases_Bool (is_hierarchy (id_written write).kind)) [
      | inl is ↦ either_within s write k (within_moves s write valid may is k) (hierarchy_usage_within s write is k) mem
      | inr plain ↦ either_within s write k (beside leaf plain) (usage_within_object s write k valid may leaf plain) mem
    ]
  ]
    where
      beside : is_namespace (id_written write).kind ≡ false → is_hierarchy (id_written write).kind ≡ false → is_among k (marks_beside s write) ≡ true → may_mark s (write ∷ []) k ≡ true
      beside leaf plain one = elim (cases_Bool (is_modes (id_written write))) [
        | inl is ↦ within_modes s write valid may leaf plain is k one
        | inr other ↦ elim (cases_Bool (is_anchor (id_written write).kind)) [
          | inl is ↦ within_anchors s write may is k one
          | inr object ↦ within_objects s write valid may leaf plain other object k one
        ]
      ]

-- ---- the writes of a commit

module _ (s : State) (writes : List Write) (regular : IsRegular s writes) (valid : IsValid s) (may : MayWriteAll s writes) (k : Key) where
  pub law_of_commit : is_among k (all_marks s writes) ≡ false → IsSameFor s (state_after s writes) k
  law_of_commit out = elim regular [
    | inr ends ↦ ending_law s writes valid may ends k out
    | inl (write, is) ↦ subst (λ us. IsSameFor s (state_after s us) k) (sym is) (law s write valid (subst (MayWriteAll s) is may) k (sym (ap (is_among k) (ap (all_marks s) is ∙ all_one s write)) ∙ out))
  ]

  pub within_commit : is_among k (all_marks s writes) ≡ true → may_mark s writes k ≡ true
  within_commit mem = elim regular [
    | inr ends ↦ within_ending s writes valid may ends k mem
    | inl (write, is) ↦ subst (λ us. may_mark s us k ≡ true) (sym is) (within s write valid (subst (MayWriteAll s) is may) k (sym (ap (is_among k) (ap (all_marks s) is ∙ all_one s write)) ∙ mem))
  ]

-- ---- queues

module _ (s : State) (writes : List Write) (marked : List Key) (covers : Covers s writes marked) (regular : IsRegular s writes) (hands : List Hand) (guards : HaveTheirGuards hands) (waiting again new_waiting new_again : List Key)
    (wait_on : (k : Key) → is_among k waiting ≡ true → is_among k new_waiting ≡ true) (mark_on : (k : Key) → is_among k again ≡ true → is_among k new_again ≡ true) where
  -- where each marked key waits or was marked again, no work is forgotten
  pub stays_covered : ((k : Key) → is_among k marked ≡ true → (is_among k new_waiting ≡ true) ⊎ (is_among k new_again ≡ true))
      → IsCovered s hands waiting again → IsCovered (state_after s writes) hands new_waiting new_again
  stays_covered all covered = covered_next s (state_after s writes) hands waiting again new_waiting new_again guards wait_on mark_on (λ k wants. elim (cases_Bool (is_among k marked)) [
    | inl among ↦ inr (all k among)
    | inr out ↦ inl (covers regular k out)
  ]) covered

  -- the same where one key isn't marked, which wants nothing afterwards
  pub stays_covered_but : (own : Key) → wanted_write (state_after s writes) own ≡ None
      → ((k : Key) → is_among k marked ≡ true → same_key k own ≡ false → (is_among k new_waiting ≡ true) ⊎ (is_among k new_again ≡ true))
      → IsCovered s hands waiting again → IsCovered (state_after s writes) hands new_waiting new_again
  stays_covered_but own none all covered = covered_next s (state_after s writes) hands waiting again new_waiting new_again guards wait_on mark_on (λ k wants. elim (cases_Bool (is_among k marked)) [
    | inr out ↦ inl (covers regular k out)
    | inl among ↦ elim (cases_Bool (same_key k own)) [
      | inl is ↦ absurd (wants (ap (wanted_write (state_after s writes)) (same_key_is k own is) ∙ none))
      | inr other ↦ inr (all k among other)
    ]
  ]) covered
