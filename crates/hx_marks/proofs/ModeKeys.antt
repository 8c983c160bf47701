-- A write of the HNCConfiguration marks keys of the state alone.
--     within_modes     a key that is marked is one that the write may make wait
use Rattle.std.proofs.Common.{◌≡◌, ◌==◌, Bool, true, false, cond, not, ◌&&◌, ◌||◌, Option, Some, None, [], ◌∷◌, ◌++◌, map, filter, refl, sym, ap, ◌∙◌, inl, inr, true≢false, eqb-true}
use Rattle.std.proofs.lemmas.Bool.{and_parts, or_cases, or_left}
use Rattle.hx_object.specs.Kinds.{can_be_copied, is_namespace, is_hierarchy, is_plain, number_of}
use Rattle.hx_object.specs.declared.kind.Kind.{Kind}
use Rattle.hx_object.specs.declared.kind.Kind.TheVariants as of
use Rattle.hx_object.specs.declared.object.Id.{Id}
use Rattle.hx_object.specs.declared.object.Mode.{Mode}
use Rattle.hx_object.specs.declared.object.Object.{Object}
use Rattle.hx_model.specs.Answers.{is_listed}
use Rattle.hx_model.specs.Forest.{is_in}
use Rattle.hx_model.specs.Keys.{same_key, is_among, is_key, may_mark}
use Rattle.hx_model.specs.Limits.{is_copy}
use Rattle.hx_model.specs.Modes.{mode_in}
use Rattle.hx_model.specs.Moves.{copied_kinds}
use Rattle.hx_model.specs.State.{State, ascends, object_at}
use Rattle.hx_model.specs.Tree.{forest_of}
use Rattle.hx_model.specs.TreeLabels.{is_open}
use Rattle.hx_model.specs.Valid.{IsValid}
use Rattle.hx_model.specs.Writes.{id_written, MayWriteAll}
use Rattle.hx_model.specs.declared.key.Key.{Key}
use Rattle.hx_model.specs.declared.key.Write.{Write}
use Rattle.hx_model.proofs.Objects.{same_kind}
use Rattle.hx_model.proofs.Parents.{is_in_filter}
use Rattle.hx_marks.specs.Law.{key_for, open_below, apart, differ, is_ignored, is_sent, copy_marks, source_marks, kind_marks, mode_marks, is_config_kind, is_modes, object_written}
use Rattle.hx_marks.proofs.Among.{same_key_is, among_append, among_flat_map, among_map, among_cond, any_filter, found_object, found_name, found_kind}
use Rattle.hx_marks.proofs.OpenBelow.{open_is_there, open_below_has}
use Rattle.hx_marks.proofs.Leaving.{marks_by_modes}
use Rattle.hx_marks.proofs.Parts.{marks_beside}
use Rattle.hx_marks.proofs.Within.{copy_key, unplain_within}

only : (b : Bool) → (b || false) ≡ true → b ≡ true
only true e = refl
only false e = absurd (true≢false (sym e))

module _ (s : State) (x : Object) (at : object_at s.objects x.id ≡ Some x) (copied : can_be_copied x.id.kind ≡ true) (k : Key) where
  of_copy : (b c : Bool) → is_among k (cond (b && (c && is_open (forest_of s) x.id.ns)) (key_for x.id.ns x ∷ []) []) ≡ true → is_key s k ≡ true
  of_copy b c h =
      let acts = b && (c && is_open (forest_of s) x.id.ns) in
      let parts = and_parts acts (is_among k (key_for x.id.ns x ∷ [])) (sym (among_cond k acts (key_for x.id.ns x ∷ [])) ∙ h) in
      ap (is_key s) (same_key_is k (key_for x.id.ns x) (only (same_key k (key_for x.id.ns x)) parts.1)) ∙ copy_key s x x.id.ns at copied (open_is_there (forest_of s) x.id.ns (and_parts c (is_open (forest_of s) x.id.ns) (and_parts b _ parts.0).1).1)

  of_source : (b : Bool) → is_among k (cond b (map (λ m. key_for m x) (apart (open_below (forest_of s) x.id.ns) (x.id.ns ∷ []))) []) ≡ true → is_key s k ≡ true
  of_source b h =
      let places = apart (open_below (forest_of s) x.id.ns) (x.id.ns ∷ []) in
      let parts = and_parts b (is_among k (map (λ m. key_for m x) places)) (sym (among_cond k b (map (λ m. key_for m x) places)) ∙ h) in
      let found = found_name (λ m. same_key k (key_for m x)) places (sym (among_map k (λ m. key_for m x) places) ∙ parts.1) in
      let below = (and_parts (is_in found.0 (open_below (forest_of s) x.id.ns)) _ (sym (is_in_filter (λ a. not (is_in a (x.id.ns ∷ []))) found.0 (open_below (forest_of s) x.id.ns)) ∙ found.1)).0 in
      ap (is_key s) (same_key_is k (key_for found.0 x) found.2) ∙ copy_key s x found.0 at copied (open_is_there (forest_of s) found.0 (open_below_has (forest_of s) x.id.ns found.0 below).0)

  of_object : (a b : Mode) → is_among k (copy_marks (forest_of s) a b x ++ source_marks (forest_of s) a b x) ≡ true → is_key s k ≡ true
  of_object a b h = elim (or_cases _ _ (sym (among_append k (copy_marks (forest_of s) a b x) (source_marks (forest_of s) a b x)) ∙ h)) [
    | inl copy ↦ of_copy (differ (is_ignored a) (is_ignored b)) (is_copy x) copy
    | inr source ↦ of_source (differ (is_sent a x) (is_sent b x)) source
  ]

kind_keys : (s : State) (a b : Mode) (kind : Kind) (k : Key) → ascends s.objects ≡ true → can_be_copied kind ≡ true → is_among k (kind_marks s a b kind) ≡ true → is_key s k ≡ true
kind_keys s a b kind k up copied h =
    let found = found_object (λ x. is_listed kind None x && is_among k (copy_marks (forest_of s) a b x ++ source_marks (forest_of s) a b x)) s.objects up
    (sym (any_filter (λ x. is_among k (copy_marks (forest_of s) a b x ++ source_marks (forest_of s) a b x)) (is_listed kind None) s.objects)
    ∙ sym (among_flat_map k (λ x. copy_marks (forest_of s) a b x ++ source_marks (forest_of s) a b x) (filter (is_listed kind None) s.objects)) ∙ h) in
    listed found.0 found.1 found.2
  where
    listed : (x : Object) → object_at s.objects x.id ≡ Some x → (is_listed kind None x && is_among k (copy_marks (forest_of s) a b x ++ source_marks (forest_of s) a b x)) ≡ true → is_key s k ≡ true
    listed x at h =
        let parts = and_parts (is_listed kind None x) (is_among k (copy_marks (forest_of s) a b x ++ source_marks (forest_of s) a b x)) h in
        let same = same_kind kind x.id.kind (eqb-true (number_of kind) (number_of x.id.kind) (and_parts (number_of kind == number_of x.id.kind) true parts.0).0) in
        of_object s x at (ap can_be_copied (sym same) ∙ copied) k a b parts.1

mode_keys : (s : State) (old new : Option Object) (k : Key) → ascends s.objects ≡ true → is_among k (mode_marks s old new) ≡ true → is_key s k ≡ true
mode_keys s old new k up h =
    let found = found_kind (λ kind. is_among k (kind_marks s (mode_in old kind) (mode_in new kind) kind)) (sym (among_flat_map k (λ kind. kind_marks s (mode_in old kind) (mode_in new kind) kind) copied_kinds) ∙ h) in
    kind_keys s (mode_in old found.0) (mode_in new found.0) found.0 k up found.1 found.2

config_not_plain : (id : Id) → is_modes id ≡ true → is_plain id.kind ≡ false
config_not_plain id is = by id.kind (and_parts (is_config_kind id.kind) _ is).0
  where
    by : (kind : Kind) → is_config_kind kind ≡ true → is_plain kind ≡ false
    by of.HncConfiguration is = refl
    by _ is = absurd (true≢false (sym is))

-- a key that is marked is one that the write may make wait
pub within_modes : (s : State) (write : Write) → IsValid s → MayWriteAll s (write ∷ []) → is_namespace (id_written write).kind ≡ false → is_hierarchy (id_written write).kind ≡ false → is_modes (id_written write) ≡ true
    → (k : Key) → is_among k (marks_beside s write) ≡ true → may_mark s (write ∷ []) k ≡ true
within_modes s write valid may namespace hierarchical modes k h =
    let mem = ap (is_among k) (sym (marks_by_modes s write namespace hierarchical modes)) ∙ h in
    unplain_within s write k (or_left (is_key s k) _ (mode_keys s (object_at s.objects (id_written write)) (object_written write) k valid.in_order mem)) (config_not_plain (id_written write) modes)
