-- What a write leaves that is of no namespace and of no HierarchyConfiguration.
--     Leaves s t id new     the tree stays, what is found under other identities, and what is first in other namespaces; the object of the identity is there, or isn't
--     leaves                such is the state after such a write
--     namespaces_stay       the namespaces stay
--     leaving_stay          so do those that are on their way out
--     child_stays, anchored_stays   and the keys of anchors, where none is written
--     report_stays          and the reports, where no HierarchyConfiguration is written either
--     marks_by_modes, marks_by_kept    it marks by the modes, or by the object with the removal of its namespace
use Rattle.std.proofs.Common.{◌≡◌, ℕ, false, cond, Option, None, List, [], ◌∷◌, refl, sym, ap, ◌∙◌, true≢false, ◌++◌, true}
use Rattle.std.specs.Prelude.{is_none, is_some}
use Rattle.std.specs.Cmp.{tied_itself}
use Rattle.std.specs.Str.{bytes_eq}
use Rattle.std.proofs.lemmas.Bool.{and_parts, false_from_ne_true}
use Rattle.std.proofs.lemmas.List.{append-nil}
use Rattle.hx_object.specs.Kinds.{is_namespace, is_hierarchy, is_anchor}
use Rattle.hx_object.specs.declared.kind.Kind.{Kind}
use Rattle.hx_object.specs.declared.kind.Kind.TheVariants as of
use Rattle.hx_object.specs.declared.object.Id.{Id}
use Rattle.hx_object.specs.declared.object.Object.{Object}
use Rattle.hx_model.specs.Cases.{is_leaving}
use Rattle.hx_model.specs.Covered.{IsSameFor}
use Rattle.hx_model.specs.Forest.{children_of, halt_of, is_live}
use Rattle.hx_model.specs.Moves.{is_eligible}
use Rattle.hx_model.specs.State.{State, object_at, same_id, namespace_id, state_after}
use Rattle.hx_model.specs.Subnamespaces.{anchor_id}
use Rattle.hx_model.specs.Tree.{hierarchy, hierarchy_id, forest_of}
use Rattle.hx_model.specs.TreeLabels.{is_open}
use Rattle.hx_model.specs.Writes.{id_written}
use Rattle.hx_model.specs.declared.key.Key.{Key}
use Rattle.hx_model.specs.declared.key.Key.TheVariants as key
use Rattle.hx_model.specs.declared.key.Write.{Write}
use Rattle.hx_model.specs.declared.key.Write.TheVariants.{Put, Cut}
use Rattle.hx_model.proofs.Displacing.{KeepsOthers, put_keeps, cut_keeps}
use Rattle.hx_model.proofs.Objects.{id_total, is_same_id, same_from_Equal, object_at-cut, found_again}
use Rattle.hx_model.proofs.Planting.{forest-put, forest-cut}
use Rattle.hx_marks.specs.Law.{namespace_marks, namespace_reports, hierarchy_reports, move_marks, mode_marks, object_marks, is_modes, object_written, inner_marks, anchor_marks, leaving_keys, is_config_kind}
use Rattle.hx_marks.specs.Reports.{anchored_reports}
use Rattle.hx_marks.proofs.Frames.{KeepsLeast, put_least, cut_least, same_child, same_status, status_stays}
use Rattle.hx_marks.proofs.Parts.{marks_beside}
use Rattle.hx_marks.proofs.Reporting.{same_report, conditions_same}

pub record Leaves (s t : State) (id : Id) (new : Option Object) : Type 0 where
  pub tree : forest_of t ≡ forest_of s
  pub others : KeepsOthers id s.objects t.objects
  pub least : KeepsLeast id s.objects t.objects
  pub here : object_at t.objects id ≡ new
  pub config : t.config ≡ s.config

pub leaves : (s : State) (write : Write) → is_namespace (id_written write).kind ≡ false → is_hierarchy (id_written write).kind ≡ false → Leaves s (state_after s (write ∷ [])) (id_written write) (object_written write)
leaves s (Put x) namespace hierarchical = record {
  tree = forest-put s.config.excluded x s.objects namespace hierarchical;
  others = put_keeps x x.id s.objects refl;
  least = put_least x s.objects;
  here = found_again x s.objects;
  config = refl;
}
leaves s (Cut id) namespace hierarchical = record {
  tree = forest-cut s.config.excluded id s.objects namespace hierarchical;
  others = cut_keeps id s.objects;
  least = cut_least id s.objects;
  here = object_at-cut id s.objects id ∙ ap (λ b. cond b None (object_at s.objects id)) (same_from_Equal id id (tied_itself id_total id));
  config = refl;
}

pub namespaces_stay : (s t : State) (id : Id) → KeepsOthers id s.objects t.objects → is_namespace id.kind ≡ false → (m : List ℕ) → object_at t.objects (namespace_id m) ≡ object_at s.objects (namespace_id m)
namespaces_stay s t id others out m = others (namespace_id m) (false_from_ne_true (same_id (namespace_id m) id) (λ h. true≢false (ap (λ (q : Id). is_namespace q.kind) (is_same_id (namespace_id m) id h) ∙ out)))

-- who is on its way out stays so
pub leaving_stay : (s t : State) (id : Id) (new : Option Object) → Leaves s t id new → (n : List ℕ) → is_leaving (forest_of t) n ≡ is_leaving (forest_of s) n
leaving_stay s t id new left n = ap (λ f. is_leaving f n) left.tree

-- where no anchor is written, the keys of anchors stay
module _ (s t : State) (id : Id) (new : Option Object) (left : Leaves s t id new) (leaf : is_namespace id.kind ≡ false) (other : is_anchor id.kind ≡ false) (n m : List ℕ) where
  anchor_stays : object_at t.objects (anchor_id n m) ≡ object_at s.objects (anchor_id n m)
  anchor_stays = left.others (anchor_id n m) (false_from_ne_true (same_id (anchor_id n m) id) (λ h. true≢false (ap (λ (q : Id). is_anchor q.kind) (is_same_id (anchor_id n m) id h) ∙ other)))

  pub child_stays : IsSameFor s t (key.Child n m)
  child_stays = same_child s t n m anchor_stays (namespaces_stay s t id left.others leaf n) left.config (ap (λ f. is_open f n) left.tree) (namespaces_stay s t id left.others leaf m)

  pub anchored_stays : IsSameFor s t (key.Anchor n m)
  anchored_stays =
      same_status s t n m anchor_stays (namespaces_stay s t id left.others leaf n) (ap (λ f. is_live f n) left.tree)
      (status_stays s t n m left.config (namespaces_stay s t id left.others leaf m))

-- where none is written, and no HierarchyConfiguration, the reports stay
module _ (s t : State) (id : Id) (new : Option Object) (left : Leaves s t id new) (leaf : is_namespace id.kind ≡ false) (level : is_hierarchy id.kind ≡ false) (other : is_anchor id.kind ≡ false) (n : List ℕ) where
  found : (m : List ℕ) → object_at t.objects (namespace_id m) ≡ object_at s.objects (namespace_id m)
  found = namespaces_stay s t id left.others leaf

  unanchored : (p : List ℕ) → object_at t.objects (anchor_id p n) ≡ object_at s.objects (anchor_id p n)
  unanchored p = left.others (anchor_id p n) (false_from_ne_true (same_id (anchor_id p n) id) (λ h. true≢false (ap (λ (q : Id). is_anchor q.kind) (is_same_id (anchor_id p n) id h) ∙ other)))

  pub report_stays : IsSameFor s t (key.Report n)
  report_stays =
      same_report s t n (ap (λ f. is_eligible f n) left.tree)
      (left.others (hierarchy_id n) (false_from_ne_true (same_id (hierarchy_id n) id) (λ h. true≢false (ap (λ (q : Id). is_hierarchy q.kind) (is_same_id (hierarchy_id n) id h) ∙ level))))
      (found n) (ap (λ f. children_of f n) left.tree)
      (conditions_same s t n (ap (λ f. halt_of f n) left.tree) (found n) (λ p. ap is_some (found p)) (λ p. ap is_none (unanchored p)))

-- ---- what is marked

-- of an object that lies in a namespace: what it is of its kind
abbrev pub kept_marks : State → Write → List Key
kept_marks s write = cond (is_anchor (id_written write).kind) (anchor_marks (id_written write)) (object_marks s (id_written write) (object_at s.objects (id_written write)) (object_written write))

-- the reports that it changes
abbrev pub kept_reports : State → Write → List Key
kept_reports s write = cond (is_anchor (id_written write).kind) (anchored_reports s (id_written write) (object_at s.objects (id_written write)) (object_written write)) []

-- by the modes, or by the object, with the removal of its namespace
abbrev pub other_marks : State → Write → List Key
other_marks s write =
    cond (is_modes (id_written write)) (mode_marks s (object_at s.objects (id_written write)) (object_written write))
    (kept_marks s write ++ leaving_keys (forest_of s) (id_written write).ns)

pub marks_are : (s : State) (write : Write) → is_namespace (id_written write).kind ≡ false → is_hierarchy (id_written write).kind ≡ false → marks_beside s write ≡ other_marks s write ++ kept_reports s write
marks_are s write namespace hierarchical =
    let t = state_after s (write ∷ []) in
    let old = object_at s.objects (id_written write) in
    let modes = mode_marks s old (object_written write) in
    let leaving = leaving_keys (forest_of s) (id_written write).ns in
    let moves = cond (bytes_eq (id_written write).name hierarchy) (move_marks s t (id_written write).ns) [] in
    let placed = cond (bytes_eq (id_written write).name hierarchy) (hierarchy_reports s t (id_written write).ns) [] in
    ap (λ b. cond b (namespace_marks s t (id_written write).name old (object_written write)) (cond (is_modes (id_written write)) modes (inner_marks s t (id_written write) old (object_written write) ++ leaving))
    ++ cond b (namespace_reports s t (id_written write).name old (object_written write)) (cond (is_hierarchy (id_written write).kind) placed (kept_reports s write))) namespace
    ∙ ap (λ b. cond (is_modes (id_written write)) modes (cond b moves (kept_marks s write) ++ leaving) ++ cond b placed (kept_reports s write)) hierarchical

-- the modes mark by themselves
pub marks_by_modes : (s : State) (write : Write) → is_namespace (id_written write).kind ≡ false → is_hierarchy (id_written write).kind ≡ false → is_modes (id_written write) ≡ true → marks_beside s write ≡ mode_marks s (object_at s.objects (id_written write)) (object_written write)
marks_by_modes s write namespace hierarchical modes =
    marks_are s write namespace hierarchical
    ∙ ap (λ b. cond b (mode_marks s (object_at s.objects (id_written write)) (object_written write)) (kept_marks s write ++ leaving_keys (forest_of s) (id_written write).ns) ++ kept_reports s write) modes
    ∙ ap (λ b. mode_marks s (object_at s.objects (id_written write)) (object_written write) ++ cond b (anchored_reports s (id_written write) (object_at s.objects (id_written write)) (object_written write)) []) (no_anchor (id_written write).kind (and_parts (is_config_kind (id_written write).kind) _ modes).0)
    ∙ append-nil (mode_marks s (object_at s.objects (id_written write)) (object_written write))
  where
    no_anchor : (kind : Kind) → is_config_kind kind ≡ true → is_anchor kind ≡ false
    no_anchor of.HncConfiguration h = refl
    no_anchor of.SubnamespaceAnchor h = absurd (true≢false (sym h))
    no_anchor _ h = refl

-- and so does any other object
pub marks_by_kept : (s : State) (write : Write) → is_namespace (id_written write).kind ≡ false → is_hierarchy (id_written write).kind ≡ false → is_modes (id_written write) ≡ false → marks_beside s write ≡ (kept_marks s write ++ leaving_keys (forest_of s) (id_written write).ns) ++ kept_reports s write
marks_by_kept s write namespace hierarchical modes =
    marks_are s write namespace hierarchical
    ∙ ap (λ b. cond b (mode_marks s (object_at s.objects (id_written write)) (object_written write)) (kept_marks s write ++ leaving_keys (forest_of s) (id_written write).ns) ++ kept_reports s write) modes
