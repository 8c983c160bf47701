-- The law of marks where a namespace goes that is on its way out, and in which nothing lies.
--     removed_law        a key that isn't marked wants what it wanted
--     within_removed     only keys of the state are marked
use Rattle.std.proofs.Common.{◌≡◌, ℕ, Bool, true, false, not, ◌&&◌, Option, Some, None, List, [], ◌∷◌, ◌++◌, option_map, refl, sym, ap, ◌∙◌, subst, inl, inr, true≢false}
use Rattle.std.specs.Prelude.{if◌then◌else◌, IsSomeAnd, is_none}
use Rattle.std.specs.List.{AllByRecursion}
use Rattle.std.specs.Option.{option_map_or}
use Rattle.std.specs.Str.{bytes_eq}
use Rattle.std.proofs.lemmas.Bool.{or_cases, or_left, cases_Bool}
use Rattle.hx_object.specs.Kinds.{is_namespace, is_plain}
use Rattle.hx_object.specs.declared.object.Id.{Id}
use Rattle.hx_object.specs.declared.object.Object.{Object}
use Rattle.hx_object.proofs.KindTests.{namespace_kind}
use Rattle.hx_model.specs.Covered.{IsSameFor}
use Rattle.hx_model.specs.Forest.{Forest, is_live, is_excluded, halt_of, in_chain}
use Rattle.hx_model.specs.Keys.{same_key, is_among, is_key, may_mark}
use Rattle.hx_model.specs.Serving.{IsServed}
use Rattle.hx_model.specs.State.{State, object_at, state_after, namespace_id}
use Rattle.hx_model.specs.Subnamespaces.{anchor_id}
use Rattle.hx_model.specs.Tree.{forest_of, is_terminating, node_in}
use Rattle.hx_model.specs.TreeLabels.{is_open}
use Rattle.hx_model.specs.Valid.{IsValid}
use Rattle.hx_model.specs.Writes.{MayCut, MayWriteAll}
use Rattle.hx_model.specs.declared.key.Key.{Key}
use Rattle.hx_model.specs.declared.key.Key.TheVariants as key
use Rattle.hx_model.specs.declared.key.Write.TheVariants.{Cut}
use Rattle.hx_model.specs.declared.node.Node.{Node}
use Rattle.hx_model.proofs.Climbing.{is_same}
use Rattle.hx_model.proofs.Opening.{not_live}
use Rattle.hx_model.proofs.Planting.{node_of-objects}
use Rattle.hx_marks.specs.Law.{asking_keys, removed_marks, marks_by, namespace_marks, namespace_reports, report_marks}
use Rattle.hx_marks.specs.Reports.{removed_reports}
use Rattle.hx_marks.proofs.Among.{among_append, among_here, out_left, out_right}
use Rattle.hx_marks.proofs.Asking.{asking_known, anchor_key, child_of_anchor, status_of_anchor}
use Rattle.hx_marks.proofs.CreatedChains.{made_not_open}
use Rattle.hx_marks.proofs.Keeping.{turned, closed_copy, closed_labels, closed_children, without_child, without_status, waiting_both}
use Rattle.hx_marks.proofs.OneMore.{HasOneMore, apart_copy, apart_tree, apart_child, apart_status, apart_purge, unasked}
use Rattle.hx_marks.proofs.OneMoreWrites.{cut_more}
use Rattle.hx_marks.proofs.Parts.{UsedSame, marks_beside}
use Rattle.hx_marks.proofs.RemovedReports.{report_gone, gone_within}
use Rattle.hx_marks.proofs.Replacing.{valid_served}
use Rattle.hx_marks.proofs.TakingPart.{open_under}
use Rattle.hx_marks.proofs.Within.{removal_key, unplain_within}

ended_is : (o : Option Object) → IsSomeAnd o (λ x. is_terminating x.payload ≡ true) → (x : Object) × (o ≡ Some x) × (is_terminating x.payload ≡ true)
ended_is None h = absurd h
ended_is (Some x) h = (x, refl, h)

never : (a b : Bool) → b ≡ false → (a && b) ≡ false
never true b e = e
never false b e = refl

module _ (s : State) (id : Id) (valid : IsValid s) (may : MayCut s id) (is : is_namespace id.kind ≡ true) where
  abbrev t : State
  t = state_after s (Cut id ∷ [])

  abbrev n : List ℕ
  n = id.name

  abbrev f : Forest
  f = forest_of s

  abbrev g : Forest
  g = forest_of t

  served : AllByRecursion IsServed s.objects
  served = valid_served s valid

  -- the state before it has one namespace more
  more : HasOneMore t s n
  more = cut_more s id valid may is

  -- it is on its way out before, and isn't there then
  dead : is_live f n ≡ false
  dead =
      let found = ended_is (object_at s.objects (namespace_id n)) (may.leaf is).ended in
      ap (λ o. option_map_or (λ (node : Node). not node.terminating) o false) (node_of-objects s.config.excluded s.objects n served ∙ ap (option_map (node_in s.config.excluded s.objects)) found.1) ∙ ap not found.2

  missing : is_live g n ≡ false
  missing = not_live g n more.made.absent

  -- nothing below it takes part
  shut : (m : List ℕ) → in_chain f m n ≡ true → is_open f m ≡ false
  shut m has = open_under f n m has ∙ never _ (is_open f n) (ap (λ b. b && (not (is_excluded f n) && is_none (halt_of f n))) dead)

  shut_then : (m : List ℕ) → in_chain f m n ≡ true → is_open g m ≡ false
  shut_then m has = made_not_open g f n more.made m has

  abbrev reports : List Key
  reports = removed_reports f n

  by_removed : (k : Key) → is_among k (removed_marks s n) ≡ false → is_among k reports ≡ false → UsedSame s t k → IsSameFor s t k
  by_removed (key.Copy m kind name) out untouched used = elim (cases_Bool (in_chain f m n)) [
    | inl has ↦ closed_copy s t m kind name (shut m has) (shut_then m has)
    | inr hasnt ↦ turned t s (key.Copy m kind name) (apart_copy t s n more m kind name hasnt)
  ]
  by_removed (key.Tree m) out untouched used = elim (cases_Bool (in_chain f m n)) [
    | inl has ↦ closed_labels s t m (shut m has) (shut_then m has)
    | inr hasnt ↦ turned t s (key.Tree m) (apart_tree t s n more m hasnt)
  ]
  by_removed (key.Report m) out untouched used = report_gone s t n more dead m untouched
  by_removed (key.Child m name) out untouched used = elim (cases_Bool (in_chain f m n)) [
    | inl has ↦ closed_children s t m name (shut m has) (shut_then m has)
    | inr hasnt ↦ elim (cases_Bool (bytes_eq n name)) [
      | inl same ↦ let none = unasked s.objects n m name (key.Child m name) (child_of_anchor m name) (out_right (same_key (key.Child m name) (key.Purge n)) _ out) same in without_child s t m name none (sym (more.others (anchor_id m name) refl) ∙ none)
      | inr off ↦ turned t s (key.Child m name) (apart_child t s n more m name hasnt off)
    ]
  ]
  by_removed (key.Anchor m name) out untouched used = elim (cases_Bool (bytes_eq n m)) [
    | inl here ↦ subst (λ (q : List ℕ). IsSameFor s t (key.Anchor q name)) (is_same n m here) (waiting_both s t n name dead missing)
    | inr off ↦ elim (cases_Bool (bytes_eq n name)) [
      | inl same ↦ let none = unasked s.objects n m name (key.Anchor m name) (status_of_anchor m name) (out_right (same_key (key.Anchor m name) (key.Purge n)) _ out) same in without_status s t m name none (sym (more.others (anchor_id m name) refl) ∙ none)
      | inr other ↦ turned t s (key.Anchor m name) (apart_status t s n more m name off other)
    ]
  ]
  by_removed (key.Used m name) out untouched used = used m name refl
  by_removed (key.Purge m) out untouched used = elim (cases_Bool (bytes_eq n m)) [
    | inl here ↦ absurd (true≢false (sym (subst (λ (q : List ℕ). is_among (key.Purge q) (removed_marks s n) ≡ true) (is_same n m here) (among_here (key.Purge n) (asking_keys s.objects n))) ∙ out))
    | inr off ↦ turned t s (key.Purge m) (apart_purge t s n more m off)
  ]

  taken : (b : Bool) (u v : List Key) → b ≡ true → (if b then u else v) ≡ u
  taken true u v e = refl
  taken false u v e = absurd (true≢false (sym e))

  -- what is marked
  marks_are : marks_beside s (Cut id) ≡ removed_marks s n ++ reports
  marks_are = λ i. keys i ++ told i
    where
      keys : marks_by s t id (object_at s.objects id) None ≡ removed_marks s n
      keys = taken (is_namespace id.kind) (namespace_marks s t n (object_at s.objects id) None) _ is ∙ ap (λ o. namespace_marks s t n o None) may.there.1

      told : report_marks s t id (object_at s.objects id) None ≡ reports
      told = taken (is_namespace id.kind) (namespace_reports s t n (object_at s.objects id) None) _ is ∙ ap (λ o. namespace_reports s t n o None) may.there.1

  removed_keys : (k : Key) → is_among k (removed_marks s n) ≡ true → is_key s k ≡ true
  removed_keys k mem = elim (or_cases (same_key k (key.Purge n)) (is_among k (asking_keys s.objects n)) mem) [
    | inl same ↦ removal_key s n k more.made.made (or_left (same_key k (key.Purge n)) false same)
    | inr asks ↦ let found = asking_known s.objects n k valid.in_order asks in anchor_key s found.0 n found.1 k found.2 found.3
  ]

  all_keys : (k : Key) → is_among k (removed_marks s n ++ reports) ≡ true → is_key s k ≡ true
  all_keys k mem = elim (or_cases (is_among k (removed_marks s n)) (is_among k reports) (sym (among_append k (removed_marks s n) reports) ∙ mem)) [
    | inl own ↦ removed_keys k own
    | inr told ↦ gone_within s n k told
  ]

  removed_within : (k : Key) → is_among k (marks_beside s (Cut id)) ≡ true → may_mark s (Cut id ∷ []) k ≡ true
  removed_within k mem = unplain_within s (Cut id) k (or_left (is_key s k) (is_key t k) (all_keys k (ap (is_among k) (sym marks_are) ∙ mem))) (ap is_plain (namespace_kind id.kind is))

  cut_law : (k : Key) → is_among k (marks_beside s (Cut id)) ≡ false → UsedSame s t k → IsSameFor s t k
  cut_law k out used =
      let none = sym (among_append k (removed_marks s n) reports) ∙ ap (is_among k) (sym marks_are) ∙ out in
      by_removed k (out_left (is_among k (removed_marks s n)) (is_among k reports) none) (out_right (is_among k (removed_marks s n)) (is_among k reports) none) used

-- a namespace that goes: a key that isn't marked wants what it wanted
pub removed_law : (s : State) (id : Id) → IsValid s → MayWriteAll s (Cut id ∷ []) → is_namespace id.kind ≡ true → (k : Key) → is_among k (marks_beside s (Cut id)) ≡ false → UsedSame s (state_after s (Cut id ∷ [])) k → IsSameFor s (state_after s (Cut id ∷ [])) k
removed_law s id valid may is k out used = cut_law s id valid may.each.0 is k out used

-- and only keys of the state are marked
pub within_removed : (s : State) (id : Id) → IsValid s → MayWriteAll s (Cut id ∷ []) → is_namespace id.kind ≡ true → (k : Key) → is_among k (marks_beside s (Cut id)) ≡ true → may_mark s (Cut id ∷ []) k ≡ true
within_removed s id valid may is k mem = removed_within s id valid may.each.0 is k mem
