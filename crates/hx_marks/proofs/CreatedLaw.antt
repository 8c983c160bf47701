-- The law of marks where a namespace is made.
--     created_law        a key that isn't marked wants what it wanted
--     within_created     only keys of the two states are marked
--     cut_there          what goes is there
use Rattle.std.proofs.Common.{◌≡◌, ◌≢◌, ℕ, Bool, true, false, ◌&&◌, ◌||◌, Option, Some, None, List, [], ◌∷◌, ◌++◌, option_map, refl, sym, ap, ◌∙◌, subst, inl, inr, true≢false, eqb}
use Rattle.std.specs.Prelude.{is_some, if◌then◌else◌, flat_map, filter}
use Rattle.std.specs.List.{AllByRecursion}
use Rattle.std.specs.Option.{option_map_or}
use Rattle.std.specs.Str.{bytes_eq}
use Rattle.std.proofs.lemmas.Bool.{and_parts, and_from, or_cases, or_left, or_right, cases_Bool, false_from_ne_true}
use Rattle.hx_object.specs.Kinds.{number_of, can_be_copied, is_namespace, is_plain}
use Rattle.hx_object.specs.declared.kind.Kind.{Kind}
use Rattle.hx_object.specs.declared.kind.Kind.TheVariants.{SubnamespaceAnchor}
use Rattle.hx_object.specs.declared.object.Id.{Id}
use Rattle.hx_object.specs.declared.object.Object.{Object}
use Rattle.hx_object.proofs.KindTests.{namespace_kind}
use Rattle.hx_model.specs.Cases.{is_leaving}
use Rattle.hx_model.specs.Covered.{IsSameFor}
use Rattle.hx_model.specs.Forest.{Forest, is_in, names_of, is_there, parent_of, chain_of, in_chain, subtree_of, is_child}
use Rattle.hx_model.specs.Keys.{is_among, has_named, is_name, is_key, may_mark}
use Rattle.hx_model.specs.Modes.{config_id}
use Rattle.hx_model.specs.Moves.{chain_from}
use Rattle.hx_model.specs.Serving.{IsServed}
use Rattle.hx_model.specs.State.{State, object_at, same_id, state_after, namespace_id, has_home}
use Rattle.hx_model.specs.Subnamespaces.{anchor_id}
use Rattle.hx_model.specs.Tree.{forest_of, hierarchy_id, node_in}
use Rattle.hx_model.specs.TreeLabels.{is_open}
use Rattle.hx_model.specs.Valid.{IsValid}
use Rattle.hx_model.specs.Wanted.{wanted_copy, wanted_child}
use Rattle.hx_model.specs.Writes.{HasPlace, MayPut, MayWriteAll}
use Rattle.hx_model.specs.declared.key.Key.{Key}
use Rattle.hx_model.specs.declared.key.Key.TheVariants as key
use Rattle.hx_model.specs.declared.key.Write.TheVariants.{Put, Cut}
use Rattle.hx_model.specs.declared.node.Node.{Node}
use Rattle.hx_model.proofs.Climbing.{is_same}
use Rattle.hx_model.proofs.Conflicting.{other_at}
use Rattle.hx_model.proofs.Objects.{is_same_id, found_id}
use Rattle.hx_model.proofs.Parents.{is_in_filter}
use Rattle.hx_model.proofs.Planting.{namespace_is_homed, node_of-objects}
use Rattle.hx_model.proofs.Storing.{All-put, All-found}
use Rattle.hx_model.proofs.Walking.{names_have}
use Rattle.hx_marks.specs.Law.{all_of, asking_keys, below_created, created_marks, marks_by, namespace_marks, namespace_reports, report_marks}
use Rattle.hx_marks.specs.Reports.{created_reports}
use Rattle.hx_marks.proofs.Among.{same_key_is, among_append, among_flat_map, found_object, passing_object, found_name, passing_name, out_left, out_right}
use Rattle.hx_marks.proofs.Asking.{asking_known, anchor_key, child_of_anchor, status_of_anchor}
use Rattle.hx_marks.proofs.CreatedChains.{made_not_open, made_below, made_tail}
use Rattle.hx_marks.proofs.CreatedReports.{report_made, reports_within}
use Rattle.hx_marks.proofs.Frames.{none_in_both, closed_wants, shut_child}
use Rattle.hx_marks.proofs.Growing.{wants_grow, wants_put}
use Rattle.hx_marks.proofs.Keeping.{without_child, without_status, staying_both}
use Rattle.hx_marks.proofs.MoveStates.{none_from}
use Rattle.hx_marks.proofs.OneMore.{HasOneMore, apart_copy, apart_tree, apart_child, apart_status, apart_purge, unasked}
use Rattle.hx_marks.proofs.OneMoreWrites.{found_put, put_more}
use Rattle.hx_marks.proofs.Parts.{UsedSame, marks_beside}
use Rattle.hx_marks.proofs.Replacing.{valid_served}
use Rattle.hx_marks.proofs.Wanting.{any_flat_map, wants_known, child_known, child_among, all_tree, all_wants, all_children, all_parts}
use Rattle.hx_marks.proofs.Within.{wants_named, child_key, unplain_within}

module _ (s : State) (x : Object) (valid : IsValid s) (may : MayPut s x) (is : is_namespace x.id.kind ≡ true) (absent : object_at s.objects x.id ≡ None) where
  abbrev t : State
  t = state_after s (Put x ∷ [])

  abbrev n : List ℕ
  n = x.id.name

  abbrev f : Forest
  f = forest_of s

  abbrev g : Forest
  g = forest_of t

  served : AllByRecursion IsServed s.objects
  served = valid_served s valid

  served_then : AllByRecursion IsServed t.objects
  served_then = All-put IsServed x s.objects may.served served

  -- the state has one namespace more
  more : HasOneMore s t n
  more = put_more s x valid may is absent

  absent_there : object_at s.objects (namespace_id n) ≡ None
  absent_there = ap (object_at s.objects) (sym (namespace_is_homed x may.served is)) ∙ absent

  -- what is found has a home
  homed : (q : Id) (y : Object) → object_at s.objects q ≡ Some y → has_home s.objects q ≡ true
  homed q y e = subst (λ (p : Id). has_home s.objects p ≡ true) (sym (found_id s.objects q y e)) (All-found (λ (z : Object). has_home s.objects z.id ≡ true) q y s.objects valid.housed e)

  -- so nothing lay in it
  nothing_at : (q : Id) → ((y : Object) → object_at s.objects q ≡ Some y → is_some (object_at s.objects (namespace_id n)) ≡ true) → object_at s.objects q ≡ None
  nothing_at q there = by (object_at s.objects q) refl
    where
      by : (o : Option Object) → object_at s.objects q ≡ o → o ≡ None
      by None e = refl
      by (Some y) e = absurd (true≢false (sym (there y e) ∙ ap is_some absent_there))

  bare : (name : List ℕ) → object_at s.objects (anchor_id n name) ≡ None
  bare name = nothing_at (anchor_id n name) (homed (anchor_id n name))

  untold : object_at s.objects (hierarchy_id n) ≡ None
  untold = nothing_at (hierarchy_id n) (homed (hierarchy_id n))

  -- and it isn't on its way out, before or then
  never_leaves : is_leaving f n ≡ false
  never_leaves = ap (λ o. option_map_or (λ (node : Node). node.terminating) o false) (node_of-objects s.config.excluded s.objects n served ∙ ap (option_map (node_in s.config.excluded s.objects)) absent_there)

  stays : is_leaving g n ≡ false
  stays =
      ap (λ o. option_map_or (λ (node : Node). node.terminating) o false) (node_of-objects s.config.excluded t.objects n served_then ∙ ap (option_map (node_in s.config.excluded t.objects)) (found_put s.objects x may.served is))
      ∙ subst (λ (o : Option Object). HasPlace o x) absent (may.place is)

  -- ---- namespaces whose chain has n

  abbrev whole : List ℕ → List (List ℕ)
  whole m = chain_of f m ++ n ∷ chain_from f (parent_of g n)

  abbrev opened : List Key
  opened = flat_map (λ m. all_of s.objects (whole m) m) (below_created f n)

  -- their keys are marked
  marked : (m : List ℕ) (k : Key) → in_chain g m n ≡ true → is_among k (all_of s.objects (whole m) m) ≡ true → is_among k opened ≡ true
  marked m k has mem = among_flat_map k (λ a. all_of s.objects (whole a) a) (below_created f n) ∙ passing_name (λ a. is_among k (all_of s.objects (whole a) a)) m (below_created f n) (made_below f g n more.made m has) mem

  copy_marked : (m : List ℕ) (kind : Kind) (name : List ℕ) → in_chain g m n ≡ true → wanted_copy t m kind name ≢ None → is_among (key.Copy m kind name) opened ≡ true
  copy_marked m kind name has wants =
      let k = key.Copy m kind name in
      let known = (wants_known t.objects (chain_of g m) m kind name (is_open g m) (object_at t.objects (namespace_id m)) wants).2 in
      let kept = wants_put s.objects x (ap can_be_copied (namespace_kind x.id.kind is)) absent (more.others config_id refl) (chain_of g m) m k known in
      marked m k has (all_wants s.objects (whole m) m k (wants_grow s.objects (chain_of g m) (whole m) (λ a. made_tail f g n more.made m a) m k kept))

  child_marked : (m name : List ℕ) → in_chain g m n ≡ true → wanted_child t m name ≢ None → is_among (key.Child m name) opened ≡ true
  child_marked m name has wants =
      let known = child_known (is_open g m) (object_at t.objects (anchor_id m name)) (is_in name s.config.excluded) (is_some (object_at t.objects (namespace_id name))) m name wants in
      marked m (key.Child m name) has (all_children s.objects (whole m) m (key.Child m name) (child_among s.objects m name known.1 (sym (more.others (anchor_id m name) refl) ∙ known.2)))

  abbrev reports : List Key
  reports = created_reports f n (parent_of g n)

  by_made : (k : Key) → is_among k opened ≡ false → is_among k (asking_keys s.objects n) ≡ false → is_among k reports ≡ false → UsedSame s t k → IsSameFor s t k
  by_made (key.Copy m kind name) out unnamed untouched used = elim (cases_Bool (in_chain g m n)) [
    | inl has ↦ none_in_both s t (key.Copy m kind name) (closed_wants s m kind name (made_not_open f g n more.made m has)) (none_from (wanted_copy t m kind name) (λ wants. true≢false (sym (copy_marked m kind name has wants) ∙ out)))
    | inr hasnt ↦ apart_copy s t n more m kind name hasnt
  ]
  by_made (key.Tree m) out unnamed untouched used = elim (cases_Bool (in_chain g m n)) [
    | inl has ↦ absurd (true≢false (sym (marked m (key.Tree m) has (all_tree s.objects (whole m) m)) ∙ out))
    | inr hasnt ↦ apart_tree s t n more m hasnt
  ]
  by_made (key.Report m) out unnamed untouched used = report_made s t n more untold served_then m untouched
  by_made (key.Child m name) out unnamed untouched used = elim (cases_Bool (in_chain g m n)) [
    | inl has ↦ none_in_both s t (key.Child m name) (shut_child s m name (made_not_open f g n more.made m has)) (none_from (wanted_child t m name) (λ wants. true≢false (sym (child_marked m name has wants) ∙ out)))
    | inr hasnt ↦ elim (cases_Bool (bytes_eq n name)) [
      | inl same ↦ let none = unasked s.objects n m name (key.Child m name) (child_of_anchor m name) unnamed same in without_child s t m name none (more.others (anchor_id m name) refl ∙ none)
      | inr off ↦ apart_child s t n more m name hasnt off
    ]
  ]
  by_made (key.Anchor m name) out unnamed untouched used = elim (cases_Bool (bytes_eq n m)) [
    | inl here ↦ let none = ap (λ (q : List ℕ). object_at s.objects (anchor_id q name)) (sym (is_same n m here)) ∙ bare name in without_status s t m name none (more.others (anchor_id m name) refl ∙ none)
    | inr off ↦ elim (cases_Bool (bytes_eq n name)) [
      | inl same ↦ let none = unasked s.objects n m name (key.Anchor m name) (status_of_anchor m name) unnamed same in without_status s t m name none (more.others (anchor_id m name) refl ∙ none)
      | inr other ↦ apart_status s t n more m name off other
    ]
  ]
  by_made (key.Used m name) out unnamed untouched used = used m name refl
  by_made (key.Purge m) out unnamed untouched used = elim (cases_Bool (bytes_eq n m)) [
    | inl here ↦ subst (λ (q : List ℕ). IsSameFor s t (key.Purge q)) (is_same n m here) (staying_both s t n never_leaves stays)
    | inr off ↦ apart_purge s t n more m off
  ]

  taken : (b : Bool) (u v : List Key) → b ≡ true → (if b then u else v) ≡ u
  taken true u v e = refl
  taken false u v e = absurd (true≢false (sym e))

  -- what is marked
  marks_are : marks_beside s (Put x) ≡ created_marks s n (parent_of g n) ++ reports
  marks_are = λ i. keys i ++ told i
    where
      keys : marks_by s t x.id (object_at s.objects x.id) (Some x) ≡ created_marks s n (parent_of g n)
      keys = taken (is_namespace x.id.kind) (namespace_marks s t n (object_at s.objects x.id) (Some x)) _ is ∙ ap (λ o. namespace_marks s t n o (Some x)) absent

      told : report_marks s t x.id (object_at s.objects x.id) (Some x) ≡ reports
      told = taken (is_namespace x.id.kind) (namespace_reports s t n (object_at s.objects x.id) (Some x)) _ is ∙ ap (λ o. namespace_reports s t n o (Some x)) absent

  -- ---- keys of the two states

  -- what may begin to take part is there then
  below_there : (m : List ℕ) → is_in m (below_created f n) ≡ true → is_there g m ≡ true
  below_there m mem = elim (or_cases (bytes_eq m n) (is_in m (flat_map (subtree_of f) (filter (is_child f n) (names_of f)))) mem) [
    | inl same ↦ ap (is_there g) (is_same m n same) ∙ more.made.made
    | inr below ↦
        let found = found_name (λ q. is_in m (subtree_of f q)) (filter (is_child f n) (names_of f)) (sym (any_flat_map (bytes_eq m) (subtree_of f) (filter (is_child f n) (names_of f))) ∙ below) in
        let named : is_in m (names_of f) ≡ true = (and_parts (is_in m (names_of f)) (in_chain f m found.0) (sym (is_in_filter (λ p. in_chain f p found.0) m (names_of f)) ∙ found.2)).0 in
        there_then m (names_have f m ∙ named)
  ]
    where
      there_then : (m : List ℕ) → is_there f m ≡ true → is_there g m ≡ true
      there_then m there =
          let off : bytes_eq n m ≡ false = false_from_ne_true (bytes_eq n m) (λ h. true≢false (sym there ∙ ap (is_there f) (sym (is_same n m h)) ∙ more.made.absent)) in
          ap is_some (more.made.others m off) ∙ there

  -- a name that an object has stays
  named_then : (kind : Kind) (name : List ℕ) → has_named s.objects kind name ≡ true → has_named t.objects kind name ≡ true
  named_then kind name h =
      let test : Object → Bool = λ y. (eqb (number_of kind) (number_of y.id.kind)) && bytes_eq name y.id.name in
      let found = found_object test s.objects valid.in_order h in
      passing_object test t.objects found.0.id found.0
      (other_at x s.objects found.0.id (false_from_ne_true (same_id found.0.id x.id) (λ h. true≢false (ap is_some (sym found.1 ∙ ap (object_at s.objects) (is_same_id found.0.id x.id h) ∙ absent)))) ∙ found.1)
      found.2

  opened_within : (k : Key) → is_among k opened ≡ true → (is_key s k || is_key t k) ≡ true
  opened_within k mem =
      let found = found_name (λ a. is_among k (all_of s.objects (whole a) a)) (below_created f n) (sym (among_flat_map k (λ a. all_of s.objects (whole a) a) (below_created f n)) ∙ mem) in
      let m = found.0 in
      let there : is_name t m ≡ true = or_left (is_there g m) (has_named t.objects SubnamespaceAnchor m) (below_there m found.1) in
      elim (all_parts s.objects (whole m) m k found.2) [
        | inl tree ↦ or_right (is_key s k) (is_key t k) (ap (is_key t) (same_key_is k (key.Tree m) tree) ∙ there)
        | inr (inl copy) ↦
            let form = wants_named s.objects (whole m) m k copy in
            or_right (is_key s k) (is_key t k)
            (ap (is_key t) form.2 ∙ and_from (is_name t m) (can_be_copied form.0 && has_named t.objects form.0 form.1) there (and_from (can_be_copied form.0) (has_named t.objects form.0 form.1) form.3 (named_then form.0 form.1 form.4)))
        | inr (inr child) ↦ or_left (is_key s k) (is_key t k) (child_key s m k child)
      ]

  made_within : (k : Key) → is_among k (created_marks s n (parent_of g n)) ≡ true → (is_key s k || is_key t k) ≡ true
  made_within k mem = elim (or_cases (is_among k opened) (is_among k (asking_keys s.objects n)) (sym (among_append k opened (asking_keys s.objects n)) ∙ mem)) [
    | inl below ↦ opened_within k below
    | inr asks ↦ let found = asking_known s.objects n k valid.in_order asks in or_left (is_key s k) (is_key t k) (anchor_key s found.0 n found.1 k found.2 found.3)
  ]

  all_within : (k : Key) → is_among k (created_marks s n (parent_of g n) ++ reports) ≡ true → (is_key s k || is_key t k) ≡ true
  all_within k mem = elim (or_cases (is_among k (created_marks s n (parent_of g n))) (is_among k reports) (sym (among_append k (created_marks s n (parent_of g n)) reports) ∙ mem)) [
    | inl below ↦ made_within k below
    | inr told ↦ reports_within s t n more k told
  ]

  marked_within : (k : Key) → is_among k (marks_beside s (Put x)) ≡ true → may_mark s (Put x ∷ []) k ≡ true
  marked_within k mem = unplain_within s (Put x) k (all_within k (ap (is_among k) (sym marks_are) ∙ mem)) (ap is_plain (namespace_kind x.id.kind is))

  put_law : (k : Key) → is_among k (marks_beside s (Put x)) ≡ false → UsedSame s t k → IsSameFor s t k
  put_law k out used =
      let none = sym (among_append k (created_marks s n (parent_of g n)) reports) ∙ ap (is_among k) (sym marks_are) ∙ out in
      let unmarked = sym (among_append k opened (asking_keys s.objects n)) ∙ out_left (is_among k (created_marks s n (parent_of g n))) (is_among k reports) none in
      by_made k
      (out_left (is_among k opened) (is_among k (asking_keys s.objects n)) unmarked)
      (out_right (is_among k opened) (is_among k (asking_keys s.objects n)) unmarked)
      (out_right (is_among k (created_marks s n (parent_of g n))) (is_among k reports) none)
      used

-- what goes is there
pub cut_there : (s : State) (id : Id) → MayWriteAll s (Cut id ∷ []) → object_at s.objects id ≡ None → ⊥
cut_there s id may absent = true≢false (ap is_some (sym may.each.0.there.1 ∙ absent))

-- a namespace that is made: a key that isn't marked wants what it wanted
pub created_law : (s : State) (x : Object) → IsValid s → MayWriteAll s (Put x ∷ []) → is_namespace x.id.kind ≡ true → object_at s.objects x.id ≡ None
    → (k : Key) → is_among k (marks_beside s (Put x)) ≡ false → UsedSame s (state_after s (Put x ∷ [])) k → IsSameFor s (state_after s (Put x ∷ [])) k
created_law s x valid may is absent k out used = put_law s x valid may.each.0 is absent k out used

-- and only keys of the two states are marked
pub within_created : (s : State) (x : Object) → IsValid s → MayWriteAll s (Put x ∷ []) → is_namespace x.id.kind ≡ true → object_at s.objects x.id ≡ None
    → (k : Key) → is_among k (marks_beside s (Put x)) ≡ true → may_mark s (Put x ∷ []) k ≡ true
within_created s x valid may is absent k mem = marked_within s x valid may.each.0 is absent k mem
