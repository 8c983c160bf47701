-- Reports where a namespace is made: the state t has one namespace n more than s.
--     report_made        the report that isn't marked wants what it wanted
--     reports_within     only keys of the two states are marked
use Rattle.std.proofs.Common.{◌≡◌, ℕ, Bool, true, false, ◌&&◌, ◌||◌, Option, Some, None, List, [], ◌∷◌, ◌++◌, refl, sym, ap, ◌∙◌, subst, inl, inr, true≢false}
use Rattle.std.specs.Prelude.{is_some, is_none, if◌then◌else◌}
use Rattle.std.specs.List.{AllByRecursion, list_any}
use Rattle.std.specs.Option.{option_map_or}
use Rattle.std.specs.Str.{bytes_eq}
use Rattle.std.proofs.lemmas.Bool.{and_parts, or_cases, or_left, or_right, cases_Bool, false_from_ne_true}
use Rattle.hx_object.specs.declared.kind.Kind.TheVariants.{SubnamespaceAnchor}
use Rattle.hx_object.specs.declared.object.Object.{Object}
use Rattle.hx_model.specs.Covered.{IsSameFor}
use Rattle.hx_model.specs.First.{so, first}
use Rattle.hx_model.specs.Forest.{Forest, is_in, is_there, parent_of, chain_of, in_chain, children_of, is_child, halt_of, own_halt_of, tail_of}
use Rattle.hx_model.specs.Keys.{same_key, is_among, has_named, is_key}
use Rattle.hx_model.specs.Moves.{is_eligible}
use Rattle.hx_model.specs.Propagation.{as_list}
use Rattle.hx_model.specs.Reports.{conditions_by, misses_anchor, report_write}
use Rattle.hx_model.specs.Serving.{IsServed}
use Rattle.hx_model.specs.State.{State, object_at, namespace_id}
use Rattle.hx_model.specs.Subnamespaces.{anchor_id}
use Rattle.hx_model.specs.Tree.{forest_of, hierarchy_id, subnamespace_parent}
use Rattle.hx_model.specs.Wanted.{wanted_report}
use Rattle.hx_model.specs.declared.key.Key.{Key}
use Rattle.hx_model.specs.declared.key.Key.TheVariants as key
use Rattle.hx_model.specs.declared.node.Halt.TheVariants.{Ancestor}
use Rattle.hx_model.proofs.Climbing.{is_same, same_itself}
use Rattle.hx_model.proofs.Opening.{not_live}
use Rattle.hx_model.proofs.Parents.{chain_alone, swap_same}
use Rattle.hx_marks.specs.Below.{below_children}
use Rattle.hx_marks.specs.Reports.{reports_of, created_reports, has_any}
use Rattle.hx_marks.proofs.Among.{same_key_is, among_append, among_here, among_cond, out_left, out_right}
use Rattle.hx_marks.proofs.CreatedChains.{own_by, in_rest, made_below}
use Rattle.hx_marks.proofs.Frames.{none_in_both}
use Rattle.hx_marks.proofs.OneMore.{HasOneMore, noted, apart_report, children_same}
use Rattle.hx_marks.proofs.OneMoreHalting.{named, eligible_there, eligible_live, child_below, halt_apart}
use Rattle.hx_marks.proofs.Reporting.{silent_wants, report_among, reports_known}

-- ---- a namespace that has nothing to tell

-- it isn't halted, where it has no parent
root_runs : (f : Forest) (n : List ℕ) → is_there f n ≡ true → parent_of f n ≡ None → halt_of f n ≡ None
root_runs f n there alone = own ∙ later
  where
    own : halt_of f n ≡ so (list_any (λ a. is_some (own_halt_of f a)) (tail_of (chain_of f n))) Ancestor
    own = ap (λ o. first (own_by f n o ∷ so (list_any (λ a. is_some (own_halt_of f a)) (tail_of (chain_of f n))) Ancestor ∷ [])) alone ∙ only (list_any (λ a. is_some (own_halt_of f a)) (tail_of (chain_of f n)))
      where
        only : (b : Bool) → first (so b Ancestor ∷ []) ≡ so b Ancestor
        only true = refl
        only false = refl

    later : so (list_any (λ a. is_some (own_halt_of f a)) (tail_of (chain_of f n))) Ancestor ≡ None
    later = ap (λ xs. so (list_any (λ a. is_some (own_halt_of f a)) (tail_of xs)) Ancestor) (chain_alone f n there alone)

-- nothing is written
nothing_told : (takes : Bool) (n : List ℕ) → report_write takes None [] [] n ≡ None
nothing_told true n = refl
nothing_told false n = refl

none_any : (xs : List (List ℕ)) → has_any xs ≡ false → xs ≡ []
none_any [] e = refl
none_any (x ∷ xs) e = absurd (true≢false e)

none_some : (o : Option (List ℕ)) → is_some o ≡ false → o ≡ None
none_some None e = refl
none_some (Some p) e = absurd (true≢false e)

-- ---- the two states

module _ (s t : State) (n : List ℕ) (more : HasOneMore s t n) where
  abbrev f : Forest
  f = forest_of s

  abbrev g : Forest
  g = forest_of t

  abbrev own : Bool
  own = is_some (parent_of g n) || has_any (children_of f n)

  abbrev near : List Key
  near = reports_of f (as_list (parent_of g n))

  abbrev far : List Key
  far = reports_of f (below_children f n)

  abbrev all : List Key
  all = created_reports f n (parent_of g n)

  -- a key among the marks is of one of three lists
  split : (k : Key) → is_among k all ≡ (own && is_among k (key.Report n ∷ []) || (is_among k near || is_among k far))
  split k =
      among_append k (if own then key.Report n ∷ [] else []) (near ++ far)
      ∙ (λ i. among_cond k own (key.Report n ∷ []) i || among_append k near far i)

  -- ---- n itself

  module _ (untold : object_at s.objects (hierarchy_id n) ≡ None) (served : AllByRecursion IsServed t.objects) where
    -- where it has no parent and no children, it has nothing to tell
    own_silent : parent_of g n ≡ None → children_of f n ≡ [] → wanted_report t n ≡ None
    own_silent alone childless = (λ i. report_write (is_eligible g n) (found i) (children i) (conditions_by (halts i) (misses i)) n) ∙ nothing_told (is_eligible g n) n
      where
        found : object_at t.objects (hierarchy_id n) ≡ None
        found = more.others (hierarchy_id n) refl ∙ untold

        children : children_of g n ≡ []
        children = children_same s t n more n (ap (λ o. option_map_or (bytes_eq n) o false) alone) ∙ childless

        halts : halt_of g n ≡ None
        halts = root_runs g n more.made.made alone

        by_note : (x : Object) (note : Option (List ℕ)) → object_at t.objects (namespace_id n) ≡ Some x → subnamespace_parent x ≡ note
            → option_map_or (λ p. is_some (object_at t.objects (namespace_id p)) && is_none (object_at t.objects (anchor_id p n))) note false ≡ false
        by_note x None there note = refl
        by_note x (Some p) there note = absurd (true≢false (ap is_some (sym (noted t served n p x there note) ∙ alone)))

        by : (o : Option Object) → object_at t.objects (namespace_id n) ≡ o → option_map_or (misses_anchor t.objects n) o false ≡ false
        by None there = refl
        by (Some x) there = by_note x (subnamespace_parent x) there refl

        misses : option_map_or (misses_anchor t.objects n) (object_at t.objects (namespace_id n)) false ≡ false
        misses = by (object_at t.objects (namespace_id n)) refl

    own_same : own ≡ false → IsSameFor s t (key.Report n)
    own_same none =
        none_in_both s t (key.Report n)
        (silent_wants s n (eligible_live f n (not_live f n more.made.absent)))
        (own_silent (none_some (parent_of g n) (out_left (is_some (parent_of g n)) (has_any (children_of f n)) none)) (none_any (children_of f n) (out_right (is_some (parent_of g n)) (has_any (children_of f n)) none)))

    -- ---- all reports

    pub report_made : (m : List ℕ) → is_among (key.Report m) all ≡ false → IsSameFor s t (key.Report m)
    report_made m out = elim (cases_Bool (bytes_eq n m)) [
      | inl here ↦ subst (λ (q : List ℕ). IsSameFor s t (key.Report q)) (is_same n m here) (own_same (unmarked here))
      | inr off ↦ apart_report s t n more m off (λ eligible. (above eligible, below eligible off, halt_apart f g n more.made m (there eligible off) (away eligible off)))
    ]
      where
        out_own : (own && is_among (key.Report m) (key.Report n ∷ [])) ≡ false
        out_own = out_left _ (is_among (key.Report m) near || is_among (key.Report m) far) (sym (split (key.Report m)) ∙ out)

        out_rest : (is_among (key.Report m) near || is_among (key.Report m) far) ≡ false
        out_rest = out_right (own && is_among (key.Report m) (key.Report n ∷ [])) _ (sym (split (key.Report m)) ∙ out)

        unmarked : bytes_eq n m ≡ true → own ≡ false
        unmarked here = false_from_ne_true own (λ h. true≢false (sym (own_marked h) ∙ out_own))
          where
            own_marked : own ≡ true → (own && is_among (key.Report m) (key.Report n ∷ [])) ≡ true
            own_marked h = ap (λ b. b && is_among (key.Report m) (key.Report n ∷ [])) h ∙ subst (λ (q : List ℕ). is_among (key.Report q) (key.Report n ∷ []) ≡ true) (is_same n m here) (among_here (key.Report n) [])

        there : is_eligible f m ≡ true → bytes_eq n m ≡ false → is_there g m ≡ true
        there eligible off = ap is_some (more.made.others m off) ∙ eligible_there f m eligible

        -- its parent's report is marked
        above : is_eligible f m ≡ true → is_child g m n ≡ false
        above eligible = false_from_ne_true (is_child g m n) (λ h.
            let mem : is_in m (as_list (parent_of g n)) ≡ true = ap (λ o. is_in m (as_list o)) (named g m n h) ∙ or_left (bytes_eq m m) false (same_itself m) in
            true≢false (sym (or_left (is_among (key.Report m) near) (is_among (key.Report m) far) (report_among f (as_list (parent_of g n)) m eligible mem)) ∙ out_rest))

        -- and what waited for it below
        away : is_eligible f m ≡ true → bytes_eq n m ≡ false → in_chain g m n ≡ false
        away eligible off = false_from_ne_true (in_chain g m n) (λ h.
            let mem : is_in m (below_children f n) ≡ true = in_rest m n (below_children f n) (swap_same n m off) (made_below f g n more.made m h) in
            true≢false (sym (or_right (is_among (key.Report m) near) (is_among (key.Report m) far) (report_among f (below_children f n) m eligible mem)) ∙ out_rest))

        below : is_eligible f m ≡ true → bytes_eq n m ≡ false → is_child g n m ≡ false
        below eligible off = false_from_ne_true (is_child g n m) (λ h. true≢false (sym (child_below f g n more.made m (there eligible off) h) ∙ away eligible off))

  -- ---- keys of the two states

  known_name : (k : Key) (names : List (List ℕ)) → is_among k (reports_of f names) ≡ true → is_key s k ≡ true
  known_name k names mem =
      let known = reports_known f names k mem in
      ap (is_key s) known.1 ∙ or_left (is_there f known.0) (has_named s.objects SubnamespaceAnchor known.0) (eligible_there f known.0 known.2)

  pub reports_within : (k : Key) → is_among k all ≡ true → (is_key s k || is_key t k) ≡ true
  reports_within k mem = elim (or_cases (own && is_among k (key.Report n ∷ [])) (is_among k near || is_among k far) (sym (split k) ∙ mem)) [
    | inl itself ↦
        let parts = and_parts own (is_among k (key.Report n ∷ [])) itself in
        elim (or_cases (same_key k (key.Report n)) false parts.1) [
          | inl same ↦ or_right (is_key s k) (is_key t k) (ap (is_key t) (same_key_is k (key.Report n) same) ∙ or_left (is_there g n) (has_named t.objects SubnamespaceAnchor n) more.made.made)
          | inr never ↦ absurd (true≢false (sym never))
        ]
    | inr others ↦ elim (or_cases (is_among k near) (is_among k far) others) [
      | inl up ↦ or_left (is_key s k) (is_key t k) (known_name k (as_list (parent_of g n)) up)
      | inr down ↦ or_left (is_key s k) (is_key t k) (known_name k (below_children f n) down)
    ]
  ]
