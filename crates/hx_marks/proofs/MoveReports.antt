-- What a HierarchyConfiguration that is written changes for reports, and that it is marked.
--     report_out         a report that isn't marked isn't that of n
--     found_apart        nor is the object that is written that of its namespace
--     report_kept        where the tree stays, a report whose object isn't the one that is written wants the same
--     report_moved       where a namespace gets another parent, a report that isn't marked wants the same
--     placed_known       what is marked is a report of a namespace that is there
use Rattle.std.proofs.Common.{◌≡◌, ℕ, Bool, true, false, not, ◌&&◌, Option, Some, None, List, [], ◌∷◌, ◌++◌, filter, refl, sym, ap, ◌∙◌, subst, inl, inr, true≢false}
use Rattle.std.specs.Prelude.{is_some, is_none, if◌then◌else◌}
use Rattle.std.specs.List.{list_all}
use Rattle.std.specs.Option.{option_map_or}
use Rattle.std.specs.Str.{bytes_eq}
use Rattle.std.proofs.lemmas.Bool.{and_parts, or_cases, or_left, cases_Bool, false_from_ne_true}
use Rattle.hx_object.specs.Kinds.{is_hierarchy}
use Rattle.hx_object.specs.declared.object.Id.{Id}
use Rattle.hx_object.specs.declared.object.Object.{Object}
use Rattle.hx_model.specs.Cases.{same_name}
use Rattle.hx_model.specs.Covered.{IsSameFor}
use Rattle.hx_model.specs.First.{so, first}
use Rattle.hx_model.specs.Forest.{Forest, is_in, is_there, parent_of, is_child, children_of, chain_of, in_chain, comes_back, halt_of, with_parent}
use Rattle.hx_model.specs.Keys.{is_among}
use Rattle.hx_model.specs.Moves.{up_to, chain_from, is_eligible}
use Rattle.hx_model.specs.Propagation.{as_list}
use Rattle.hx_model.specs.Reports.{conditions_by, misses_anchor}
use Rattle.hx_model.specs.State.{State, Objects, object_at, same_id, namespace_id}
use Rattle.hx_model.specs.Subnamespaces.{anchor_id}
use Rattle.hx_model.specs.Tree.{hierarchy, hierarchy_id, subnamespace_parent, forest_in, forest_of}
use Rattle.hx_model.specs.TreeLabels.{is_open}
use Rattle.hx_model.specs.Windows.{WindowView}
use Rattle.hx_model.specs.declared.key.Key.{Key}
use Rattle.hx_model.specs.declared.key.Key.TheVariants as key
use Rattle.hx_model.specs.declared.node.Halt.TheVariants.{Ancestor}
use Rattle.hx_model.proofs.Climbing.{is_same, same_itself}
use Rattle.hx_model.proofs.Displacing.{KeepsOthers}
use Rattle.hx_model.proofs.Moving.{moved_names, moved_parent, other_parent}
use Rattle.hx_model.proofs.Objects.{is_same_id}
use Rattle.hx_model.proofs.Opening.{moved_eligible, moved_open_same}
use Rattle.hx_marks.specs.Before.{comes_back_by}
use Rattle.hx_marks.specs.Below.{differ, live_below}
use Rattle.hx_marks.specs.Reports.{report_keys, reports_of, ring_reports, moved_reports, placed_reports}
use Rattle.hx_marks.proofs.Among.{among_here, among_append, out_left, out_right}
use Rattle.hx_marks.proofs.MoveBelow.{moved_has, live_in}
use Rattle.hx_marks.proofs.MoveChains.{live_there}
use Rattle.hx_marks.proofs.MoveHalting.{halt_by_open, ring_of, ring_closes, own_moved, back_outside, open_moved_under}
use Rattle.hx_marks.proofs.MoveStates.{other_kind}
use Rattle.hx_marks.proofs.Reporting.{silent_report, same_report, report_among, reports_known}
use Rattle.hx_marks.proofs.TakingPart.{open_under}

-- ---- reports that aren't marked

-- a eligible namespace is there
pub eligible_there : (f : Forest) (m : List ℕ) → is_eligible f m ≡ true → is_there f m ≡ true
eligible_there f m eligible = live_there f m (and_parts _ _ eligible).0

own_report : (f : Forest) (m : List ℕ) → is_eligible f m ≡ true → is_among (key.Report m) (report_keys f m) ≡ true
own_report f m eligible = ap (λ b. is_among (key.Report m) (if b then key.Report m ∷ [] else [])) eligible ∙ among_here (key.Report m) []

-- one that isn't marked isn't that of n
pub report_out : (f : Forest) (n m : List ℕ) → is_eligible f m ≡ true → is_among (key.Report m) (report_keys f n) ≡ false → bytes_eq n m ≡ false
report_out f n m eligible out = false_from_ne_true (bytes_eq n m) (λ h. true≢false (sym (own_report f m eligible) ∙ ap (λ (a : List ℕ). is_among (key.Report m) (report_keys f a)) (sym (is_same n m h)) ∙ out))

left_out : (k : Key) (xs ys : List Key) → is_among k (xs ++ ys) ≡ false → is_among k xs ≡ false
left_out k xs ys out = out_left (is_among k xs) (is_among k ys) (sym (among_append k xs ys) ∙ out)

right_out : (k : Key) (xs ys : List Key) → is_among k (xs ++ ys) ≡ false → is_among k ys ≡ false
right_out k xs ys out = out_right (is_among k xs) (is_among k ys) (sym (among_append k xs ys) ∙ out)

none_among : (f : Forest) (names : List (List ℕ)) (m : List ℕ) → is_eligible f m ≡ true → is_among (key.Report m) (reports_of f names) ≡ false → is_in m names ≡ false
none_among f names m eligible out = false_from_ne_true (is_in m names) (λ h. true≢false (sym (report_among f names m eligible h) ∙ out))

-- the name isn't n, and is neither parent's; it is on no ring that opens or closes, and doesn't begin or end to take part with n
record IsBeside (f : Forest) (n m : List ℕ) (old new : Option (List ℕ)) (before after : Bool) : Type 0 where
  pub apart : bytes_eq n m ≡ false
  pub old_apart : option_map_or (bytes_eq m) old false ≡ false
  pub new_apart : option_map_or (bytes_eq m) new false ≡ false
  pub opens : comes_back_by f n old ≡ true → is_in m (chain_from f old) ≡ false
  pub closes : comes_back_by f n new ≡ true → is_in m (chain_from f new) ≡ false
  pub lives : differ before after ≡ true → is_in m (live_below f n) ≡ false

beside : (f : Forest) (n m : List ℕ) (old new : Option (List ℕ)) (before after : Bool) → is_eligible f m ≡ true → is_among (key.Report m) (moved_reports f n old new before after) ≡ false → IsBeside f n m old new before after
beside f n m old new before after eligible out =
    let below = if differ before after then reports_of f (live_below f n) else [] in
    let out1 = right_out (key.Report m) (report_keys f n) _ out in
    let out2 = right_out (key.Report m) (reports_of f (as_list old)) _ out1 in
    let out3 = right_out (key.Report m) (reports_of f (as_list new)) _ out2 in
    let out4 = right_out (key.Report m) (ring_reports f n old) _ out3 in
    record {
      apart = report_out f n m eligible (left_out (key.Report m) (report_keys f n) _ out);
      old_apart = no_parent old (none_among f (as_list old) m eligible (left_out (key.Report m) (reports_of f (as_list old)) _ out1));
      new_apart = no_parent new (none_among f (as_list new) m eligible (left_out (key.Report m) (reports_of f (as_list new)) _ out2));
      opens = no_ring old (left_out (key.Report m) (ring_reports f n old) _ out3);
      closes = no_ring new (left_out (key.Report m) (ring_reports f n new) below out4);
      lives = no_live (differ before after) (right_out (key.Report m) (ring_reports f n new) below out4);
    }
  where
    no_parent : (next : Option (List ℕ)) → is_in m (as_list next) ≡ false → option_map_or (bytes_eq m) next false ≡ false
    no_parent None none = refl
    no_parent (Some p) none = out_left (bytes_eq m p) false none

    no_ring : (next : Option (List ℕ)) → is_among (key.Report m) (ring_reports f n next) ≡ false → comes_back_by f n next ≡ true → is_in m (chain_from f next) ≡ false
    no_ring next none back = none_among f (chain_from f next) m eligible (sym (ap (λ b. is_among (key.Report m) (if b then reports_of f (chain_from f next) else [])) back) ∙ none)

    no_live : (b : Bool) → is_among (key.Report m) (if b then reports_of f (live_below f n) else []) ≡ false → b ≡ true → is_in m (live_below f n) ≡ false
    no_live b none is = none_among f (live_below f n) m eligible (sym (ap (λ c. is_among (key.Report m) (if c then reports_of f (live_below f n) else [])) is) ∙ none)

-- ---- what the tree tells of a namespace

and_false : (a : Bool) → (a && false) ≡ false
and_false true = refl
and_false false = refl

module _ (f : Forest) (n : List ℕ) (parent : Option (List ℕ)) (there : is_there f n ≡ true) (m : List ℕ) (eligible : is_eligible f m ≡ true)
    (free : IsBeside f n m (parent_of f n) parent (is_open f n) (is_open (with_parent n parent f) n)) where
  abbrev g : Forest
  g = with_parent n parent f

  child_same : (x : List ℕ) → is_child g m x ≡ is_child f m x
  child_same x = elim (cases_Bool (bytes_eq n x)) [
    | inr apart ↦ ap (λ o. option_map_or (bytes_eq m) o false) (other_parent f n parent x apart)
    | inl here ↦
        subst (λ (y : List ℕ). is_child g m y ≡ is_child f m y) (is_same n x here)
        (ap (λ o. option_map_or (bytes_eq m) o false) (moved_parent f n parent there) ∙ free.new_apart ∙ sym free.old_apart)
  ]

  -- the same children
  children_same : children_of g m ≡ children_of f m
  children_same i = filter (λ x. child_same x i) (moved_names f n parent i)

  -- it comes back to itself as before
  back_same : comes_back g m ≡ comes_back f m
  back_same = elim (cases_Bool (in_chain f m n)) [
    | inr out ↦ back_outside f n parent m free.apart (eligible_there f m eligible) out
    | inl has ↦
        false_from_ne_true (comes_back g m) (λ h.
        let ring = ring_of g n m (moved_has f n parent m has) free.apart h in
        let closed = ring_closes f n parent m there free.apart ring.0 ring.1 in
        true≢false (sym closed.1 ∙ free.closes closed.0))
        ∙ sym (false_from_ne_true (comes_back f m) (λ h. let ring = ring_of f n m has free.apart h in true≢false (sym ring.1 ∙ free.opens ring.0)))
  ]

  -- where n begins or ends to take part, one up to n isn't eligible
  wild : in_chain f m n ≡ true → differ (is_open f n) (is_open g n) ≡ true → list_all (is_eligible f) (up_to n (chain_of f m)) ≡ false
  wild has turns = false_from_ne_true (list_all (is_eligible f) (up_to n (chain_of f m))) (λ h. true≢false (sym (live_in f n m (eligible_there f m eligible) has h) ∙ free.lives turns))

  -- it takes part as before
  open_same : is_open g m ≡ is_open f m
  open_same = elim (cases_Bool (in_chain f m n)) [
    | inr out ↦ moved_open_same f n parent m out
    | inl has ↦ open_moved_under f n parent m there has ∙ top has (is_open f n) (is_open g n) refl refl ∙ sym (open_under f n m has)
  ]
    where
      top : in_chain f m n ≡ true → (before after : Bool) → is_open f n ≡ before → is_open g n ≡ after
          → (list_all (is_eligible f) (up_to n (chain_of f m)) && after) ≡ (list_all (is_eligible f) (up_to n (chain_of f m)) && before)
      top has true true b a = refl
      top has false false b a = refl
      top has true false b a = ap (λ c. c && false) (wild has (λ i. differ (b i) (a i))) ∙ sym (ap (λ c. c && true) (wild has (λ i. differ (b i) (a i))))
      top has false true b a = ap (λ c. c && true) (wild has (λ i. differ (b i) (a i))) ∙ sym (ap (λ c. c && false) (wild has (λ i. differ (b i) (a i))))

  -- why it is halted
  halt_same : halt_of g m ≡ halt_of f m
  halt_same =
      halt_by_open g m (moved_eligible f n parent m ∙ eligible)
      ∙ (λ i. first (own_moved f n parent m free.apart back_same i ∷ so (not (open_same i)) Ancestor ∷ []))
      ∙ sym (halt_by_open f m eligible)

-- ---- states

-- the object of its report is another one
pub found_apart : (id : Id) (m : List ℕ) → bytes_eq id.ns m ≡ false → same_id (hierarchy_id m) id ≡ false
found_apart id m apart = false_from_ne_true (same_id (hierarchy_id m) id) (λ h. true≢false (sym (ap (λ (q : Id). bytes_eq q.ns m) (sym (is_same_id (hierarchy_id m) id h)) ∙ same_itself m) ∙ apart))

pub found_named : (id : Id) (m : List ℕ) → bytes_eq id.name hierarchy ≡ false → same_id (hierarchy_id m) id ≡ false
found_named id m other = false_from_ne_true (same_id (hierarchy_id m) id) (λ h. true≢false (sym (ap (λ (q : Id). bytes_eq q.name hierarchy) (sym (is_same_id (hierarchy_id m) id h)) ∙ same_itself hierarchy) ∙ other))

module _ (s : State) (id : Id) (is : is_hierarchy id.kind ≡ true) (new : Objects) (last : ℕ) (window : WindowView) (keeps : KeepsOthers id s.objects new) (m : List ℕ) where
  abbrev after : State
  after = record s { objects = new; last = last; window = window }

  -- that it misses its anchor
  missed : option_map_or (misses_anchor new m) (object_at new (namespace_id m)) false ≡ option_map_or (misses_anchor s.objects m) (object_at s.objects (namespace_id m)) false
  missed i =
      option_map_or
      (λ (x : Object). option_map_or (λ p. is_some (other_kind s id is new last window keeps (namespace_id p) refl i) && is_none (other_kind s id is new last window keeps (anchor_id p m) refl i)) (subnamespace_parent x) false)
      (other_kind s id is new last window keeps (namespace_id m) refl i) false

  by_tree : (g : Forest) → forest_in s.config.excluded new ≡ g → same_id (hierarchy_id m) id ≡ false
      → is_eligible g m ≡ is_eligible (forest_of s) m → children_of g m ≡ children_of (forest_of s) m → halt_of g m ≡ halt_of (forest_of s) m → IsSameFor s after (key.Report m)
  by_tree g tree apart eligible children halts =
      same_report s after m (ap (λ (h : Forest). is_eligible h m) tree ∙ eligible) (keeps (hierarchy_id m) apart) (other_kind s id is new last window keeps (namespace_id m) refl)
      (ap (λ (h : Forest). children_of h m) tree ∙ children)
      (λ i. conditions_by ((ap (λ (h : Forest). halt_of h m) tree ∙ halts) i) (missed i))

  -- where the tree stays
  pub report_kept : forest_in s.config.excluded new ≡ forest_of s → (is_eligible (forest_of s) m ≡ true → same_id (hierarchy_id m) id ≡ false) → IsSameFor s after (key.Report m)
  report_kept tree apart = elim (cases_Bool (is_eligible (forest_of s) m)) [
    | inl eligible ↦ by_tree (forest_of s) tree (apart eligible) refl refl refl
    | inr wild ↦ silent_report s after m wild (ap (λ (h : Forest). is_eligible h m) tree ∙ wild)
  ]

  -- where its namespace gets another parent
  pub report_moved : (parent : Option (List ℕ)) → is_there (forest_of s) id.ns ≡ true → forest_in s.config.excluded new ≡ with_parent id.ns parent (forest_of s)
      → is_among (key.Report m) (moved_reports (forest_of s) id.ns (parent_of (forest_of s) id.ns) parent (is_open (forest_of s) id.ns) (is_open (with_parent id.ns parent (forest_of s)) id.ns)) ≡ false
      → IsSameFor s after (key.Report m)
  report_moved parent there tree out = elim (cases_Bool (is_eligible (forest_of s) m)) [
    | inr wild ↦ silent_report s after m wild (ap (λ (h : Forest). is_eligible h m) tree ∙ moved_eligible (forest_of s) id.ns parent m ∙ wild)
    | inl eligible ↦
        let free = beside (forest_of s) id.ns m (parent_of (forest_of s) id.ns) parent (is_open (forest_of s) id.ns) (is_open (with_parent id.ns parent (forest_of s)) id.ns) eligible out in
        by_tree (with_parent id.ns parent (forest_of s)) tree (found_apart id m free.apart) (moved_eligible (forest_of s) id.ns parent m)
        (children_same (forest_of s) id.ns parent there m eligible free) (halt_same (forest_of s) id.ns parent there m eligible free)
  ]

-- ---- keys

-- it is a report of a namespace that is there
abbrev pub IsReport : Forest → Key → Type 0
IsReport f k = (m : List ℕ) × (k ≡ key.Report m) × (is_there f m ≡ true)

module _ (f : Forest) (k : Key) where
  among_these : (names : List (List ℕ)) → is_among k (reports_of f names) ≡ true → IsReport f k
  among_these names mem = let found = reports_known f names k mem in (found.0, found.1, eligible_there f found.0 found.2)

  own_known : (n : List ℕ) → is_among k (report_keys f n) ≡ true → IsReport f k
  own_known n mem = among_these (n ∷ []) (among_append k (report_keys f n) [] ∙ or_left (is_among k (report_keys f n)) false mem)

  either : (xs ys : List Key) → (is_among k xs ≡ true → IsReport f k) → (is_among k ys ≡ true → IsReport f k) → is_among k (xs ++ ys) ≡ true → IsReport f k
  either xs ys left right mem = elim (or_cases (is_among k xs) (is_among k ys) (sym (among_append k xs ys) ∙ mem)) [
    | inl here ↦ left here
    | inr later ↦ right later
  ]

  among_cases : (b : Bool) (names : List (List ℕ)) → is_among k (if b then reports_of f names else []) ≡ true → IsReport f k
  among_cases true names mem = among_these names mem
  among_cases false names mem = absurd (true≢false (sym mem))

  moved_known : (n : List ℕ) (old new : Option (List ℕ)) (before after : Bool) → is_among k (moved_reports f n old new before after) ≡ true → IsReport f k
  moved_known n old new before after =
      either (report_keys f n) _ (own_known n)
      (either (reports_of f (as_list old)) _ (among_these (as_list old))
      (either (reports_of f (as_list new)) _ (among_these (as_list new))
      (either (ring_reports f n old) _ (among_cases (comes_back_by f n old) (chain_from f old))
      (either (ring_reports f n new) _ (among_cases (comes_back_by f n new) (chain_from f new))
      (among_cases (differ before after) (live_below f n))))))

  -- what is marked is a report of a namespace that is there
  pub placed_known : (n : List ℕ) (old new : Option (List ℕ)) (before after : Bool) → is_among k (placed_reports f n old new before after) ≡ true → IsReport f k
  placed_known n old new before after mem = by (same_name old new) mem
    where
      by : (b : Bool) → is_among k (if b then report_keys f n else moved_reports f n old new before after) ≡ true → IsReport f k
      by true mem = own_known n mem
      by false mem = moved_known n old new before after mem
