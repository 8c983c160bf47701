-- Which keys may want a write.
--     place_among, sent_among    the keys of a copy that lies in a namespace, and of what is sent from above, may want one
--     wants_known                a place of copies that wants a write is among those that may
--     wants_copied               and its kind can be copied
--     child_among, status_among  the keys of an anchor that is there are among those of its namespace
--     usage_among                so is the key of a quota
--     all_tree, all_wants, all_children, all_parts   the parts of all that a namespace may want that takes part
--     all_known                  a key that wants a write is among those of its namespace
use Rattle.std.proofs.Common.{◌≡◌, ◌≢◌, ℕ, Bool, true, false, cond, not, ◌&&◌, ◌||◌, Option, Some, None, List, [], ◌∷◌, ◌++◌, map, filter, flat_map, ◌⊎◌, inl, inr, refl, sym, ap, ◌∙◌, subst, true≢false, eqb, eq-eqb}
use Rattle.std.specs.Prelude.{is_some, find, option_and_then, if◌then◌else◌}
use Rattle.std.specs.List.{list_any}
use Rattle.std.specs.Str.{bytes_eq}
use Rattle.std.proofs.lemmas.Bool.{and_parts, and_from, or_cases, or_left, or_right}
use Rattle.std.proofs.lemmas.List.Folds.{list_any-append}
use Rattle.std.proofs.lemmas.Slice.Eq.{bytes_eq-Decides}
use Rattle.hx_object.specs.Kinds.{number_of, can_be_copied}
use Rattle.hx_object.specs.declared.kind.Kind.{Kind}
use Rattle.hx_object.specs.declared.kind.Kind.TheVariants.{HierarchicalResourceQuota, SubnamespaceAnchor}
use Rattle.hx_object.specs.declared.object.AnchorStatus.{AnchorStatus}
use Rattle.hx_object.specs.declared.object.Condition.{Condition}
use Rattle.hx_object.specs.declared.object.Id.{Id}
use Rattle.hx_object.specs.declared.object.Mode.{Mode}
use Rattle.hx_object.specs.declared.object.Mode.TheVariants.{Propagate, AllowPropagate, Remove, Ignore}
use Rattle.hx_object.specs.declared.object.Object.{Object}
use Rattle.hx_model.specs.Answers.{is_listed}
use Rattle.hx_model.specs.Cases.{is_leaving}
use Rattle.hx_model.specs.Exceptions.{is_allowed, passes, is_false, none_of, select_of, tree_select_in}
use Rattle.hx_model.specs.First.{so}
use Rattle.hx_model.specs.Forest.{tail_of, is_in, is_live, chain_of, children_of}
use Rattle.hx_model.specs.Keys.{same_key, is_among}
use Rattle.hx_model.specs.Limits.{is_copy}
use Rattle.hx_model.specs.Moves.{is_eligible, mode_at, copied_kinds}
use Rattle.hx_model.specs.Propagation.{goes_to, is_source, stays_home, is_propagated, id_in, as_list, source_at, sources_along, top_of}
use Rattle.hx_model.specs.Reports.{conditions_of, report_write}
use Rattle.hx_model.specs.State.{State, Objects, object_at, namespace_id}
use Rattle.hx_model.specs.Subnamespaces.{anchor_id}
use Rattle.hx_model.specs.Tree.{forest_of, hierarchy_id}
use Rattle.hx_model.specs.TreeLabels.{is_open}
use Rattle.hx_model.specs.Wanted.{copy_write, copied, copied_in, without_copy, tree_write, child_write, anchor_status, anchor_write, quota_id, sums_of, used_write, least_id, purge_write, wanted_write}
use Rattle.hx_model.specs.declared.key.Key.{Key}
use Rattle.hx_model.specs.declared.key.Key.TheVariants as key
use Rattle.hx_model.specs.declared.key.Write.TheVariants.{Cut}
use Rattle.hx_model.proofs.Objects.{found_id}
use Rattle.hx_marks.proofs.Among.{same_key_itself, among_here, among_append, among_map, among_flat_map, any_filter, passing_object, passing_name, passing_kind}
use Rattle.hx_marks.specs.Usage.{usage_key, usage_keys}
use Rattle.hx_marks.specs.Law.{is_ignored, is_sent, listed_in, sent_from, key_for, wants_of_kind, wants_of, child_keys, status_keys, all_of}

pub any_flat_map : {A B : Type 0} (t : B → Bool) (f : A → List B) (xs : List A) → list_any t (flat_map f xs) ≡ list_any (λ x. list_any t (f x)) xs
any_flat_map t f [] = refl
any_flat_map t f (x ∷ xs) = list_any-append t (f x) (flat_map f xs) ∙ ap (λ b. list_any t (f x) || b) (any_flat_map t f xs)

-- ---- what lies in a namespace

text_itself : (n : List ℕ) → bytes_eq n n ≡ true
text_itself n = (bytes_eq-Decides n n).1 refl

-- what is found in a namespace is listed there
listed_there : (t : Object → Bool) (objects : Objects) (kind : Kind) (n name : List ℕ) (x : Object) → object_at objects (id_in kind name n) ≡ Some x → t x ≡ true → list_any t (listed_in objects kind n) ≡ true
listed_there t objects kind n name x at h =
    let is : id_in kind name n ≡ x.id = found_id objects (id_in kind name n) x at in
    let there : is_listed kind (Some n) x ≡ true =
    subst (λ (q : Id). ((eqb (number_of kind) (number_of q.kind)) && bytes_eq q.ns n) ≡ true) is (and_from _ _ (eq-eqb (number_of kind) (number_of kind) refl) (text_itself n)) in
    any_filter t (is_listed kind (Some n)) objects ∙ passing_object (λ y. is_listed kind (Some n) y && t y) objects (id_in kind name n) x at (and_from (is_listed kind (Some n) x) (t x) there h)

-- the key of what is found
key_found : (objects : Objects) (m : List ℕ) (kind : Kind) (n name : List ℕ) (x : Object) → object_at objects (id_in kind name n) ≡ Some x → same_key (key.Copy m kind name) (key_for m x) ≡ true
key_found objects m kind n name x at = subst (λ (q : Id). same_key (key.Copy m kind name) (key.Copy m q.kind q.name) ≡ true) (found_id objects (id_in kind name n) x at) (same_key_itself (key.Copy m kind name))

-- ---- what is sent from above

find_either : {A : Type 0} (p : A → Bool) (xs ys : List A) (t : A) → find p (xs ++ ys) ≡ Some t → (find p xs ≡ Some t) ⊎ (find p ys ≡ Some t)
find_either p [] ys t e = inr e
find_either p (x ∷ xs) ys t e = elim (p x) as (λ b. cond b (Some x) (find p (xs ++ ys)) ≡ Some t → (cond b (Some x) (find p xs) ≡ Some t) ⊎ (find p ys ≡ Some t)) [
  | true ↦ λ h. inl h
  | false ↦ λ h. find_either p xs ys t h
] e

one_found : (p : Object → Bool) (found : Option Object) (t : Object) → find p (as_list (option_and_then (λ x. so (is_source x) x) found)) ≡ Some t → (found ≡ Some t) × (p t ≡ true)
one_found p None t e = absurd (true≢false (sym (ap is_some e)))
one_found p (Some x) t e = elim (is_source x) as (λ b. find p (as_list (so b x)) ≡ Some t → (Some x ≡ Some t) × (p t ≡ true)) [
  | true ↦ λ h. passed (p x) refl h
  | false ↦ λ h. absurd (true≢false (sym (ap is_some h)))
] e
  where
    passed : (b : Bool) → p x ≡ b → cond b (Some x) None ≡ Some t → (Some x ≡ Some t) × (p t ≡ true)
    passed true is h = (h, subst (λ (z : Object). p z ≡ true) (let same : x ≡ t = cc in same) is)
    passed false is h = absurd (true≢false (sym (ap is_some h)))

-- the source that is found among those of a chain lies in one of its namespaces
pub along_found : (p : Object → Bool) (objects : Objects) (kind : Kind) (name : List ℕ) (chain : List (List ℕ)) (t : Object) → find p (sources_along objects kind name chain) ≡ Some t
    → (a : List ℕ) × (is_in a chain ≡ true) × (object_at objects (id_in kind name a) ≡ Some t) × (p t ≡ true)
along_found p objects kind name [] t e = absurd (true≢false (sym (ap is_some e)))
along_found p objects kind name (a ∷ chain) t e = elim (find_either p (sources_along objects kind name chain) (as_list (source_at objects (id_in kind name a))) t e) [
  | inl later ↦ let found = along_found p objects kind name chain t later in (found.0, or_right (bytes_eq found.0 a) (is_in found.0 chain) found.1, found.2, found.3)
  | inr here ↦ let found = one_found p (object_at objects (id_in kind name a)) t here in (a, or_left (bytes_eq a a) (is_in a chain) (text_itself a), found.0, found.1)
]

-- what goes to some labels is sent
pub sent_from_goes : (mode : Mode) (x : Object) (labels : List (List ℕ × List ℕ)) → goes_to mode x labels ≡ true → is_sent mode x ≡ true
sent_from_goes mode x labels h =
    let p = and_parts (is_propagated mode) _ h in
    let q = and_parts (is_source x) _ p.1 in
    let r = and_parts (not (stays_home x)) (is_allowed x labels) q.1 in
    let u = and_parts (passes _ (select_of x)) _ r.1 in
    let v = and_parts (passes _ (tree_select_in x)) (passes is_false (none_of x)) u.1 in
    and_from (is_propagated mode) _ p.0 (and_from (is_source x) _ q.0 (and_from (not (stays_home x)) (passes is_false (none_of x)) r.0 v.1))

-- ---- keys

module _ (objects : Objects) (chain : List (List ℕ)) (m : List ℕ) (kind : Kind) where
  in_kind : (k : Key) → is_ignored (mode_at objects kind) ≡ false → list_any (λ x. same_key k (key_for m x)) (sent_from objects kind (tail_of chain) ++ filter is_copy (listed_in objects kind m)) ≡ true
      → is_among k (wants_of_kind objects chain m kind) ≡ true
  in_kind k counts h =
      ap (λ b. list_any (same_key k) (if b then [] else map (key_for m) (sent_from objects kind (tail_of chain) ++ filter is_copy (listed_in objects kind m)))) counts
      ∙ among_map k (key_for m) (sent_from objects kind (tail_of chain) ++ filter is_copy (listed_in objects kind m)) ∙ h

  -- the place of a source that a namespace of the chain sends
  pub sent_among : (name a : List ℕ) (t : Object) → is_ignored (mode_at objects kind) ≡ false → is_in a (tail_of chain) ≡ true → object_at objects (id_in kind name a) ≡ Some t → is_sent (mode_at objects kind) t ≡ true
      → is_among (key.Copy m kind name) (wants_of_kind objects chain m kind) ≡ true
  sent_among name a t counts mem at sent =
      let k = key.Copy m kind name in
      let test : Object → Bool = λ x. same_key k (key_for m x) in
      let sends : List ℕ → Objects = λ b. filter (is_sent (mode_at objects kind)) (listed_in objects kind b) in
      let here : list_any test (sends a) ≡ true =
      any_filter test (is_sent (mode_at objects kind)) (listed_in objects kind a)
      ∙ listed_there (λ x. is_sent (mode_at objects kind) x && test x) objects kind a name t at (and_from (is_sent (mode_at objects kind) t) (test t) sent (key_found objects m kind a name t at)) in
      in_kind k counts
      (list_any-append test (sent_from objects kind (tail_of chain)) (filter is_copy (listed_in objects kind m))
      ∙ or_left (list_any test (sent_from objects kind (tail_of chain))) (list_any test (filter is_copy (listed_in objects kind m)))
      (any_flat_map test sends (tail_of chain) ∙ passing_name (λ b. list_any test (sends b)) a (tail_of chain) mem here))

  -- the place of a copy
  pub place_among : (name : List ℕ) (x : Object) → is_ignored (mode_at objects kind) ≡ false → object_at objects (id_in kind name m) ≡ Some x → is_copy x ≡ true → is_among (key.Copy m kind name) (wants_of_kind objects chain m kind) ≡ true
  place_among name x counts at copy =
      let k = key.Copy m kind name in
      let test : Object → Bool = λ y. same_key k (key_for m y) in
      in_kind k counts
      (list_any-append test (sent_from objects kind (tail_of chain)) (filter is_copy (listed_in objects kind m))
      ∙ or_right (list_any test (sent_from objects kind (tail_of chain))) (list_any test (filter is_copy (listed_in objects kind m)))
      (any_filter test is_copy (listed_in objects kind m) ∙ listed_there (λ y. is_copy y && test y) objects kind m name x at (and_from (is_copy x) (test x) copy (key_found objects m kind m name x at))))

-- a key of one kind is one of all
pub among_kinds : (objects : Objects) (chain : List (List ℕ)) (m : List ℕ) (k : Key) (kind : Kind) → can_be_copied kind ≡ true → is_among k (wants_of_kind objects chain m kind) ≡ true → is_among k (wants_of objects chain m) ≡ true
among_kinds objects chain m k kind copied mem = among_flat_map k (wants_of_kind objects chain m) copied_kinds ∙ passing_kind (λ kind. is_among k (wants_of_kind objects chain m kind)) kind copied mem

-- ---- what wants a write

source_kind : (x : Object) → is_source x ≡ true → can_be_copied x.id.kind ≡ true
source_kind x h = (and_parts (can_be_copied x.id.kind) (not (is_copy x)) h).0

copy_kind : (x : Object) → is_copy x ≡ true → can_be_copied x.id.kind ≡ true
unfolding is_copy
copy_kind x h = (and_parts (can_be_copied x.id.kind) _ h).0

sent_kind : (mode : Mode) (x : Object) → is_sent mode x ≡ true → can_be_copied x.id.kind ≡ true
sent_kind mode x h = source_kind x (and_parts (is_source x) _ (and_parts (is_propagated mode) _ h).1).0

module _ (objects : Objects) (chain : List (List ℕ)) (m : List ℕ) (kind : Kind) (name : List ℕ) where
  -- the kind can be copied, and the key is among those that may want a write
  abbrev MayWant : Type 0
  MayWant = (can_be_copied kind ≡ true) × (is_among (key.Copy m kind name) (wants_of objects chain m) ≡ true)

  -- a copy that goes
  taken : is_ignored (mode_at objects kind) ≡ false → (place : Option Object) → object_at objects (id_in kind name m) ≡ place → without_copy place ≢ None → MayWant
  taken counts None at wants = absurd (wants refl)
  taken counts (Some x) at wants = elim (is_copy x) as (λ b. is_copy x ≡ b → so b (Cut x.id) ≢ None → MayWant) [
    | true ↦ λ copy _.
        let copied : can_be_copied kind ≡ true = ap (λ (q : Id). can_be_copied q.kind) (found_id objects (id_in kind name m) x at) ∙ copy_kind x copy in
        (copied, among_kinds objects chain m (key.Copy m kind name) kind copied (place_among objects chain m kind name x counts at copy))
    | false ↦ λ _ none. absurd (none refl)
  ] refl wants

  -- what comes from above, or a copy that goes
  brought : is_ignored (mode_at objects kind) ≡ false → (labels : List (List ℕ × List ℕ)) (top : Option Object) → top_of (mode_at objects kind) labels (sources_along objects kind name (tail_of chain)) ≡ top
      → copied top m (object_at objects (id_in kind name m)) ≢ None → MayWant
  brought counts labels None is wants = taken counts (object_at objects (id_in kind name m)) refl wants
  brought counts labels (Some t) is wants =
      let found = along_found (λ x. goes_to (mode_at objects kind) x labels) objects kind name (tail_of chain) t is in
      let sent = sent_from_goes (mode_at objects kind) t labels found.3 in
      let copied : can_be_copied kind ≡ true = ap (λ (q : Id). can_be_copied q.kind) (found_id objects (id_in kind name found.0) t found.2) ∙ sent_kind (mode_at objects kind) t sent in
      (copied, among_kinds objects chain m (key.Copy m kind name) kind copied (sent_among objects chain m kind name found.0 t counts found.1 found.2 sent))

  -- by the mode of the kind
  by_mode : (labels : List (List ℕ × List ℕ)) (mode : Mode) → mode_at objects kind ≡ mode → copied_in mode (top_of mode labels (sources_along objects kind name (tail_of chain))) m (object_at objects (id_in kind name m)) ≢ None
      → MayWant
  by_mode labels Propagate is wants = brought (ap is_ignored is) labels (top_of Propagate labels (sources_along objects kind name (tail_of chain))) (ap (λ mode. top_of mode labels (sources_along objects kind name (tail_of chain))) is) wants
  by_mode labels AllowPropagate is wants = brought (ap is_ignored is) labels (top_of AllowPropagate labels (sources_along objects kind name (tail_of chain))) (ap (λ mode. top_of mode labels (sources_along objects kind name (tail_of chain))) is) wants
  by_mode labels Remove is wants = taken (ap is_ignored is) (object_at objects (id_in kind name m)) refl wants
  by_mode labels Ignore is wants = absurd (wants refl)

  -- a place that wants a write: its key is among those that may
  pub wants_known : (acts : Bool) (found : Option Object) → copy_write acts found (mode_at objects kind) (sources_along objects kind name (tail_of chain)) m (object_at objects (id_in kind name m)) ≢ None
      → (acts ≡ true) × (is_some found ≡ true) × (is_among (key.Copy m kind name) (wants_of objects chain m) ≡ true)
  wants_known acts None wants = absurd (wants refl)
  wants_known true (Some x) wants = (refl, refl, (by_mode x.labels (mode_at objects kind) refl wants).1)
  wants_known false (Some x) wants = absurd (wants refl)

  -- and its kind can be copied
  pub wants_copied : (acts : Bool) (found : Option Object) → copy_write acts found (mode_at objects kind) (sources_along objects kind name (tail_of chain)) m (object_at objects (id_in kind name m)) ≢ None → can_be_copied kind ≡ true
  wants_copied acts None wants = absurd (wants refl)
  wants_copied true (Some x) wants = (by_mode x.labels (mode_at objects kind) refl wants).0
  wants_copied false (Some x) wants = absurd (wants refl)

-- ---- keys of anchors

module _ (objects : Objects) (m name : List ℕ) (x : Object) (at : object_at objects (anchor_id m name) ≡ Some x) where
  -- a key by the anchor's name
  named_among : (of_name : List ℕ → Key) → list_any (λ (y : Object). same_key (of_name name) (of_name y.id.name)) (listed_in objects SubnamespaceAnchor m) ≡ true
  named_among of_name =
      listed_there (λ (y : Object). same_key (of_name name) (of_name y.id.name)) objects SubnamespaceAnchor m name x at
      (subst (λ (q : Id). same_key (of_name name) (of_name q.name) ≡ true) (found_id objects (anchor_id m name) x at) (same_key_itself (of_name name)))

  pub child_among : is_among (key.Child m name) (child_keys objects m) ≡ true
  child_among = among_map (key.Child m name) (λ (y : Object). key.Child m y.id.name) (listed_in objects SubnamespaceAnchor m) ∙ named_among (key.Child m)

  pub status_among : is_among (key.Anchor m name) (status_keys objects m) ≡ true
  status_among = among_map (key.Anchor m name) (λ (y : Object). key.Anchor m y.id.name) (listed_in objects SubnamespaceAnchor m) ∙ named_among (key.Anchor m)

-- ---- keys of quotas

pub usage_among : (objects : Objects) (m name : List ℕ) (x : Object) → object_at objects (quota_id m name) ≡ Some x → is_among (key.Used m name) (usage_keys objects m) ≡ true
usage_among objects m name x at =
    among_map (key.Used m name) usage_key (listed_in objects HierarchicalResourceQuota m)
    ∙ listed_there (λ (y : Object). same_key (key.Used m name) (usage_key y)) objects HierarchicalResourceQuota m name x at
    (subst (λ (q : Id). same_key (key.Used m name) (key.Used q.ns q.name) ≡ true) (found_id objects (quota_id m name) x at) (same_key_itself (key.Used m name)))

-- ---- all keys

module _ (objects : Objects) (chain : List (List ℕ)) (m : List ℕ) where
  pub all_tree : is_among (key.Tree m) (all_of objects chain m) ≡ true
  all_tree = among_here (key.Tree m) (wants_of objects chain m ++ child_keys objects m)

  module _ (k : Key) where
    behind_tree : (is_among k (wants_of objects chain m) || is_among k (child_keys objects m)) ≡ true → is_among k (all_of objects chain m) ≡ true
    behind_tree h = or_right (same_key k (key.Tree m)) _ (among_append k (wants_of objects chain m) (child_keys objects m) ∙ h)

    pub all_wants : is_among k (wants_of objects chain m) ≡ true → is_among k (all_of objects chain m) ≡ true
    all_wants h = behind_tree (or_left (is_among k (wants_of objects chain m)) _ h)

    pub all_children : is_among k (child_keys objects m) ≡ true → is_among k (all_of objects chain m) ≡ true
    all_children h = behind_tree (or_right (is_among k (wants_of objects chain m)) _ h)

    -- that of its tree labels, of its copies, or of its subnamespaces
    pub all_parts : is_among k (all_of objects chain m) ≡ true → (same_key k (key.Tree m) ≡ true) ⊎ (is_among k (wants_of objects chain m) ≡ true) ⊎ (is_among k (child_keys objects m) ≡ true)
    all_parts h = elim (or_cases (same_key k (key.Tree m)) (is_among k (wants_of objects chain m ++ child_keys objects m)) h) [
      | inl tree ↦ inl tree
      | inr later ↦ elim (or_cases (is_among k (wants_of objects chain m)) (is_among k (child_keys objects m)) (sym (among_append k (wants_of objects chain m) (child_keys objects m)) ∙ later)) [
        | inl copy ↦ inr (inl copy)
        | inr child ↦ inr (inr child)
      ]
    ]

-- ---- what wants a write, of anchors and namespaces

-- a subnamespace that is wanted: its parent takes part, and the anchor is there
pub child_known : (acts : Bool) (anchor : Option Object) (excluded taken : Bool) (n m : List ℕ) → child_write acts (is_some anchor) excluded taken n m ≢ None → (acts ≡ true) × (x : Object) × (anchor ≡ Some x)
child_known true None excluded taken n m wants = absurd (wants refl)
child_known true (Some x) excluded taken n m wants = (refl, x, refl)
child_known false anchor excluded taken n m wants = absurd (wants refl)

-- a status that is wanted: the namespace isn't on its way out, and the anchor is there
pub status_known : (live : Bool) (status : AnchorStatus) (anchor : Option Object) → anchor_write live status anchor ≢ None → (live ≡ true) × (x : Object) × (anchor ≡ Some x)
status_known live status None wants = absurd (wants refl)
status_known true status (Some x) wants = (refl, x, refl)
status_known false status (Some x) wants = absurd (wants refl)

-- usages that are wanted: the namespace isn't on its way out, and the quota is there
pub used_known : (live : Bool) (sums : List ℕ) (quota : Option Object) → used_write live sums quota ≢ None → (live ≡ true) × (x : Object) × (quota ≡ Some x)
used_known live sums None wants = absurd (wants refl)
used_known true sums (Some x) wants = (refl, x, refl)
used_known false sums (Some x) wants = absurd (wants refl)

-- a report that is wanted: its namespace takes reports
pub report_known : (takes : Bool) (found : Option Object) (children : List (List ℕ)) (conditions : List Condition) (n : List ℕ) → report_write takes found children conditions n ≢ None → takes ≡ true
report_known true found children conditions n wants = refl
report_known false None children conditions n wants = absurd (wants refl)
report_known false (Some x) children conditions n wants = absurd (wants refl)

-- a removal that is wanted: the namespace is on its way out
pub removal_known : (leaves : Bool) (least : Option Id) (n : List ℕ) → purge_write leaves least n ≢ None → leaves ≡ true
removal_known true least n wants = refl
removal_known false least n wants = absurd (wants refl)

-- a key is among those of its namespace: of one that takes part, of the statuses and the quotas of one that isn't on its way out, of the report of one that takes reports, or of the removal of one that is on its way out
abbrev pub IsKnown : State → Key → Type 0
IsKnown s (key.Anchor n name) = (is_live (forest_of s) n ≡ true) × (is_among (key.Anchor n name) (status_keys s.objects n) ≡ true)
IsKnown s (key.Used n name) = (is_live (forest_of s) n ≡ true) × (is_among (key.Used n name) (usage_keys s.objects n) ≡ true)
IsKnown s (key.Report n) = is_eligible (forest_of s) n ≡ true
IsKnown s (key.Purge n) = is_leaving (forest_of s) n ≡ true
IsKnown s k = (m : List ℕ) × (is_open (forest_of s) m ≡ true) × (is_among k (all_of s.objects (chain_of (forest_of s) m) m) ≡ true)

-- so is each that wants a write
pub all_known : (s : State) (k : Key) → wanted_write s k ≢ None → IsKnown s k
all_known s (key.Copy m kind name) wants =
    let known = wants_known s.objects (chain_of (forest_of s) m) m kind name (is_open (forest_of s) m) (object_at s.objects (namespace_id m)) wants in
    (m, known.0, all_wants s.objects (chain_of (forest_of s) m) m (key.Copy m kind name) known.2)
all_known s (key.Tree m) wants = (m, acting (is_open (forest_of s) m) (object_at s.objects (namespace_id m)) wants, all_tree s.objects (chain_of (forest_of s) m) m)
  where
    acting : (acts : Bool) (found : Option Object) → tree_write acts (chain_of (forest_of s) m) found ≢ None → acts ≡ true
    acting true found wants = refl
    acting false None wants = absurd (wants refl)
    acting false (Some x) wants = absurd (wants refl)
all_known s (key.Report m) wants = report_known (is_eligible (forest_of s) m) (object_at s.objects (hierarchy_id m)) (children_of (forest_of s) m) (conditions_of s m) m wants
all_known s (key.Child m name) wants =
    let known = child_known (is_open (forest_of s) m) (object_at s.objects (anchor_id m name)) (is_in name s.config.excluded) (is_some (object_at s.objects (namespace_id name))) m name wants in
    (m, known.0, all_children s.objects (chain_of (forest_of s) m) m (key.Child m name) (child_among s.objects m name known.1 known.2))
all_known s (key.Anchor m name) wants =
    let known = status_known (is_live (forest_of s) m) (anchor_status s m name) (object_at s.objects (anchor_id m name)) wants in
    (known.0, status_among s.objects m name known.1 known.2)
all_known s (key.Used m name) wants =
    let known = used_known (is_live (forest_of s) m) (sums_of s m (object_at s.objects (quota_id m name))) (object_at s.objects (quota_id m name)) wants in
    (known.0, usage_among s.objects m name known.1 known.2)
all_known s (key.Purge m) wants = removal_known (is_leaving (forest_of s) m) (least_id s m) m wants
