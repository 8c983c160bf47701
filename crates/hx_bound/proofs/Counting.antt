-- How many keys a state has.
--     any_by            what passes one test passes another
--     once_has          each item is still there where each stands once
--     keys_of_name, keys_of_anchor, all_keys    the keys of a name;  of an anchor;  of a state
--     all_count         so many are these
--     all_have          each key of a state is among them
--     keys_count        so distinct ones are no more
use Rattle.std.proofs.Common.{◌≡◌, ◌≤◌, ◌+◌, ◌*◌, ◌==◌, ℕ, suc, Bool, true, false, cond, ◌&&◌, ◌||◌, ◌⊎◌, Option, Some, None, List, [], ◌∷◌, ◌++◌, filter, map, length, length-append, inl, inr, refl, sym, ap, ◌∙◌, subst, true≢false, arith}
use Rattle.std.specs.Prelude.{flat_map, is_some}
use Rattle.std.specs.List.{list_any}
use Rattle.std.specs.Str.{bytes_eq}
use Rattle.std.proofs.Math.Nat.{suc-mul}
use Rattle.std.proofs.lemmas.Bool.{and_from, and_parts, eqb-true, or_cases, or_left, or_right}
use Rattle.std.proofs.lemmas.List.{length-map}
use Rattle.std.proofs.lemmas.List.Folds.{list_any-append}
use Rattle.std.proofs.lemmas.Map.Made.{length-le_from_is_member}
use Rattle.hx_object.specs.Kinds.{number_of, can_be_copied, is_anchor, is_quota}
use Rattle.hx_object.proofs.Identities.{number_of-one}
use Rattle.hx_object.specs.declared.kind.Kind.{Kind}
use Rattle.hx_object.specs.declared.kind.Kind.TheVariants.{SubnamespaceAnchor, HierarchicalResourceQuota}
use Rattle.hx_object.specs.declared.object.Id.{Id}
use Rattle.hx_object.specs.declared.object.Object.{Object}
use Rattle.hx_model.specs.Forest.{is_in, is_there, names_of}
use Rattle.hx_model.specs.Keys.{same_key, has_named, is_among, is_key, is_name}
use Rattle.hx_model.specs.Propagation.{id_in}
use Rattle.hx_model.specs.State.{State, Objects, object_at}
use Rattle.hx_model.specs.Tree.{forest_of}
use Rattle.hx_model.specs.declared.key.Key.{Key}
use Rattle.hx_model.specs.declared.key.Key.TheVariants as key
use Rattle.hx_model.proofs.Climbing.{is_same}
use Rattle.hx_model.proofs.Lists.{any_witness}
use Rattle.hx_model.proofs.Objects.{found_id}
use Rattle.hx_model.proofs.Passing.{any_filter, passing_name, passing_object}
use Rattle.hx_model.proofs.SameKeys.{key_laws, same_key_is, same_key_itself}
use Rattle.hx_model.proofs.Walking.{names_have}
use Rattle.hx_bound.specs.Bound.{KeysCount, anchored_names, copied_pairs, key_count, names_asked, once, pairs_of, same_pair}

-- ---- lists

pub any_by : {A : Type 0} (t u : A → Bool) (xs : List A) → ((x : A) → t x ≡ true → u x ≡ true) → list_any t xs ≡ true → list_any u xs ≡ true
any_by t u [] more h = h
any_by t u (x ∷ xs) more h = elim (or_cases (t x) (list_any t xs) h) [
  | inl here ↦ or_left (u x) (list_any u xs) (more x here)
  | inr later ↦ or_right (u x) (list_any u xs) (any_by t u xs more later)
]

-- what passes for an item that is left out passes for a later one
pub once_has : {X : Type 0} (same : X → X → Bool) (t : X → Bool) (xs : List X) → ((x y : X) → t x ≡ true → same x y ≡ true → t y ≡ true) → list_any t xs ≡ true → list_any t (once same xs) ≡ true
once_has same t [] alike h = h
once_has same t (x ∷ xs) alike h = by (list_any (same x) xs) refl (or_cases (t x) (list_any t xs) h) (once_has same t xs alike)
  where
    by : (b : Bool) → list_any (same x) xs ≡ b → (t x ≡ true) ⊎ (list_any t xs ≡ true) → (list_any t xs ≡ true → list_any t (once same xs) ≡ true) → list_any t (cond b (once same xs) (x ∷ once same xs)) ≡ true
    by true again (inl here) rest = rest (any_by (same x) t xs (λ y is. alike x y here is) again)
    by true again (inr later) rest = rest later
    by false none (inl here) rest = or_left (t x) (list_any t (once same xs)) here
    by false none (inr later) rest = or_right (t x) (list_any t (once same xs)) (rest later)

pub among_append : (k : Key) (xs ys : List Key) → is_among k (xs ++ ys) ≡ (is_among k xs || is_among k ys)
among_append k xs ys = list_any-append (same_key k) xs ys

in_flat_map : {A : Type 0} (k : Key) (f : A → List Key) (xs : List A) → list_any (λ x. is_among k (f x)) xs ≡ true → is_among k (flat_map f xs) ≡ true
in_flat_map k f [] h = h
in_flat_map k f (x ∷ xs) h = among_append k (f x) (flat_map f xs) ∙ elim (or_cases (is_among k (f x)) (list_any (λ y. is_among k (f y)) xs) h) [
  | inl here ↦ or_left (is_among k (f x)) (is_among k (flat_map f xs)) here
  | inr later ↦ or_right (is_among k (f x)) (is_among k (flat_map f xs)) (in_flat_map k f xs later)
]

in_map : {A : Type 0} (k : Key) (f : A → Key) (xs : List A) → list_any (λ x. same_key k (f x)) xs ≡ true → is_among k (map f xs) ≡ true
in_map k f [] h = h
in_map k f (x ∷ xs) h = elim (or_cases (same_key k (f x)) (list_any (λ y. same_key k (f y)) xs) h) [
  | inl here ↦ or_left (same_key k (f x)) (is_among k (map f xs)) here
  | inr later ↦ or_right (same_key k (f x)) (is_among k (map f xs)) (in_map k f xs later)
]

-- ---- the list

-- of a name the removal, the tree labels, the report and the copies
abbrev keys_of_name : List (Kind × List ℕ) → List ℕ → List Key
keys_of_name pairs n = key.Purge n ∷ key.Tree n ∷ key.Report n ∷ map (λ (p : Kind × List ℕ). key.Copy n p.0 p.1) pairs

-- of an anchor the subnamespace and the status
abbrev keys_of_anchor : Object → List Key
keys_of_anchor x = key.Child x.id.ns x.id.name ∷ key.Anchor x.id.ns x.id.name ∷ []

abbrev key_of_quota : Object → Key
key_of_quota x = key.Used x.id.ns x.id.name

abbrev anchors_of : State → Objects
anchors_of s = filter (λ (x : Object). is_anchor x.id.kind) s.objects

abbrev quotas_of : State → Objects
quotas_of s = filter (λ (x : Object). is_quota x.id.kind) s.objects

abbrev pub all_keys : State → List Key
all_keys s = flat_map (keys_of_name (pairs_of s)) (names_asked s) ++ (flat_map keys_of_anchor (anchors_of s) ++ map key_of_quota (quotas_of s))

-- ---- how many

name_keys : (pairs : List (Kind × List ℕ)) (names : List (List ℕ)) → length (flat_map (keys_of_name pairs) names) ≡ length names * length pairs + 3 * length names
name_keys pairs [] = omega arith
name_keys pairs (n ∷ names) =
    let own : length (keys_of_name pairs n) ≡ length pairs + 3 = let each = length-map pairs (λ (p : Kind × List ℕ). key.Copy n p.0 p.1) in omega (arith, each) in
    let whole = length-append (keys_of_name pairs n) (flat_map (keys_of_name pairs) names) in
    let times : suc (length names) * length pairs ≡ length names * length pairs + length pairs = suc-mul (length names) (length pairs) in
    omega (arith, own, whole, times, name_keys pairs names)

anchor_keys : (anchors : Objects) → length (flat_map keys_of_anchor anchors) ≡ 2 * length anchors
anchor_keys [] = refl
anchor_keys (x ∷ anchors) = omega (arith, anchor_keys anchors)

pub all_count : (s : State) → length (all_keys s) ≡ key_count s
all_count s =
    let names = flat_map (keys_of_name (pairs_of s)) (names_asked s) in
    let anchors = flat_map keys_of_anchor (anchors_of s) in
    let quotas = map key_of_quota (quotas_of s) in
    omega (arith, length-append names (anchors ++ quotas), length-append anchors quotas, name_keys (pairs_of s) (names_asked s), anchor_keys (anchors_of s), length-map (quotas_of s) key_of_quota)

-- ---- that all are there

-- a name is among those of anchors
anchored : (n : List ℕ) (objects : Objects) → has_named objects SubnamespaceAnchor n ≡ true → is_in n (anchored_names objects) ≡ true
anchored n objects h =
    in_names (filter (λ (x : Object). is_anchor x.id.kind) objects)
    (any_filter (λ (x : Object). bytes_eq n x.id.name) (λ (x : Object). is_anchor x.id.kind) objects
    ∙ any_by (λ (x : Object). (number_of SubnamespaceAnchor == number_of x.id.kind) && bytes_eq n x.id.name) (λ (x : Object). is_anchor x.id.kind && bytes_eq n x.id.name) objects kind h)
  where
    kind : (x : Object) → ((number_of SubnamespaceAnchor == number_of x.id.kind) && bytes_eq n x.id.name) ≡ true → (is_anchor x.id.kind && bytes_eq n x.id.name) ≡ true
    kind x both = let parts = and_parts (number_of SubnamespaceAnchor == number_of x.id.kind) _ both in and_from (is_anchor x.id.kind) (bytes_eq n x.id.name) (ap is_anchor (sym (number_of-one SubnamespaceAnchor x.id.kind (eqb-true (number_of SubnamespaceAnchor) (number_of x.id.kind) parts.0)))) parts.1

    in_names : (xs : Objects) → list_any (λ (x : Object). bytes_eq n x.id.name) xs ≡ true → is_in n (map (λ (x : Object). x.id.name) xs) ≡ true
    in_names [] e = e
    in_names (x ∷ xs) e = elim (or_cases (bytes_eq n x.id.name) (list_any (λ (y : Object). bytes_eq n y.id.name) xs) e) [
      | inl here ↦ or_left (bytes_eq n x.id.name) (is_in n (map (λ (y : Object). y.id.name) xs)) here
      | inr later ↦ or_right (bytes_eq n x.id.name) (is_in n (map (λ (y : Object). y.id.name) xs)) (in_names xs later)
    ]

name_in : (s : State) (n : List ℕ) → is_name s n ≡ true → is_in n (names_asked s) ≡ true
name_in s n h =
    once_has bytes_eq (bytes_eq n) (names_of (forest_of s) ++ anchored_names s.objects) (λ x y here is. subst (λ (a : List ℕ). bytes_eq n a ≡ true) (is_same x y is) here)
    (list_any-append (bytes_eq n) (names_of (forest_of s)) (anchored_names s.objects) ∙ elim (or_cases (is_there (forest_of s) n) (has_named s.objects SubnamespaceAnchor n) h) [
      | inl there ↦ or_left (is_in n (names_of (forest_of s))) (is_in n (anchored_names s.objects)) (sym (names_have (forest_of s) n) ∙ there)
      | inr asked ↦ or_right (is_in n (names_of (forest_of s))) (is_in n (anchored_names s.objects)) (anchored n s.objects asked)
    ])

-- two pairs are the same
pair_is : (a b : Kind × List ℕ) → same_pair a b ≡ true → (a.0 ≡ b.0) × (a.1 ≡ b.1)
pair_is a b h = let parts = and_parts (number_of a.0 == number_of b.0) _ h in (number_of-one a.0 b.0 (eqb-true (number_of a.0) (number_of b.0) parts.0), is_same a.1 b.1 parts.1)

pair_in : (s : State) (kind : Kind) (name : List ℕ) → (can_be_copied kind && has_named s.objects kind name) ≡ true → list_any (same_pair (kind, name)) (pairs_of s) ≡ true
pair_in s kind name h =
    let parts = and_parts (can_be_copied kind) _ h in
    once_has same_pair (same_pair (kind, name)) (copied_pairs s.objects) alike
    (in_pairs (filter (λ (x : Object). can_be_copied x.id.kind) s.objects)
    (any_filter (λ (x : Object). same_pair (kind, name) (x.id.kind, x.id.name)) (λ (x : Object). can_be_copied x.id.kind) s.objects
    ∙ any_by (λ (x : Object). same_pair (kind, name) (x.id.kind, x.id.name)) (λ (x : Object). can_be_copied x.id.kind && same_pair (kind, name) (x.id.kind, x.id.name)) s.objects
    (λ x same. and_from (can_be_copied x.id.kind) (same_pair (kind, name) (x.id.kind, x.id.name)) (ap can_be_copied (sym (pair_is (kind, name) (x.id.kind, x.id.name) same).0) ∙ parts.0) same) parts.1))
  where
    alike : (x y : Kind × List ℕ) → same_pair (kind, name) x ≡ true → same_pair x y ≡ true → same_pair (kind, name) y ≡ true
    alike x y here is = let e = pair_is x y is in (λ i. (number_of kind == number_of (sym e.0 i)) && bytes_eq name (sym e.1 i)) ∙ here

    in_pairs : (xs : Objects) → list_any (λ (x : Object). same_pair (kind, name) (x.id.kind, x.id.name)) xs ≡ true → list_any (same_pair (kind, name)) (map (λ (x : Object). (x.id.kind, x.id.name)) xs) ≡ true
    in_pairs [] e = e
    in_pairs (x ∷ xs) e = elim (or_cases (same_pair (kind, name) (x.id.kind, x.id.name)) (list_any (λ (y : Object). same_pair (kind, name) (y.id.kind, y.id.name)) xs) e) [
      | inl here ↦ or_left (same_pair (kind, name) (x.id.kind, x.id.name)) _ here
      | inr later ↦ or_right (same_pair (kind, name) (x.id.kind, x.id.name)) _ (in_pairs xs later)
    ]

module _ (s : State) where
  abbrev of_names : List Key
  of_names = flat_map (keys_of_name (pairs_of s)) (names_asked s)

  abbrev of_anchors : List Key
  of_anchors = flat_map keys_of_anchor (anchors_of s)

  abbrev of_quotas : List Key
  of_quotas = map key_of_quota (quotas_of s)

  from_name : (k : Key) (n : List ℕ) → is_name s n ≡ true → is_among k (keys_of_name (pairs_of s) n) ≡ true → is_among k (all_keys s) ≡ true
  from_name k n named own =
      among_append k of_names (of_anchors ++ of_quotas)
      ∙ or_left (is_among k of_names) (is_among k (of_anchors ++ of_quotas)) (in_flat_map k (keys_of_name (pairs_of s)) (names_asked s) (passing_name (λ m. is_among k (keys_of_name (pairs_of s) m)) n (names_asked s) (name_in s n named) own))

  from_anchor : (k : Key) (n m : List ℕ) → is_some (object_at s.objects (id_in SubnamespaceAnchor m n)) ≡ true → ((x : Object) → x.id ≡ id_in SubnamespaceAnchor m n → is_among k (keys_of_anchor x) ≡ true) → is_among k (all_keys s) ≡ true
  from_anchor k n m there own = by (object_at s.objects (id_in SubnamespaceAnchor m n)) refl there
    where
      by : (o : Option Object) → object_at s.objects (id_in SubnamespaceAnchor m n) ≡ o → is_some o ≡ true → is_among k (all_keys s) ≡ true
      by None at e = absurd (true≢false (sym e))
      by (Some x) at e =
          let is : x.id ≡ id_in SubnamespaceAnchor m n = sym (found_id s.objects (id_in SubnamespaceAnchor m n) x at) in
          let listed : list_any (λ (y : Object). is_among k (keys_of_anchor y)) (anchors_of s) ≡ true =
          any_filter (λ (y : Object). is_among k (keys_of_anchor y)) (λ (y : Object). is_anchor y.id.kind) s.objects
          ∙ passing_object (λ (y : Object). is_anchor y.id.kind && is_among k (keys_of_anchor y)) s.objects (id_in SubnamespaceAnchor m n) x at (and_from (is_anchor x.id.kind) (is_among k (keys_of_anchor x)) (ap (λ (q : Id). is_anchor q.kind) is) (own x is)) in
          among_append k of_names (of_anchors ++ of_quotas)
          ∙ or_right (is_among k of_names) (is_among k (of_anchors ++ of_quotas)) (among_append k of_anchors of_quotas ∙ or_left (is_among k of_anchors) (is_among k of_quotas) (in_flat_map k keys_of_anchor (anchors_of s) listed))

  from_quota : (n name : List ℕ) → is_some (object_at s.objects (id_in HierarchicalResourceQuota name n)) ≡ true → is_among (key.Used n name) (all_keys s) ≡ true
  from_quota n name there = by (object_at s.objects (id_in HierarchicalResourceQuota name n)) refl there
    where
      k : Key
      k = key.Used n name

      by : (o : Option Object) → object_at s.objects (id_in HierarchicalResourceQuota name n) ≡ o → is_some o ≡ true → is_among (key.Used n name) (all_keys s) ≡ true
      by None at e = absurd (true≢false (sym e))
      by (Some x) at e =
          let is : x.id ≡ id_in HierarchicalResourceQuota name n = sym (found_id s.objects (id_in HierarchicalResourceQuota name n) x at) in
          let own : same_key (key.Used n name) (key_of_quota x) ≡ true = ap (λ (q : Id). same_key (key.Used n name) (key.Used q.ns q.name)) is ∙ same_key_itself (key.Used n name) in
          let listed : list_any (λ (y : Object). same_key (key.Used n name) (key_of_quota y)) (quotas_of s) ≡ true =
          any_filter (λ (y : Object). same_key (key.Used n name) (key_of_quota y)) (λ (y : Object). is_quota y.id.kind) s.objects
          ∙ passing_object (λ (y : Object). is_quota y.id.kind && same_key (key.Used n name) (key_of_quota y)) s.objects (id_in HierarchicalResourceQuota name n) x at (and_from (is_quota x.id.kind) (same_key (key.Used n name) (key_of_quota x)) (ap (λ (q : Id). is_quota q.kind) is) own) in
          among_append (key.Used n name) of_names (of_anchors ++ of_quotas)
          ∙ or_right (is_among (key.Used n name) of_names) (is_among (key.Used n name) (of_anchors ++ of_quotas)) (among_append (key.Used n name) of_anchors of_quotas ∙ or_right (is_among (key.Used n name) of_anchors) (is_among (key.Used n name) of_quotas) (in_map (key.Used n name) key_of_quota (quotas_of s) listed))

  copy_among : (n : List ℕ) (kind : Kind) (name : List ℕ) → (can_be_copied kind && has_named s.objects kind name) ≡ true → is_among (key.Copy n kind name) (keys_of_name (pairs_of s) n) ≡ true
  copy_among n kind name held =
      let k = key.Copy n kind name in
      let copies = map (λ (p : Kind × List ℕ). key.Copy n p.0 p.1) (pairs_of s) in
      or_right (same_key k (key.Purge n)) (is_among k (key.Tree n ∷ key.Report n ∷ copies)) (
      or_right (same_key k (key.Tree n)) (is_among k (key.Report n ∷ copies)) (
      or_right (same_key k (key.Report n)) (is_among k copies) (
      in_map k (λ (p : Kind × List ℕ). key.Copy n p.0 p.1) (pairs_of s)
      (any_by (same_pair (kind, name)) (λ (p : Kind × List ℕ). same_key k (key.Copy n p.0 p.1)) (pairs_of s)
      (λ p is. let e = pair_is (kind, name) p is in (λ i. same_key k (key.Copy n (sym e.0 i) (sym e.1 i))) ∙ same_key_itself k) (pair_in s kind name held)))))

  pub all_have : (k : Key) → is_key s k ≡ true → is_among k (all_keys s) ≡ true
  all_have (key.Copy n kind name) h = let parts = and_parts (is_name s n) _ h in from_name (key.Copy n kind name) n parts.0 (copy_among n kind name parts.1)
  all_have (key.Purge n) h = from_name (key.Purge n) n h (or_left (same_key (key.Purge n) (key.Purge n)) _ (same_key_itself (key.Purge n)))
  all_have (key.Tree n) h = from_name (key.Tree n) n h (or_right (same_key (key.Tree n) (key.Purge n)) _ (or_left (same_key (key.Tree n) (key.Tree n)) _ (same_key_itself (key.Tree n))))
  all_have (key.Report n) h =
      from_name (key.Report n) n h (or_right (same_key (key.Report n) (key.Purge n)) _ (or_right (same_key (key.Report n) (key.Tree n)) _ (or_left (same_key (key.Report n) (key.Report n)) _ (same_key_itself (key.Report n)))))
  all_have (key.Child n m) h =
      from_anchor (key.Child n m) n m h (λ x is. or_left (same_key (key.Child n m) (key.Child x.id.ns x.id.name)) _ (ap (λ (q : Id). same_key (key.Child n m) (key.Child q.ns q.name)) is ∙ same_key_itself (key.Child n m)))
  all_have (key.Anchor n m) h =
      from_anchor (key.Anchor n m) n m h (λ x is. or_right (same_key (key.Anchor n m) (key.Child x.id.ns x.id.name)) _ (or_left (same_key (key.Anchor n m) (key.Anchor x.id.ns x.id.name)) _ (ap (λ (q : Id). same_key (key.Anchor n m) (key.Anchor q.ns q.name)) is ∙ same_key_itself (key.Anchor n m))))
  all_have (key.Used n name) h = from_quota n name h

-- ---- distinct keys are no more

pub keys_count : KeysCount
keys_count s keys distinct each =
    let few : length keys ≤ length (all_keys s) =
    length-le_from_is_member key_laws keys (all_keys s) distinct (λ q among.
    let found = any_witness (λ k. is_key s k ≡ true) (same_key q) keys each among in
    all_have s q (ap (is_key s) (same_key_is q found.0 found.2) ∙ found.1)) in
    omega (arith, few, all_count s)
