-- What counters tell of a subtree is what its objects use.
--     LieThere                  what is charged lies in a namespace that is there
--     lie_there                 it does, where each object lies in a namespace that is there
--     none_outside              then nothing is charged where there is no namespace
--     used_counted              what counters tell of a subtree is what its objects are charged, where both have the same chains
--     nothing_counted           nothing that is counted is charged where there is no namespace
--     lie_counted               so what is counted lies in namespaces that are there
--     used_of_counts, used_told      so it is for all that counts;  of a state
use Rattle.std.proofs.Common.{◌≡◌, ℕ, zero, suc, ◌+◌, ◌≤◌, ◌<◌, Bool, true, false, cond, ◌||◌, Option, Some, None, List, [], ◌∷◌, map, refl, sym, ap, subst, ◌∙◌, arith, true≢false}
use Rattle.std.specs.Prelude.{is_some, sum_by, if◌then◌else◌, option_and_then}
use Rattle.std.specs.List.{AllByRecursion}
use Rattle.std.specs.Map.{lookup}
use Rattle.std.specs.Option.{option_map_or}
use Rattle.std.specs.Str.{bytes_eq}
use Rattle.std.proofs.lemmas.Bool.{and_parts, false_from_ne_true, true_from_ne_false}
use Rattle.std.proofs.lemmas.List.Sums.{sum_by-cons}
use Rattle.std.proofs.lemmas.Option.{none-some}
use Rattle.hx_object.specs.Kinds.{is_in_cluster, is_namespace, is_plain}
use Rattle.hx_object.specs.declared.kind.Kind.{Kind}
use Rattle.hx_object.specs.declared.kind.Kind.TheVariants as of
use Rattle.hx_object.specs.declared.object.Id.{Id}
use Rattle.hx_object.specs.declared.object.Object.{Object}
use Rattle.hx_model.specs.Charges.{charge_of}
use Rattle.hx_model.specs.Forest.{Forest, is_in, is_there, in_chain}
use Rattle.hx_model.specs.Quotas.{charge_below, used}
use Rattle.hx_model.specs.State.{State, Objects, same_id, object_at, namespace_id, has_home}
use Rattle.hx_model.specs.Tree.{node_in, namespaces_in, forest_in, forest_of}
use Rattle.hx_model.specs.Valid.{AreHoused}
use Rattle.hx_model.specs.declared.node.Node.{Node}
use Rattle.hx_model.specs.declared.resource.Resource.{Resource}
use Rattle.hx_model.proofs.Admitting.{charged_plain}
use Rattle.hx_model.proofs.Climbing.{is_same, same_itself}
use Rattle.hx_model.proofs.Objects.{is_same_id}
use Rattle.hx_model.proofs.Parents.{swap_same}
use Rattle.hx_forest.proofs.Named.{is_below_all, ascends, none_below, lookup-without_value}
use Rattle.hx_quota.specs.Counters.{Entry}
use Rattle.hx_quota.specs.Counters.{Entries, entry_of, tree_of, own_of, part_of, used_in, without_entry}
use Rattle.hx_quota.specs.Counting.{Counts, AreRegular, charge_in, own_charge}
use Rattle.hx_quota.proofs.CountingChains.{chains}
use Rattle.hx_quota.proofs.CountingRegular.{in_order}
use Rattle.hx_quota.proofs.Cutting.{of_entry, sum-cut, sum-alike, sum-both}
use Rattle.hx_quota.proofs.Sums.{Pair}

-- ---- objects lie in namespaces

-- what is charged lies in a namespace that is there
abbrev LiesThere : Forest → Object → Type 0
LiesThere f x = (r : Resource) → 0 < charge_of x r → is_there f x.id.ns ≡ true

abbrev pub LieThere : Forest → Objects → Type 0
LieThere f objects = AllByRecursion (LiesThere f) objects

-- kinds that are kept as they are given lie in namespaces
plain_inside : (kind : Kind) → is_plain kind ≡ true → is_in_cluster kind ≡ false
plain_inside of.Namespace plain = absurd (true≢false (sym plain))
plain_inside of.HncConfiguration plain = absurd (true≢false (sym plain))
plain_inside of.HierarchyConfiguration plain = absurd (true≢false (sym plain))
plain_inside of.SubnamespaceAnchor plain = absurd (true≢false (sym plain))
plain_inside of.HierarchicalResourceQuota plain = absurd (true≢false (sym plain))
plain_inside _ plain = refl

-- the row of a namespace in the tree
abbrev row_of : List (List ℕ) → Objects → Object → List ℕ × Node
row_of excluded all x = (x.id.name, node_in excluded all x)

-- a namespace that is found is in the tree
found_there : (excluded : List (List ℕ)) (all objects : Objects) (n : List ℕ) → is_some (object_at objects (namespace_id n)) ≡ true → is_some (lookup (bytes_eq n) (map (row_of excluded all) (namespaces_in objects))) ≡ true
found_there excluded all [] n found = absurd (true≢false (sym found))
found_there excluded all (y ∷ objects) n found =
    elim (same_id (namespace_id n) y.id) as (λ b. same_id (namespace_id n) y.id ≡ b → is_some (cond b (Some y) (object_at objects (namespace_id n))) ≡ true → is_some (lookup (bytes_eq n) (map (row_of excluded all) (namespaces_in (y ∷ objects)))) ≡ true) [
      | true ↦ λ same _.
          let is : namespace_id n ≡ y.id = is_same_id (namespace_id n) y.id same in
          let kind : is_namespace y.id.kind ≡ true = ap (λ (q : Id). is_namespace q.kind) (sym is) in
          let name : bytes_eq n y.id.name ≡ true = ap (λ (q : Id). bytes_eq n q.name) (sym is) ∙ same_itself n in
          ap (λ b. is_some (lookup (bytes_eq n) (map (row_of excluded all) (cond b (y ∷ namespaces_in objects) (namespaces_in objects))))) kind
          ∙ ap (λ b. is_some (cond b (Some (node_in excluded all y)) (lookup (bytes_eq n) (map (row_of excluded all) (namespaces_in objects))))) name
      | false ↦ λ other later. among (is_namespace y.id.kind) (found_there excluded all objects n later)
    ] refl found
  where
    rows : Objects → List (List ℕ × Node)
    rows xs = map (row_of excluded all) xs

    first : (c : Bool) → is_some (lookup (bytes_eq n) (rows (namespaces_in objects))) ≡ true → is_some (cond c (Some (node_in excluded all y)) (lookup (bytes_eq n) (rows (namespaces_in objects)))) ≡ true
    first true later = refl
    first false later = later

    among : (b : Bool) → is_some (lookup (bytes_eq n) (rows (namespaces_in objects))) ≡ true → is_some (lookup (bytes_eq n) (rows (cond b (y ∷ namespaces_in objects) (namespaces_in objects)))) ≡ true
    among true later = first (bytes_eq n y.id.name) later
    among false later = later

-- who has a home lies in a namespace that is found
home_found : (objects : Objects) (id : Id) → is_in_cluster id.kind ≡ false → has_home objects id ≡ true → is_some (object_at objects (namespace_id id.ns)) ≡ true
home_found objects id inside homed = subst (λ (b : Bool). (b || is_some (option_and_then (object_at objects) (if b then None else Some (namespace_id id.ns)))) ≡ true) inside homed

lie_in : (f : Forest) (objects xs : Objects) → ((n : List ℕ) → is_some (object_at objects (namespace_id n)) ≡ true → is_there f n ≡ true) → AllByRecursion (λ (x : Object). has_home objects x.id ≡ true) xs → LieThere f xs
lie_in f objects [] there homed = tt
lie_in f objects (x ∷ xs) there homed =
    (λ r charged. there x.id.ns (home_found objects x.id (plain_inside x.id.kind (charged_plain x r charged)) homed.0), lie_in f objects xs there homed.1)

pub lie_there : (f : Forest) (excluded : List (List ℕ)) (objects : Objects) → f ≡ forest_in excluded objects → AreHoused objects → LieThere f objects
lie_there f excluded objects is housed = lie_in f objects objects (λ n found. subst (λ (t : Forest). is_there t n ≡ true) (sym is) (found_there excluded objects objects n found)) housed

-- then nothing is charged where there is no namespace
pub none_outside : (f : Forest) (objects : Objects) → LieThere f objects → (n : List ℕ) (r : Resource) → is_there f n ≡ false → own_charge objects n r ≡ 0
none_outside f [] lie n r out = refl
none_outside f (x ∷ objects) lie n r out =
    let free : charge_in n r x ≡ 0 = here (bytes_eq x.id.ns n) refl in
    omega (arith, free, none_outside f objects lie.1 n r out, sum_by-cons (charge_in n r) x objects)
  where
    zero_of : (k : ℕ) → (0 < k → ⊥) → k ≡ 0
    zero_of zero never = refl
    zero_of (suc k) never = absurd (never (omega arith))

    here : (b : Bool) → bytes_eq x.id.ns n ≡ b → charge_in n r x ≡ 0
    here false other = ap (λ b. cond b (charge_of x r) 0) other
    here true same = ap (λ b. cond b (charge_of x r) 0) same ∙ zero_of (charge_of x r) (λ charged. true≢false (sym (lie.0 r charged) ∙ subst (λ (k : List ℕ). is_there f k ≡ false) (sym (is_same x.id.ns n same)) out))

-- ---- sums over entries

no_sum : (es : Entries) → sum_by (λ (e : Pair). 0) es ≡ 0
no_sum [] = refl
no_sum (e ∷ es) = omega (arith, sum_by-cons (λ (e : Pair). 0) e es, no_sum es)

nothing : (b : Bool) → cond {A = ℕ} b 0 0 ≡ 0
nothing true = refl
nothing false = refl

-- of what belongs to one name alone
sum_one : (h : List ℕ → ℕ) (n : List ℕ) (es : Entries) → ascends es ≡ true → ((m : List ℕ) → bytes_eq n m ≡ false → h m ≡ 0) → sum_by (λ (e : Pair). h e.0) es ≡ cond (is_some (entry_of es n)) (h n) 0
sum_one h n es up only =
    let whole = sum-cut (λ (e : Pair). h e.0) n es up in
    let others : sum_by (λ (e : Pair). h e.0) (without_entry n es) ≡ 0 = sum-alike (λ (e : Pair). h e.0) (λ e. 0) (without_entry n es) (λ e has. only e.0 (other e.0 has)) ∙ no_sum (without_entry n es) in
    let own : of_entry (λ (e : Pair). h e.0) n (entry_of es n) ≡ cond (is_some (entry_of es n)) (h n) 0 = either (entry_of es n) in
    omega (arith, whole, others, own)
  where
    either : (o : Option Entry) → of_entry (λ (e : Pair). h e.0) n o ≡ cond (is_some o) (h n) 0
    either None = refl
    either (Some e) = refl

    other : (m : List ℕ) → is_some (entry_of (without_entry n es) m) ≡ true → bytes_eq n m ≡ false
    other m has = swap_same m n (false_from_ne_true (bytes_eq m n) (λ same. true≢false (sym has ∙ ap is_some (lookup-without_value n es m ∙ ap (λ b. cond b None (entry_of es m)) same))))

-- two sums over entries in order
sum_found : (g h : Pair → ℕ) (es : Entries) → ascends es ≡ true → ((e : Pair) → entry_of es e.0 ≡ Some e.1 → g e ≡ h e) → sum_by g es ≡ sum_by h es
sum_found g h [] up same = refl
sum_found g h (y ∷ es) up same =
    let parts = and_parts (is_below_all y.0 es) (ascends es) up in
    let here : g y ≡ h y = same y (ap (λ b. cond b (Some y.1) (entry_of es y.0)) (same_itself y.0)) in
    let rest : sum_by g es ≡ sum_by h es = sum_found g h es parts.1 (λ e found. same e (ap (λ b. cond b (Some y.1) (entry_of es e.0)) (apart e parts.0 found) ∙ found)) in
    omega (arith, here, rest, sum_by-cons g y es, sum_by-cons h y es)
  where
    apart : (e : Pair) → is_below_all y.0 es ≡ true → entry_of es e.0 ≡ Some e.1 → bytes_eq e.0 y.0 ≡ false
    apart e below found = false_from_ne_true (bytes_eq e.0 y.0) (λ is. none-some e.1 (sym (subst (λ (k : List ℕ). entry_of es k ≡ None) (sym (is_same e.0 y.0 is)) (none_below y.0 es below)) ∙ found))

-- ---- what is charged, entry by entry and object by object

module _ (test : List ℕ → Bool) (r : Resource) (es : Entries) (up : ascends es ≡ true) where
  -- what objects that are let in are charged, by namespaces
  abbrev by_names : Objects → ℕ
  by_names objects = sum_by (λ (e : Pair). cond (test e.0) (own_charge objects e.0 r) 0) es

  -- what one of them adds at a name
  abbrev at_name : Object → List ℕ → ℕ
  at_name x m = cond (test m) (charge_in m r x) 0

  elsewhere : (x : Object) (m : List ℕ) → bytes_eq x.id.ns m ≡ false → at_name x m ≡ 0
  elsewhere x m out = ap (λ b. cond (test m) (cond b (charge_of x r) 0) 0) out ∙ nothing (test m)

  split : (x : Object) (objects : Objects) (e : Pair) → cond (test e.0) (own_charge (x ∷ objects) e.0 r) 0 ≡ cond (test e.0) (own_charge objects e.0 r) 0 + at_name x e.0
  split x objects e = either (test e.0)
    where
      either : (b : Bool) → cond b (own_charge (x ∷ objects) e.0 r) 0 ≡ cond b (own_charge objects e.0 r) 0 + cond b (charge_in e.0 r x) 0
      either true = omega (arith, sum_by-cons (charge_in e.0 r) x objects)
      either false = refl

  one : (x : Object) → (0 < charge_of x r → is_some (entry_of es x.id.ns) ≡ true) → sum_by (λ (e : Pair). at_name x e.0) es ≡ cond (test x.id.ns) (charge_of x r) 0
  one x there =
      sum_one (at_name x) x.id.ns es up (elsewhere x)
      ∙ ap (λ b. cond (is_some (entry_of es x.id.ns)) (cond (test x.id.ns) (cond b (charge_of x r) 0) 0) 0) (same_itself x.id.ns)
      ∙ either (is_some (entry_of es x.id.ns)) (test x.id.ns) (charge_of x r) there
    where
      either : (b c : Bool) (k : ℕ) → (0 < k → b ≡ true) → cond b (cond c k 0) 0 ≡ cond c k 0
      either true c k h = refl
      either false false k h = refl
      either false true zero h = refl
      either false true (suc k) h = absurd (true≢false (sym (h (omega arith))))

  regroup : (objects : Objects) → AllByRecursion (λ (x : Object). 0 < charge_of x r → is_some (entry_of es x.id.ns) ≡ true) objects → by_names objects ≡ sum_by (λ (x : Object). cond (test x.id.ns) (charge_of x r) 0) objects
  regroup [] there = sum-alike (λ (e : Pair). cond (test e.0) 0 0) (λ e. 0) es (λ e _. nothing (test e.0)) ∙ no_sum es
  regroup (x ∷ objects) there =
      let rest = regroup objects there.1 in
      let whole = sum-both (λ (e : Pair). cond (test e.0) (own_charge (x ∷ objects) e.0 r) 0) (λ (e : Pair). cond (test e.0) (own_charge objects e.0 r) 0) (λ (e : Pair). at_name x e.0) true es (split x objects) in
      omega (arith, rest, whole, one x there.0, sum_by-cons (λ (x : Object). cond (test x.id.ns) (charge_of x r) 0) x objects)

-- ---- subtrees

counted_there : (objects xs : Objects) (f : Forest) (es : Entries) (r : Resource) → Counts objects f es → LieThere f xs → AllByRecursion (λ (x : Object). 0 < charge_of x r → is_some (entry_of es x.id.ns) ≡ true) xs
counted_there objects [] f es r counts lie = tt
counted_there objects (x ∷ xs) f es r counts lie = (λ charged. counts.there x.id.ns ∙ lie.0 r charged, counted_there objects xs f es r counts lie.1)

pub used_counted : (objects : Objects) (f : Forest) (es : Entries) → AreRegular es → Counts objects f es → LieThere f objects → (a : List ℕ) → ((n : List ℕ) → in_chain (tree_of es) n a ≡ in_chain f n a) → (r : Resource) → used_in es a r ≡ sum_by (charge_below f a r) objects
used_counted objects f es regular counts lie a chains r =
    let up = in_order es regular in
    sum_found (part_of (tree_of es) a r) (λ e. cond (in_chain f e.0 a) (own_charge objects e.0 r) 0) es up (λ e found.
    λ i. cond (chains e.0 i) ((ap (λ (o : Option Entry). option_map_or (own_of r) o 0) (sym found) ∙ counts.own e.0 r) i) 0)
    ∙ regroup (λ n. in_chain f n a) r es up objects (counted_there objects objects f es r counts lie)

-- ---- what is counted lies in namespaces

-- what each object is charged is within what its namespace is
own_part : (own : List ℕ → Resource → ℕ) (xs : Objects) → ((n : List ℕ) (r : Resource) → own_charge xs n r ≤ own n r) → AllByRecursion (λ (x : Object). (r : Resource) → charge_of x r ≤ own x.id.ns r) xs
own_part own [] within = tt
own_part own (x ∷ xs) within = (
  λ r.
      let here : charge_in x.id.ns r x ≡ charge_of x r = ap (λ b. cond b (charge_of x r) 0) (same_itself x.id.ns) in
      omega (arith, here, within x.id.ns r, sum_by-cons (charge_in x.id.ns r) x xs),
  own_part own xs (λ n r. omega (arith, within n r, sum_by-cons (charge_in n r) x xs)),
)

-- nothing that is counted is charged where there is no namespace
pub nothing_counted : (objects : Objects) (f : Forest) (es : Entries) → Counts objects f es → (n : List ℕ) (r : Resource) → is_there f n ≡ false → own_charge objects n r ≡ 0
nothing_counted objects f es counts n r out = sym (counts.own n r) ∙ at (entry_of es n) (counts.there n ∙ out)
  where
    at : (o : Option Entry) → is_some o ≡ false → option_map_or (own_of r) o 0 ≡ 0
    at None none = refl
    at (Some e) none = absurd (true≢false none)

lie_by : (f : Forest) (own : List ℕ → Resource → ℕ) (xs : Objects) → ((n : List ℕ) (r : Resource) → is_there f n ≡ false → own n r ≡ 0) → AllByRecursion (λ (x : Object). (r : Resource) → charge_of x r ≤ own x.id.ns r) xs → LieThere f xs
lie_by f own [] none parts = tt
lie_by f own (x ∷ xs) none parts = (λ r charged. true_from_ne_false (is_there f x.id.ns) (λ out. over (charge_of x r) (own x.id.ns r) charged (parts.0 r) (none x.id.ns r out)), lie_by f own xs none parts.1)
  where
    over : (a b : ℕ) → 0 < a → a ≤ b → b ≡ 0 → ⊥
    over a b pos le is = omega (arith, pos, le, is)

pub lie_counted : (objects : Objects) (f : Forest) (es : Entries) → Counts objects f es → LieThere f objects
lie_counted objects f es counts = lie_by f (own_charge objects) objects (nothing_counted objects f es counts) (own_part (own_charge objects) objects (λ n r. omega arith))

-- what the counters tell of a subtree is what its objects are charged
pub used_of_counts : (objects : Objects) (f : Forest) (es : Entries) → AreRegular es → Counts objects f es → (a : List ℕ) (r : Resource) → used_in es a r ≡ sum_by (charge_below f a r) objects
used_of_counts objects f es regular counts a r = used_counted objects f es regular counts (lie_counted objects f es counts) a (λ n. ap (is_in a) (chains objects f es counts n)) r

pub used_told : (s : State) (es : Entries) → AreRegular es → Counts s.objects (forest_of s) es → (a : List ℕ) (r : Resource) → used_in es a r ≡ used s a r
unfolding used
used_told s es regular counts a r = used_of_counts s.objects (forest_of s) es regular counts a r
