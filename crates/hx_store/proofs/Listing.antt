-- What a sort of the listed objects gives: the objects that are listed.
use Rattle.std.proofs.Common.{◌≡◌, ℕ, ◌+◌, ◌-◌, ◌<◌, ◌==◌, Bool, true, false, cond, ◌&&◌, Option, Some, None, List, [], ◌∷◌, ◌++◌, filter, map, length, get_or, Ordering, Less, Equal, Greater, is_eq, is_lt, refl, sym, ap, subst, ◌∙◌, arith, true≢false, eqb-true, eq-eqb}
use Rattle.std.specs.Prelude.{option_and_then, slice_get}
use Rattle.std.specs.Ordering.{ordering_reverse}
use Rattle.std.specs.Option.{option_map_or}
use Rattle.std.specs.List.{AllByRecursion, IsDistinct, flat_map}
use Rattle.std.specs.List.Sorted.{IsPermutation, IsSortedBy, IsSortedByKey, IsStrictlySortedBy}
use Rattle.std.specs.Str.{bytes_eq}
use Rattle.std.specs.Borrow.{Bor}
use Rattle.std.specs.Cmp.{IsStrictWeakOrder, IsEquivalence, both_ways}
use Rattle.std.specs.Fn.{Called, Mut, ComparesAs}
use lib.ListN.{length-map}
use Rattle.std.specs.Map.{keys_of, lookup}
use Rattle.std.proofs.lemmas.Bool.{and_from, and_parts}
use Rattle.std.proofs.lemmas.List.{get_or-map}
use Rattle.std.proofs.lemmas.List.Sorted.{IsPermutation-map, ranks_by}
use Rattle.std.proofs.lemmas.Fn.{always_returns_same}
use Rattle.std.proofs.lemmas.Map.Entries.{option_filter}
use Rattle.std.proofs.lemmas.Map.Keys.{IsDistinct-cons, IsDistinct-IsPermutation, apart_from_distinct, sorted_from_all_adjacent, sorted_head, sorted_tail}
use Rattle.std.proofs.lemmas.Slice.Eq.{bytes_eq-Decides}
use Rattle.indexmap.proofs.MapLemmas.{lookup_permutation}
use Rattle.hx_object.specs.Kinds.{number_of}
use Rattle.hx_object.specs.declared.kind.Kind.{Kind}
use Rattle.hx_object.specs.declared.object.Id.{Id}
use Rattle.hx_object.specs.declared.object.Object.{Object}
use Rattle.hx_object.specs.Order.{id_cmp}
use Rattle.hx_object.specs.contracts.object.IdPartialEq.TheImpl as id_eq
use Rattle.hx_object.specs.contracts.object.IdEq.TheImpl.Laws.{laws-law}
use Rattle.hx_object.specs.contracts.object.IdOrd.TheImpl.Laws.{matches_eq-law}
use Rattle.hx_object.proofs.Identities.{derived_cmp}
use Rattle.hx_model.specs.State.{Objects, same_id, object_at, is_below_all, ascends}
use Rattle.hx_model.specs.Answers.{is_listed}
use Rattle.hx_model.proofs.Objects.{id_total, same_id-cmp, same_from_Equal, same_rows, ascends-filter, object_at-filter, ascends-objects_from}
use Rattle.hx_store.specs.ObjectTable.{IsSound, found, kind_at, place_in, place_of, place_at, name_map_in, objects_in, objects_under, objects_listed, all_objects, objects_at}
use Rattle.hx_store.specs.declared.name_map.NameMap.{NameMap}
use Rattle.hx_store.specs.declared.kind_table.KindTable.{KindTable}
use Rattle.hx_store.specs.declared.object_table.ObjectTable.{ObjectTable}
use Rattle.hx_store.proofs.Finding.{and_true, id_of, found_in, found_of, found_at, own_in}
use Rattle.hx_store.proofs.Apart.{AreApart, name_map_apart, kind_table_apart}

-- whether two identities are one, as maps test it
id_test : Id → Id → Bool
id_test = (id_eq.ghosts).eq

id_laws : IsEquivalence id_test
unfolding id_test
id_laws = laws-law

id_test-same : (a b : Id) → id_test a b ≡ same_id a b
unfolding id_test
id_test-same a b = matches_eq-law a b ∙ ap is_eq (derived_cmp a b) ∙ sym (same_id-cmp a b)

abbrev pub ids : List Object → List Id
ids xs = map (λ x. x.id) xs

-- objects with their own keys
abbrev pairs : List Object → List (Id × Object)
pairs xs = map (λ x. (x.id, x)) xs

keys-pairs : (xs : List Object) → keys_of (pairs xs) ≡ ids xs
keys-pairs [] = refl
keys-pairs (x ∷ xs) = ap (λ l. x.id ∷ l) (keys-pairs xs)

lookup-pairs : (q : Id) (xs : List Object) → lookup (id_test q) (pairs xs) ≡ object_at xs q
lookup-pairs q [] = refl
lookup-pairs q (x ∷ xs) = λ i. cond {A = Option Object} (id_test-same q x.id i) (Some x) (lookup-pairs q xs i)

-- ---- the same objects are found in another order

distinct-permutation : (xs ys : List Object) → IsPermutation xs ys → IsDistinct id_test (ids xs) → IsDistinct id_test (ids ys)
distinct-permutation xs ys moved distinct = IsDistinct-IsPermutation id_test id_laws.symm (ids xs) (ids ys) (IsPermutation-map (λ x. x.id) xs ys moved) distinct

object_at-permutation : (xs ys : List Object) (q : Id) → IsPermutation xs ys → IsDistinct id_test (ids xs) → object_at ys q ≡ object_at xs q
object_at-permutation xs ys q moved distinct =
    let apart = subst (IsDistinct id_test) (sym (keys-pairs ys)) (distinct-permutation xs ys moved distinct) in
    sym (lookup-pairs q ys)
    ∙ lookup_permutation id_laws (pairs xs) (pairs ys) (IsPermutation-map (λ x. (x.id, x)) xs ys moved) apart (id_test q) (id_laws.congr q)
    ∙ lookup-pairs q xs

-- ---- a sort of objects whose identities differ puts them in ascending order

rises : (a b : Id) → is_lt (id_cmp b a) ≡ false → id_test a b ≡ false → id_cmp a b ≡ Less
rises a b not_less apart = by (id_cmp a b) refl
  where
    by : (o : Ordering) → id_cmp a b ≡ o → o ≡ Less
    by Less e = refl
    by Equal e = absurd (true≢false (sym (same_from_Equal a b e) ∙ sym (id_test-same a b) ∙ apart))
    by Greater e = absurd (true≢false (sym (ap is_lt (id_total.antisymm b a ∙ ap ordering_reverse e)) ∙ not_less))

below_from_all : (k : Id) (ys : List Object) → AllByRecursion (λ y. id_cmp k y ≡ Less) (ids ys) → is_below_all k ys ≡ true
below_from_all k [] less = refl
below_from_all k (y ∷ ys) less = and_from _ _ (ap is_lt less.0) (below_from_all k ys less.1)

ascends-from_sorted : (ys : List Object) → IsStrictlySortedBy id_cmp (ids ys) → ascends ys ≡ true
ascends-from_sorted [] sorted = refl
ascends-from_sorted (y ∷ ys) sorted =
    and_from _ _ (below_from_all y.id ys (sorted_head id_cmp y.id (ids ys) sorted)) (ascends-from_sorted ys (sorted_tail id_cmp y.id (ids ys) sorted))

ascends-sort : (ys : List Object) → IsSortedByKey (λ x. x.id) id_cmp ys → IsDistinct id_test (ids ys) → ascends ys ≡ true
ascends-sort [] sorted distinct = refl
ascends-sort (y ∷ ys) sorted distinct = ascends-from_sorted (y ∷ ys) (sorted_from_all_adjacent id_total (ids (y ∷ ys)) y.id next)
  where
    next : (k : ℕ) → k + 1 < length (ids (y ∷ ys)) → id_cmp (get_or (ids (y ∷ ys)) k y.id) (get_or (ids (y ∷ ys)) (k + 1) y.id) ≡ Less
    next k within =
        let long = length-map (y ∷ ys) (λ x. x.id) in
        let this = get_or-map (λ x. x.id) (y ∷ ys) k y y.id (omega (arith, long)) in
        let that = get_or-map (λ x. x.id) (y ∷ ys) (k + 1) y y.id (omega (arith, long)) in
        rises (get_or (ids (y ∷ ys)) k y.id) (get_or (ids (y ∷ ys)) (k + 1) y.id)
        ((λ i. is_lt (id_cmp (that i) (this i))) ∙ sorted k y (omega arith) (omega (arith, long)))
        (apart_from_distinct id_test (ids (y ∷ ys)) k (k + 1) y.id distinct (omega arith) within)

-- what a sort by identities ensures, where each call compares them
pub sorted_by_ids : {F : Type 0} {g : Mut F (Bor Object × (Bor Object × Unit {0})) Ordering} {f : F} (xs : List Object)
    → ((lt : Object → Object → Bool) → IsStrictWeakOrder lt → ComparesAs g lt f → IsSortedBy lt xs)
    → ((a : Bor Object × (Bor Object × Unit {0})) (r : Ordering) (f' : F) → Called g f a r f' → (r ≡ id_cmp a.0.now.id a.1.0.now.id) × (f' ≡ f)) → IsSortedByKey (λ x. x.id) id_cmp xs
sorted_by_ids {g = g} {f = f} xs up says = up (λ x y. is_lt (id_cmp x.id y.id)) (ranks_by id_total (λ (x : Object). x.id))
    (always_returns_same g (λ a r. is_lt r ≡ is_lt (id_cmp a.0.now.id a.1.0.now.id)) f (λ a r f' k. (ap is_lt (says a r f' k).0, (says a r f' k).1)))

distinct-apart : (xs : List Object) → AreApart xs → IsDistinct id_test (ids xs)
unfolding IsDistinct
distinct-apart [] apart = tt
distinct-apart (x ∷ xs) apart = IsDistinct-cons id_test x.id (ids xs) (others xs apart.0) (distinct-apart xs apart.1)
  where
    others : (ys : List Object) → object_at ys x.id ≡ None → AllByRecursion (λ y. id_test x.id y ≡ false) (ids ys)
    others [] none = tt
    others (y ∷ ys) none = by (same_id x.id y.id) refl none (λ rest. others ys rest)
      where
        by : (b : Bool) → same_id x.id y.id ≡ b → cond b (Some y) (object_at ys x.id) ≡ None → (object_at ys x.id ≡ None → AllByRecursion (λ z. id_test x.id z ≡ false) (ids ys)) → AllByRecursion (λ z. id_test x.id z ≡ false) (ids (y ∷ ys))
        by true e h rest = absurd (cc)
        by false e h rest = (id_test-same x.id y.id ∙ e, rest h)

-- the sort of objects that are found where a filter keeps what is found is the filter
pub listed : (p : Object → Bool) (objects : Objects) (xs ys : List Object) → ascends objects ≡ true → AreApart xs → IsPermutation xs ys → IsSortedByKey (λ x. x.id) id_cmp ys
    → ((q : Id) → object_at xs q ≡ option_filter p (object_at objects q)) → ys ≡ filter p objects
listed p objects xs ys up apart moved sorted finds =
    let distinct = distinct-apart xs apart in
    same_rows ys (filter p objects) (ascends-sort ys sorted (distinct-permutation xs ys moved distinct)) (ascends-filter p objects up)
    (λ q. object_at-permutation xs ys q moved distinct ∙ finds q ∙ sym (object_at-filter p objects q up))

-- ---- what is listed of places

-- an identity is of the kind, and lies in the namespace if one is asked for
is_under : Kind → Option (List ℕ) → Id → Bool
is_under kind ns q = (number_of q.kind == number_of kind) && option_map_or (bytes_eq q.ns) ns true

-- where each has nothing, all have nothing
pub flat_none : {X Y : Type 0} (f : X → List Y) → ((x : X) → f x ≡ []) → (xs : List X) → flat_map f xs ≡ []
flat_none f none [] = refl
flat_none f none (x ∷ xs) = (λ i. none x i ++ flat_map f xs) ∙ flat_none f none xs

pub flip_eqb : (a b : ℕ) → (a == b) ≡ (b == a)
flip_eqb a b = both_ways (a == b) (b == a) (λ h. eq-eqb b a (sym (eqb-true a b h))) (λ h. eq-eqb a b (sym (eqb-true b a h)))

pub same_then : (b : Bool) (u v : Option Object) → (b ≡ true → u ≡ v) → cond b u None ≡ cond b v None
same_then true u v same = same refl
same_then false u v same = refl

none_then : (b : Bool) (v : Option Object) → (b ≡ true → v ≡ None) → None ≡ cond b v None
none_then true v none = sym (none refl)
none_then false v none = refl

module _ (places : ObjectTable) (sound : IsSound places) (kind : Kind) where
  own_kind : (s : KindTable) → kind_at places kind ≡ Some s → (n m : List ℕ) (x : Object) → found (place_of s n m) ≡ Some x → x.id ≡ id_of kind n m
  own_kind s e n m x there = sound.own (id_of kind n m) x (ap (λ o. found (option_and_then (λ t. place_of t n m) o)) e ∙ there)

  same_place : (o : Option KindTable) → kind_at places kind ≡ o → (q : Id) → (number_of q.kind == number_of kind) ≡ true → place_at places q ≡ option_and_then (λ s. place_of s q.ns q.name) o
  same_place o e q same = ap (λ n. option_and_then (λ s. place_of s q.ns q.name) (slice_get places.kinds (n - 1))) (eqb-true (number_of q.kind) (number_of kind) same) ∙ ap (option_and_then (λ s. place_of s q.ns q.name)) e

  finds : (ns : Option (List ℕ)) (o : Option KindTable) → kind_at places kind ≡ o → (q : Id) → object_at (option_map_or (objects_under ns) o []) q ≡ cond (is_under kind ns q) (found (place_at places q)) None
  unfolding is_under
  finds ns None e q = none_then (is_under kind ns q) (found (place_at places q)) (λ t. ap found (same_place None e q (and_parts (number_of q.kind == number_of kind) (option_map_or (bytes_eq q.ns) ns true) t).0))
  finds None (Some s) e q =
      found_of kind s (sound.distinct.1 (number_of kind - 1) s e) (own_kind s e) q
      ∙ same_then (number_of q.kind == number_of kind) (found (place_of s q.ns q.name)) (found (place_at places q)) (λ t. ap found (sym (same_place (Some s) e q t)))
      ∙ ap (λ b. cond b (found (place_at places q)) None) (sym (and_true (number_of q.kind == number_of kind)))
  finds (Some ns) (Some s) e q = by (name_map_in s ns) refl
    where
      here : (number_of q.kind == number_of kind && bytes_eq q.ns ns) ≡ true → (o : Option NameMap) → name_map_in s ns ≡ o → place_at places q ≡ option_and_then (λ name_map. place_in name_map q.name) o
      here t o at =
          let parts = and_parts (number_of q.kind == number_of kind) (bytes_eq q.ns ns) t in
          same_place (Some s) e q parts.0 ∙ ap (option_and_then (λ name_map. place_in name_map q.name)) (ap (name_map_in s) ((bytes_eq-Decides q.ns ns).0 parts.1) ∙ at)

      by : (o : Option NameMap) → name_map_in s ns ≡ o → object_at (option_map_or objects_in o []) q ≡ cond (number_of q.kind == number_of kind && bytes_eq q.ns ns) (found (place_at places q)) None
      by None at = none_then (number_of q.kind == number_of kind && bytes_eq q.ns ns) (found (place_at places q)) (λ t. ap found (here t None at))
      by (Some name_map) at =
          found_in kind ns name_map ((sound.distinct.1 (number_of kind - 1) s e).1 ns name_map at).0.0 (own_in kind s (sound.distinct.1 (number_of kind - 1) s e) (own_kind s e) ns name_map at) q
          ∙ same_then (number_of q.kind == number_of kind && bytes_eq q.ns ns) (found (place_in name_map q.name)) (found (place_at places q)) (λ t. ap found (sym (here t (Some name_map) at)))

  are_apart : (ns : Option (List ℕ)) (o : Option KindTable) → kind_at places kind ≡ o → AreApart (option_map_or (objects_under ns) o [])
  are_apart ns None e = tt
  are_apart None (Some s) e = kind_table_apart kind s (sound.distinct.1 (number_of kind - 1) s e) (own_kind s e)
  are_apart (Some ns) (Some s) e = by (name_map_in s ns) refl
    where
      by : (o : Option NameMap) → name_map_in s ns ≡ o → AreApart (option_map_or objects_in o [])
      by None at = tt
      by (Some name_map) at = name_map_apart kind ns name_map ((sound.distinct.1 (number_of kind - 1) s e).1 ns name_map at).0.0 (own_in kind s (sound.distinct.1 (number_of kind - 1) s e) (own_kind s e) ns name_map at)

  -- what lies under the kind and the namespace is what a filter keeps
  kept : (ns : Option (List ℕ)) (q : Id) (o : Option Object) → found (place_at places q) ≡ o → cond (is_under kind ns q) o None ≡ option_filter (is_listed kind ns) o
  unfolding is_under
  kept ns q None e = either (is_under kind ns q)
    where
      either : (b : Bool) → cond {A = Option Object} b None None ≡ None
      either true = refl
      either false = refl
  kept ns q (Some x) e =
      ap (λ b. cond {A = Option Object} b (Some x) None) (ap (λ b. b && option_map_or (bytes_eq q.ns) ns true) (flip_eqb (number_of q.kind) (number_of kind)) ∙ ap (λ (i : Id). (number_of kind == number_of i.kind) && option_map_or (bytes_eq i.ns) ns true) (sym (sound.own q x e)))

  pub places_listed : (ns : Option (List ℕ)) (ys : List Object) → IsPermutation (objects_listed places kind ns) ys → IsSortedByKey (λ x. x.id) id_cmp ys → ys ≡ filter (is_listed kind ns) (objects_at places)
  places_listed ns ys moved sorted =
      listed (is_listed kind ns) (objects_at places) (objects_listed places kind ns) ys (ascends-objects_from (all_objects places)) (are_apart ns (kind_at places kind) refl) moved sorted
      (λ q. finds ns (kind_at places kind) refl q ∙ kept ns q (found (place_at places q)) refl ∙ ap (option_filter (is_listed kind ns)) (sym (found_at places sound q)))
