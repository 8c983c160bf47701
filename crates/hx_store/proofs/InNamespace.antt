-- The first object that lies in a namespace: that of the first kind that has one there, and of the least name.
use Rattle.std.proofs.Common.{get_or, ◌≡◌, ℕ, ◌≤◌, ◌<◌, ◌+◌, ◌-◌, Bool, true, false, cond, not, ◌&&◌, Option, Some, None, List, [], ◌∷◌, find, Ordering, Less, Equal, Greater, is_lt, refl, sym, ap, subst, ◌∙◌, arith, true≢false}
use Rattle.std.specs.Prelude.{is_some, option_and_then, slice_get, slice_set}
use Rattle.std.specs.Cmp.{nat_cmp_is, nat_cmp_total, ranks, tied_itself}
use Rattle.std.specs.Cmp.Lexicographic.{nat_list_cmp_total}
use Rattle.std.specs.Ordering.{MatchOrdering, nat_cmp, ordering_then}
use Rattle.std.specs.List.{AllByRecursion}
use Rattle.std.specs.Str.{bytes_eq}
use Rattle.std.proofs.lemmas.Bool.{and_from, and_parts}
use Rattle.std.proofs.lemmas.Option.{slice_get_within}
use Rattle.std.proofs.lemmas.Slice.Eq.{bytes_eq-Decides}
use Rattle.hx_object.specs.Kinds.{number_of, is_in_cluster}
use Rattle.hx_object.specs.Order.{id_cmp}
use Rattle.hx_object.specs.Texts.{bytes_cmp}
use Rattle.hx_object.specs.declared.kind.Kind.{Kind}
use Rattle.hx_object.specs.declared.kind.Kind.TheVariants.{Namespace, HncConfiguration}
use Rattle.hx_object.specs.declared.object.Id.{Id}
use Rattle.hx_object.specs.declared.object.Object.{Object}
use Rattle.hx_model.specs.State.{Objects, ascends, is_below_all, least_in, lies_in, object_at, same_id}
use Rattle.hx_model.proofs.Objects.{ascends-objects_from, is_same_id, none_below}
use Rattle.hx_store.specs.Least.{IsLeast}
use Rattle.hx_store.specs.ObjectTable.{IsObjectTable, IsKindTable, IsSound, all_objects, found, kind_at, objects_at, place_at, place_of, unchanged}
use Rattle.hx_store.specs.declared.object_table.ObjectTable.{ObjectTable}
use Rattle.hx_store.specs.declared.kind_table.KindTable.{KindTable}
use Rattle.hx_store.proofs.ByKind.{number_of-least, set_edits, set_places}
use Rattle.hx_store.proofs.Edits.{either_same}
use Rattle.hx_store.proofs.Finding.{found_at, id_of, kind_of_index, text_itself}
use Rattle.hx_store.proofs.Writing.{same_itself}

-- ---- the first of objects in order

-- what holds of each object that is found holds of each object
all_found : (P : Object → Type 0) (objects : Objects) → ascends objects ≡ true → ((y : Object) → object_at objects y.id ≡ Some y → P y) → AllByRecursion P objects
all_found P [] up holds = tt
all_found P (y ∷ objects) up holds =
    let parts = and_parts (is_below_all y.id objects) (ascends objects) up in
    (holds y (ap (λ b. cond b (Some y) (object_at objects y.id)) (same_itself y.id)), all_found P objects parts.1 (λ z there. holds z (later parts.0 z there (same_id z.id y.id) refl)))
  where
    later : is_below_all y.id objects ≡ true → (z : Object) → object_at objects z.id ≡ Some z → (b : Bool) → same_id z.id y.id ≡ b → object_at (y ∷ objects) z.id ≡ Some z
    later below z there true same = absurd (true≢false (ap is_some (sym there ∙ ap (object_at objects) (is_same_id z.id y.id same) ∙ none_below y.id objects below)))
    later below z there false other = ap (λ b. cond b (Some y) (object_at objects z.id)) other ∙ there

no_first : (p : Object → Bool) (objects : Objects) → AllByRecursion (λ y. p y ≡ false) objects → find p objects ≡ None
no_first p [] none = refl
no_first p (y ∷ objects) none = ap (λ b. cond b (Some y) (find p objects)) none.0 ∙ no_first p objects none.1

-- an identity that is below all is below what is found
below : (id : Id) (x : Object) (objects : Objects) → is_below_all id objects ≡ true → object_at objects x.id ≡ Some x → is_lt (id_cmp id x.id) ≡ true
below id x [] e none = absurd (true≢false (ap is_some (sym none)))
below id x (z ∷ objects) e at =
    let parts = and_parts (is_lt (id_cmp id z.id)) (is_below_all id objects) e in
    by (same_id x.id z.id) refl at parts.0 (below id x objects parts.1)
  where
    by : (b : Bool) → same_id x.id z.id ≡ b → cond b (Some z) (object_at objects x.id) ≡ Some x → is_lt (id_cmp id z.id) ≡ true → (object_at objects x.id ≡ Some x → is_lt (id_cmp id x.id) ≡ true) → is_lt (id_cmp id x.id) ≡ true
    by true same h less _ = let this : z ≡ x = cc in subst (λ (w : Object). is_lt (id_cmp id w.id) ≡ true) this less
    by false _ h _ rest = rest h

-- the object that passes the test, where no lesser one does
first_is : (p : Object → Bool) (x : Object) (objects : Objects) → p x ≡ true → ascends objects ≡ true → object_at objects x.id ≡ Some x → AllByRecursion (λ y. p y ≡ true → is_lt (id_cmp y.id x.id) ≡ false) objects → find p objects ≡ Some x
first_is p x [] passes up there least = absurd (true≢false (ap is_some (sym there)))
first_is p x (y ∷ objects) passes up there least = by (same_id x.id y.id) refl there (λ h. first_is p x objects passes (and_parts (is_below_all y.id objects) (ascends objects) up).1 h least.1)
  where
    by : (b : Bool) → same_id x.id y.id ≡ b → cond b (Some y) (object_at objects x.id) ≡ Some x → (object_at objects x.id ≡ Some x → find p objects ≡ Some x) → find p (y ∷ objects) ≡ Some x
    by true same h _ = let this : y ≡ x = cc in ap (λ b. cond b (Some y) (find p objects)) (ap p this ∙ passes) ∙ ap (λ z. Some z) this
    by false other h rest = past (and_parts (is_below_all y.id objects) (ascends objects) up).0 (p y) refl ∙ rest h
      where
        past : is_below_all y.id objects ≡ true → (b : Bool) → p y ≡ b → cond b (Some y) (find p objects) ≡ find p objects
        past e true fits = absurd (true≢false (sym (below y.id x objects e h) ∙ least.0 fits))
        past e false _ = refl

-- ---- the first object of a namespace

-- the kinds from the third on lie in namespaces
in_namespaces : (k : Kind) → 2 ≤ number_of k - 1 → is_in_cluster k ≡ false
in_namespaces Namespace h = absurd (omega arith)
in_namespaces HncConfiguration h = absurd (omega arith)
in_namespaces _ h = refl

from_third : (k : Kind) → is_in_cluster k ≡ false → 2 ≤ number_of k - 1
from_third Namespace e = absurd (true≢false e)
from_third HncConfiguration e = absurd (true≢false e)
from_third _ e = omega arith

not_true : (b : Bool) → not b ≡ true → b ≡ false
not_true true e = absurd (true≢false (sym e))
not_true false e = refl

-- no kind from the third up to an index has an object in the namespace
abbrev pub NoneBelow : ObjectTable → List ℕ → ℕ → Type 0
NoneBelow places ns n = (i : ℕ) → 2 ≤ i → i < n → (kind_table : KindTable) → slice_get places.kinds i ≡ Some kind_table → (name : List ℕ) → found (place_of kind_table ns name) ≡ None

module _ (places : ObjectTable) (sound : IsSound places) (ns : List ℕ) where
  abbrev fits : Object → Bool
  fits x = lies_in ns x.id

  up : ascends (objects_at places) ≡ true
  up = ascends-objects_from (all_objects places)

  -- an object that lies in the namespace is in the place of its name, on the tables of kinds of its kind
  its_place : (y : Object) → object_at (objects_at places) y.id ≡ Some y → fits y ≡ true → (s : KindTable) × (slice_get places.kinds (number_of y.id.kind - 1) ≡ Some s) × (found (place_of s ns y.id.name) ≡ Some y) × (2 ≤ number_of y.id.kind - 1)
  its_place y there fit = by (kind_at places y.id.kind) refl (sym (found_at places sound y.id) ∙ there)
    where
      parts : (not (is_in_cluster y.id.kind) ≡ true) × (bytes_eq ns y.id.ns ≡ true)
      parts = and_parts (not (is_in_cluster y.id.kind)) (bytes_eq ns y.id.ns) fit

      by : (o : Option KindTable) → kind_at places y.id.kind ≡ o → found (option_and_then (λ s. place_of s y.id.ns y.id.name) o) ≡ Some y
          → (s : KindTable) × (slice_get places.kinds (number_of y.id.kind - 1) ≡ Some s) × (found (place_of s ns y.id.name) ≡ Some y) × (2 ≤ number_of y.id.kind - 1)
      by None e h = absurd (true≢false (ap is_some (sym h)))
      by (Some s) e h = (s, e, ap (λ n. found (place_of s n y.id.name)) ((bytes_eq-Decides ns y.id.ns).0 parts.1) ∙ h, from_third y.id.kind (not_true (is_in_cluster y.id.kind) parts.0))

  pub none_lies : NoneBelow places ns 14 → None ≡ least_in (objects_at places) ns
  none_lies none = sym (no_first fits (objects_at places) (all_found (λ y. fits y ≡ false) (objects_at places) up (λ y there. by y there (fits y) refl)))
    where
      by : (y : Object) → object_at (objects_at places) y.id ≡ Some y → (b : Bool) → fits y ≡ b → b ≡ false
      by y there true fit =
          let its = its_place y there fit in
          let within = slice_get_within places.kinds (number_of y.id.kind - 1) its.0 its.1 in
          let long = sound.distinct.0 in
          absurd (true≢false (ap is_some (sym its.2 ∙ none (number_of y.id.kind - 1) its.3 (omega (arith, within, long)) its.0 its.1 y.id.name)))
      by y there false _ = refl

  module _ (i : ℕ) (third : 2 ≤ i) (s : KindTable) (at : slice_get places.kinds i ≡ Some s) (none : NoneBelow places ns i) (x : Object) (name : List ℕ) (there : found (place_of s ns name) ≡ Some x)
      (least : (other : List ℕ) (y : Object) → found (place_of s ns other) ≡ Some y → is_lt (bytes_cmp other name) ≡ false) where
    here : (k : Kind) × (number_of k ≡ i + 1)
    here = kind_of_index i (omega (arith, slice_get_within places.kinds i s at, sound.distinct.0))

    kind_here : kind_at places here.0 ≡ Some s
    kind_here = ap (slice_get places.kinds) (omega (arith, here.1)) ∙ at

    placed : found (place_at places (id_of here.0 ns name)) ≡ Some x
    placed = ap (λ o. found (option_and_then (λ t. place_of t ns name) o)) kind_here ∙ there

    own : x.id ≡ id_of here.0 ns name
    own = sound.own (id_of here.0 ns name) x placed

    fit : fits x ≡ true
    fit = ap (lies_in ns) own ∙ and_from (not (is_in_cluster here.0)) (bytes_eq ns ns) (ap not (in_namespaces here.0 (omega (arith, here.1, third)))) (text_itself ns)

    -- of one kind and namespace, the names decide
    by_names : (m : ℕ) (other : List ℕ) → m ≡ number_of here.0 → is_lt (bytes_cmp other name) ≡ false → is_lt (ordering_then (nat_cmp m (number_of here.0)) (ordering_then (bytes_cmp ns ns) (bytes_cmp other name))) ≡ false
    by_names m other same less =
        ap (λ o. is_lt (ordering_then o (ordering_then (bytes_cmp ns ns) (bytes_cmp other name)))) (ap (λ j. nat_cmp j (number_of here.0)) same ∙ ties (number_of here.0))
        ∙ ap (λ o. is_lt (ordering_then o (bytes_cmp other name))) (tied_itself nat_list_cmp_total ns) ∙ less
      where
        ties : (j : ℕ) → nat_cmp j j ≡ Equal
        ties j = tied_itself nat_cmp_total j

    -- and of a kind behind, the kinds
    by_kinds : (m : ℕ) (o : Ordering) → number_of here.0 < m → is_lt (ordering_then (nat_cmp m (number_of here.0)) o) ≡ false
    by_kinds m o more = ap (λ c. is_lt (ordering_then c o)) (sym (nat_cmp_is m (number_of here.0) Greater more))

    not_less : (y : Object) → object_at (objects_at places) y.id ≡ Some y → fits y ≡ true → is_lt (id_cmp y.id x.id) ≡ false
    not_less y found_y fit_y = ap (λ (q : Id). is_lt (id_cmp y.id q)) own ∙ by (its_place y found_y fit_y)
      where
        in_ns : y.id.ns ≡ ns
        in_ns = sym ((bytes_eq-Decides ns y.id.ns).0 (and_parts (not (is_in_cluster y.id.kind)) (bytes_eq ns y.id.ns) fit_y).1)

        by : (t : KindTable) × (slice_get places.kinds (number_of y.id.kind - 1) ≡ Some t) × (found (place_of t ns y.id.name) ≡ Some y) × (2 ≤ number_of y.id.kind - 1) → is_lt (id_cmp y.id (id_of here.0 ns name)) ≡ false
        by its = split (nat_cmp (number_of y.id.kind - 1) i) (ranks (number_of y.id.kind - 1) i)
          where
            split : (o : Ordering) → MatchOrdering o (number_of y.id.kind - 1 < i) (number_of y.id.kind - 1 ≡ i) (i < number_of y.id.kind - 1) → is_lt (id_cmp y.id (id_of here.0 ns name)) ≡ false
            split Less before = absurd (true≢false (ap is_some (sym its.2 ∙ none (number_of y.id.kind - 1) its.3 before its.0 its.1 y.id.name)))
            split Equal same =
                let this : its.0 ≡ s = one (sym its.1 ∙ ap (slice_get places.kinds) same ∙ at) in
                ap (λ n. is_lt (ordering_then (nat_cmp (number_of y.id.kind) (number_of here.0)) (ordering_then (bytes_cmp n ns) (bytes_cmp y.id.name name)))) in_ns
                ∙ by_names (number_of y.id.kind) y.id.name (omega (arith, here.1, same, number_of-least y.id.kind)) (least y.id.name y (ap (λ t. found (place_of t ns y.id.name)) (sym this) ∙ its.2))
              where
                one : Some its.0 ≡ Some s → its.0 ≡ s
                one e = cc
            split Greater behind = by_kinds (number_of y.id.kind) (ordering_then (bytes_cmp y.id.ns ns) (bytes_cmp y.id.name name)) (omega (arith, here.1, behind))

    pub first_lies : Some x ≡ least_in (objects_at places) ns
    first_lies = sym (first_is fits x (objects_at places) fit up (found_at places sound x.id ∙ ap (λ q. found (place_at places q)) own ∙ placed) (all_found (λ y. fits y ≡ true → is_lt (id_cmp y.id x.id) ≡ false) (objects_at places) up not_less))

  -- what the tables of kinds of a kind give, where no kind before has an object in the namespace
  pub kind_gives : (i : ℕ) (s : KindTable) (x : Object) → 2 ≤ i → slice_get places.kinds i ≡ Some s → NoneBelow places ns i → IsLeast (λ name. found (place_of s ns name)) (Some x) → Some x ≡ least_in (objects_at places) ns
  kind_gives i s x third at none least = first_lies i third s at none x least.0 least.1 least.2

  -- one more kind that has none
  pub more_none : (i : ℕ) (s : KindTable) → slice_get places.kinds i ≡ Some s → NoneBelow places ns i → IsLeast (λ name. found (place_of s ns name)) None → NoneBelow places ns (i + 1)
  more_none i s at none least j third less t there name = split (nat_cmp j i) (ranks j i)
    where
      split : (o : Ordering) → MatchOrdering o (j < i) (j ≡ i) (i < j) → found (place_of t ns name) ≡ None
      split Less before = none j third before t there name
      split Equal same = ap (λ u. found (place_of u ns name)) (one (sym there ∙ ap (slice_get places.kinds) same ∙ at)) ∙ least name
        where
          one : Some t ≡ Some s → t ≡ s
          one e = cc
      split Greater behind = absurd (omega (arith, behind, less))

-- ---- where the tables of kinds of one kind are sorted

module _ (old : ObjectTable) (i : ℕ) (d now : KindTable) (within : i < 14) (were : IsObjectTable old) where
  an_id : Id
  an_id = id_of (kind_of_index i within).0 [] []

  it_is_there : i ≡ number_of an_id.kind - 1
  unfolding an_id
  it_is_there = omega (arith, (kind_of_index i within).1)

  pub sort_places : (IsKindTable (get_or old.kinds i d) → IsKindTable now) → IsObjectTable (record { kinds = slice_set old.kinds i now })
  sort_places keeps = set_places old i d now an_id were.0 within it_is_there keeps were

  pub sort_same : ((n m : List ℕ) → place_of now n m ≡ place_of (get_or old.kinds i d) n m) → (id : Id) → place_at (record { kinds = slice_set old.kinds i now }) id ≡ place_at old id
  sort_same same id =
      set_edits old i d now an_id were.0 within it_is_there unchanged an_id.ns an_id.name refl refl (λ n m. same n m ∙ either_same (bytes_eq an_id.ns n && bytes_eq an_id.name m) (place_of (get_or old.kinds i d) n m)) id
      ∙ sym (either_same (same_id an_id id) (place_at old id))
