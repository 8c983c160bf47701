-- Objects after a put and a cut.
use Rattle.std.proofs.Common.{◌≡◌, ℕ, ◌+◌, Bool, true, false, cond, not, ◌&&◌, Option, Some, None, List, [], ◌∷◌, filter, sum_by, Ordering, Less, Equal, Greater, is_eq, is_lt, refl, sym, ap, ◌∙◌, subst, arith, true≢false, eqb, eq-eqb, eqb-true}
use Rattle.std.specs.Prelude.{is_some, unwrap_or}
use Rattle.std.specs.Cmp.{Equal-is, tied_itself, both_ways}
use Rattle.std.proofs.lemmas.Slice.Eq.{bytes_eq-Decides}
use Rattle.std.specs.Ordering.{ordering_reverse}
use Rattle.std.specs.FinMap.Entries.{by_order}
use Rattle.std.proofs.lemmas.List.Sums.{sum_by-cons}
use Rattle.std.proofs.lemmas.Map.Entries.{option_filter}
use Rattle.std.proofs.lemmas.Bool.{and_parts, and_from}
use Rattle.hx_object.specs.Kinds.{number_of}
use Rattle.hx_object.specs.declared.object.Id.{Id}
use Rattle.hx_object.specs.declared.object.Object.{Object}
use Rattle.std.specs.Str.{bytes_eq}
use Rattle.hx_object.specs.Order.{id_cmp}
use Rattle.hx_model.specs.Limits.{part_of}
use Rattle.hx_model.specs.State.{same_id, Objects, object_at, put, cut, is_below_all, ascends, objects_from}
-- ---- the order of identities

pub use Rattle.hx_object.proofs.Identities.{id_cmp_total as id_total, number_of-one as same_kind, id_cmp-IsAntisymmetric as exact_ids}

pub same_from_Equal : (a b : Id) → id_cmp a b ≡ Equal → same_id a b ≡ true
same_from_Equal a b e = subst (λ (q : Id). same_id a q ≡ true) (exact_ids a b e) (same_itself a)
  where
    same_itself : (q : Id) → same_id q q ≡ true
    same_itself q = and_from _ _ (and_from _ _ (eq-eqb (number_of q.kind) (number_of q.kind) refl) ((bytes_eq-Decides q.ns q.ns).1 refl)) ((bytes_eq-Decides q.name q.name).1 refl)

pub is_same_id : (a b : Id) → same_id a b ≡ true → a ≡ b
is_same_id a b h =
    let parts = and_parts (eqb (number_of a.kind) (number_of b.kind) && bytes_eq a.ns b.ns) (bytes_eq a.name b.name) h in
    let first_parts = and_parts (eqb (number_of a.kind) (number_of b.kind)) (bytes_eq a.ns b.ns) parts.0 in
    let kind = same_kind a.kind b.kind (eqb-true _ _ first_parts.0) in
    let ns = (bytes_eq-Decides a.ns b.ns).0 first_parts.1 in
    let name = (bytes_eq-Decides a.name b.name).0 parts.1 in
    λ i. record { kind = kind i; ns = ns i; name = name i }

pub Equal_from_same : (a b : Id) → same_id a b ≡ true → id_cmp a b ≡ Equal
Equal_from_same a b h = subst (λ (q : Id). id_cmp a q ≡ Equal) (is_same_id a b h) (tied_itself id_total a)

-- the test and the order tell the same identities apart
pub same_id-cmp : (a b : Id) → same_id a b ≡ is_eq (id_cmp a b)
same_id-cmp a b = both_ways (same_id a b) (is_eq (id_cmp a b)) (λ h. ap is_eq (Equal_from_same a b h)) (λ h. same_from_Equal a b ((Equal-is (id_cmp a b)).0 h))

-- ---- what is found after a put and after a cut

-- what q ties with ties
joined : (q x y : Id) → same_id q x ≡ true → same_id q y ≡ true → id_cmp x y ≡ Equal
joined q x y p r = subst (λ (a : Id). id_cmp a y ≡ Equal) (is_same_id q x p) (Equal_from_same q y r)

alike : (q x y : Id) → id_cmp x y ≡ Equal → same_id q x ≡ same_id q y
alike q x y e = ap (same_id q) (exact_ids x y e)

-- two tests that don't hold together are tried in either order
pub swap_tests : {A : Type 0} (a b : Bool) (u v w : A) → (a ≡ true → b ≡ true → ⊥) → cond b v (cond a u w) ≡ cond a u (cond b v w)
swap_tests true true u v w apart = absurd (apart refl refl)
swap_tests true false u v w apart = refl
swap_tests false b u v w apart = refl

-- a second test like the first finds nothing more
pub same_test : {A : Type 0} (a b : Bool) (u v w : A) → a ≡ b → cond a u w ≡ cond a u (cond b v w)
same_test true b u v w e = refl
same_test false true u v w e = absurd (true≢false (sym e))
same_test false false u v w e = refl

-- after a put the object is found under its identity, and under each other one what was
pub object_at-put : (x : Object) (objects : Objects) (q : Id) → object_at (put x objects) q ≡ cond (same_id q x.id) (Some x) (object_at objects q)
object_at-put x [] q = refl
object_at-put x (y ∷ objects) q =
    elim (id_cmp x.id y.id) as (λ o. id_cmp x.id y.id ≡ o → object_at (by_order o (x ∷ y ∷ objects) (x ∷ objects) (y ∷ put x objects)) q ≡ cond (same_id q x.id) (Some x) (object_at (y ∷ objects) q)) [
      | Less ↦ λ e. refl
      | Equal ↦ λ e. same_test (same_id q x.id) (same_id q y.id) (Some x) (Some y) (object_at objects q) (alike q x.id y.id e)
      | Greater ↦ λ e. ap (cond (same_id q y.id) (Some y)) (object_at-put x objects q)
          ∙ swap_tests (same_id q x.id) (same_id q y.id) (Some x) (Some y) (object_at objects q) (λ p r. true≢false (sym (ap is_eq (joined q x.id y.id p r)) ∙ ap is_eq e))
    ] refl

-- after a put the object is found under its own identity
pub object_at-put_itself : (x : Object) (objects : Objects) → object_at (put x objects) x.id ≡ Some x
object_at-put_itself x objects = object_at-put x objects x.id ∙ ap (λ b. cond b (Some x) (object_at objects x.id)) (same_from_Equal x.id x.id (tied_itself id_total x.id))

-- after a cut nothing is found under the identity, and under each other one what was
pub object_at-cut : (id : Id) (objects : Objects) (q : Id) → object_at (cut id objects) q ≡ cond (same_id q id) None (object_at objects q)
object_at-cut id [] q = elim (same_id q id) as (λ b. ◌≡◌ {A = Option Object} None (cond b None None)) [ true ↦ refl | false ↦ refl ]
object_at-cut id (y ∷ objects) q =
    elim (same_id id y.id) as (λ b. same_id id y.id ≡ b → object_at (cond (not b) (y ∷ cut id objects) (cut id objects)) q ≡ cond (same_id q id) None (object_at (y ∷ objects) q)) [
      | true ↦ λ e. object_at-cut id objects q ∙ dropped (same_id q id) (same_id q y.id) (ap (same_id q) (is_same_id id y.id e))
      | false ↦ λ e. ap (cond (same_id q y.id) (Some y)) (object_at-cut id objects q) ∙ swap_tests (same_id q id) (same_id q y.id) None (Some y) (object_at objects q) (λ p r. true≢false (sym (same_from_Equal id y.id (joined q id y.id p r)) ∙ e))
    ] refl
  where
    dropped : (a b : Bool) → a ≡ b → cond a None (object_at objects q) ≡ cond a None (cond b (Some y) (object_at objects q))
    dropped true b e = refl
    dropped false true e = absurd (true≢false (sym e))
    dropped false false e = refl

-- what is found has the identity
pub found_id : (objects : Objects) (id : Id) (x : Object) → object_at objects id ≡ Some x → id ≡ x.id
found_id [] id x e = absurd (true≢false (sym (ap is_some e)))
found_id (y ∷ objects) id x e =
    elim (same_id id y.id) as (λ b. same_id id y.id ≡ b → cond b (Some y) (object_at objects id) ≡ Some x → id ≡ x.id) [
      | true ↦ λ t e. is_same_id id y.id t ∙ ap (λ (o : Option Object). (unwrap_or o y).id) e
      | false ↦ λ t e. found_id objects id x e
    ] refl e

-- ---- sums

-- an identity that is less than all isn't found
pub none_below : (id : Id) (objects : Objects) → is_below_all id objects ≡ true → object_at objects id ≡ None
none_below id [] h = refl
none_below id (y ∷ objects) h =
    let parts = and_parts (is_lt (id_cmp id y.id)) (is_below_all id objects) h in
    ap (λ b. cond b (Some y) (object_at objects id)) (same_id-cmp id y.id) ∙ not_less (id_cmp id y.id) parts.0 ∙ none_below id objects parts.1
  where
    not_less : (o : Ordering) → is_lt o ≡ true → cond (is_eq o) (Some y) (object_at objects id) ≡ object_at objects id
    not_less Less e = refl
    not_less Equal e = absurd (true≢false (sym e))
    not_less Greater e = absurd (true≢false (sym e))

pub less_than_all : (a b : Id) (objects : Objects) → id_cmp a b ≡ Less → is_below_all b objects ≡ true → is_below_all a objects ≡ true
less_than_all a b [] e h = refl
less_than_all a b (y ∷ objects) e h =
    let parts = and_parts (is_lt (id_cmp b y.id)) (is_below_all b objects) h in
    and_from _ _ (ap is_lt (id_total.trans a b y.id e (less (id_cmp b y.id) parts.0))) (less_than_all a b objects e parts.1)
  where
    less : (o : Ordering) → is_lt o ≡ true → o ≡ Less
    less Less e = refl
    less Equal e = absurd (true≢false (sym e))
    less Greater e = absurd (true≢false (sym e))

-- a put takes the old part off the sum and adds the new one
pub sum-put : (f : Object → ℕ) (x : Object) (objects : Objects) → ascends objects ≡ true → sum_by f (put x objects) + part_of f (object_at objects x.id) ≡ sum_by f objects + f x
sum-put f x [] h = omega arith
sum-put f x (y ∷ objects) h =
    let parts = and_parts (is_below_all y.id objects) (ascends objects) h in
    rw same_id-cmp (elim (id_cmp x.id y.id) as (λ o. id_cmp x.id y.id ≡ o → sum_by f (by_order o (x ∷ y ∷ objects) (x ∷ objects) (y ∷ put x objects)) + part_of f (cond (is_eq o) (Some y) (object_at objects x.id)) ≡ sum_by f (y ∷ objects) + f x) [
      | Less ↦ λ e. rw (none_below x.id objects (less_than_all x.id y.id objects e parts.0)) (omega (arith, sum_by-cons f x (y ∷ objects)))
      | Equal ↦ λ e. omega (arith, sum_by-cons f x objects, sum_by-cons f y objects)
      | Greater ↦ λ e. omega (arith, sum_by-cons f y (put x objects), sum_by-cons f y objects, sum-put f x objects parts.1)
    ] refl)

-- a cut takes the part off
pub sum-cut : (f : Object → ℕ) (id : Id) (objects : Objects) → ascends objects ≡ true → sum_by f (cut id objects) + part_of f (object_at objects id) ≡ sum_by f objects
sum-cut f id [] h = omega arith
sum-cut f id (y ∷ objects) h =
    let parts = and_parts (is_below_all y.id objects) (ascends objects) h in
    elim (same_id id y.id) as (λ b. same_id id y.id ≡ b → sum_by f (cond (not b) (y ∷ cut id objects) (cut id objects)) + part_of f (cond b (Some y) (object_at objects id)) ≡ sum_by f (y ∷ objects)) [
      | true ↦ λ e.
          let same : id ≡ y.id = is_same_id id y.id e in
          let gone : object_at objects id ≡ None = subst (λ (q : Id). object_at objects q ≡ None) (sym same) (none_below y.id objects parts.0) in
          let rest : sum_by f (cut id objects) + part_of f (object_at objects id) ≡ sum_by f objects = sum-cut f id objects parts.1 in
          let less : sum_by f (cut id objects) + 0 ≡ sum_by f objects = rw gone at rest in
          omega (arith, less, sum_by-cons f y objects)
      | false ↦ λ e. omega (arith, sum_by-cons f y (cut id objects), sum_by-cons f y objects, sum-cut f id objects parts.1)
    ] refl

-- ---- the order is kept

below_put : (id : Id) (x : Object) (objects : Objects) → id_cmp id x.id ≡ Less → is_below_all id objects ≡ true → is_below_all id (put x objects) ≡ true
below_put id x [] e h = and_from _ _ (ap is_lt e) refl
below_put id x (y ∷ objects) e h =
    let parts = and_parts (is_lt (id_cmp id y.id)) (is_below_all id objects) h in
    elim (id_cmp x.id y.id) as (λ o. is_below_all id (by_order o (x ∷ y ∷ objects) (x ∷ objects) (y ∷ put x objects)) ≡ true) [
      | Less ↦ and_from _ _ (ap is_lt e) h
      | Equal ↦ and_from _ _ (ap is_lt e) parts.1
      | Greater ↦ and_from _ _ parts.0 (below_put id x objects e parts.1)
    ]

pub ascends-put : (x : Object) (objects : Objects) → ascends objects ≡ true → ascends (put x objects) ≡ true
ascends-put x [] h = refl
ascends-put x (y ∷ objects) h =
    let parts = and_parts (is_below_all y.id objects) (ascends objects) h in
    elim (id_cmp x.id y.id) as (λ o. id_cmp x.id y.id ≡ o → ascends (by_order o (x ∷ y ∷ objects) (x ∷ objects) (y ∷ put x objects)) ≡ true) [
      | Less ↦ λ e. and_from _ _ (and_from _ _ (ap is_lt e) (less_than_all x.id y.id objects e parts.0)) h
      | Equal ↦ λ e. and_from _ _ (subst (λ (q : Id). is_below_all q objects ≡ true) (sym (exact_ids x.id y.id e)) parts.0) parts.1
      | Greater ↦ λ e. and_from _ _ (below_put y.id x objects (id_total.antisymm y.id x.id ∙ ap ordering_reverse e) parts.0) (ascends-put x objects parts.1)
    ] refl

below_filter : (p : Object → Bool) (id : Id) (objects : Objects) → is_below_all id objects ≡ true → is_below_all id (filter p objects) ≡ true
below_filter p id [] h = refl
below_filter p id (y ∷ objects) h =
    let parts = and_parts (is_lt (id_cmp id y.id)) (is_below_all id objects) h in
    elim (p y) as (λ b. is_below_all id (cond b (y ∷ filter p objects) (filter p objects)) ≡ true) [
      | true ↦ and_from _ _ parts.0 (below_filter p id objects parts.1)
      | false ↦ below_filter p id objects parts.1
    ]

pub ascends-filter : (p : Object → Bool) (objects : Objects) → ascends objects ≡ true → ascends (filter p objects) ≡ true
ascends-filter p [] h = refl
ascends-filter p (y ∷ objects) h =
    let parts = and_parts (is_below_all y.id objects) (ascends objects) h in
    elim (p y) as (λ b. ascends (cond b (y ∷ filter p objects) (filter p objects)) ≡ true) [
      | true ↦ and_from _ _ (below_filter p y.id objects parts.0) (ascends-filter p objects parts.1)
      | false ↦ ascends-filter p objects parts.1
    ]

pub ascends-cut : (id : Id) (objects : Objects) → ascends objects ≡ true → ascends (cut id objects) ≡ true
ascends-cut id objects h = ascends-filter _ objects h

-- ---- filters, and how many rows a put makes

-- in rows that ascend, what a filter keeps is found, and nothing else
pub object_at-filter : (p : Object → Bool) (objects : Objects) (q : Id) → ascends objects ≡ true → object_at (filter p objects) q ≡ option_filter p (object_at objects q)
object_at-filter p [] q h = refl
object_at-filter p (y ∷ objects) q h =
    let parts = and_parts (is_below_all y.id objects) (ascends objects) h in
    elim (p y) as (λ b. p y ≡ b → object_at (cond b (y ∷ filter p objects) (filter p objects)) q ≡ option_filter p (cond (same_id q y.id) (Some y) (object_at objects q))) [
      | true ↦ λ e. ap (cond (same_id q y.id) (Some y)) (object_at-filter p objects q parts.1) ∙ kept (same_id q y.id) e
      | false ↦ λ e. object_at-filter p objects q parts.1 ∙ dropped (same_id q y.id) refl e parts.0
    ] refl
  where
    kept : (b : Bool) → p y ≡ true → cond b (Some y) (option_filter p (object_at objects q)) ≡ option_filter p (cond b (Some y) (object_at objects q))
    kept true e = sym (ap (λ t. cond t (Some y) None) e)
    kept false e = refl

    dropped : (b : Bool) → same_id q y.id ≡ b → p y ≡ false → is_below_all y.id objects ≡ true → option_filter p (object_at objects q) ≡ option_filter p (cond b (Some y) (object_at objects q))
    dropped true same e low = ap (option_filter p) (subst (λ (k : Id). object_at objects k ≡ None) (sym (is_same_id q y.id same)) (none_below y.id objects low)) ∙ sym (ap (λ t. cond t (Some y) None) e)
    dropped false same e low = refl

-- ---- rows in order that answer alike are the same

same_tail : (x : Object) (xs ys : Objects) → is_below_all x.id xs ≡ true → is_below_all x.id ys ≡ true → ((q : Id) → object_at (x ∷ xs) q ≡ object_at (x ∷ ys) q) → (q : Id) → object_at xs q ≡ object_at ys q
same_tail x xs ys low high alike_at q =
    elim (same_id q x.id) as (λ b. same_id q x.id ≡ b → cond b (Some x) (object_at xs q) ≡ cond b (Some x) (object_at ys q) → object_at xs q ≡ object_at ys q) [
      | true ↦ λ e _. subst (λ (p : Id). object_at xs p ≡ object_at ys p) (sym (is_same_id q x.id e)) (none_below x.id xs low ∙ sym (none_below x.id ys high))
      | false ↦ λ e h. h
    ] refl (alike_at q)

pub same_rows : (xs ys : Objects) → ascends xs ≡ true → ascends ys ≡ true → ((q : Id) → object_at xs q ≡ object_at ys q) → xs ≡ ys
same_rows [] [] hx hy alike_at = refl
same_rows [] (y ∷ ys) hx hy alike_at = absurd (true≢false (sym (ap is_some (alike_at y.id ∙ ap (λ b. cond b (Some y) (object_at ys y.id)) (same_from_Equal y.id y.id (tied_itself id_total y.id))))))
same_rows (x ∷ xs) [] hx hy alike_at = absurd (true≢false (ap is_some (sym (ap (λ b. cond b (Some x) (object_at xs x.id)) (same_from_Equal x.id x.id (tied_itself id_total x.id))) ∙ alike_at x.id)))
same_rows (x ∷ xs) (y ∷ ys) hx hy alike_at =
    let px = and_parts (is_below_all x.id xs) (ascends xs) hx in
    let py = and_parts (is_below_all y.id ys) (ascends ys) hy in
    elim (id_cmp x.id y.id) as (λ o. id_cmp x.id y.id ≡ o → x ∷ xs ≡ y ∷ ys) [
      | Less ↦ λ e. absurd (true≢false (ap is_some (sym (own x xs) ∙ alike_at x.id ∙ none_below x.id (y ∷ ys) (and_from _ _ (ap is_lt e) (less_than_all x.id y.id ys e py.0)))))
      | Greater ↦ λ e.
          let back : id_cmp y.id x.id ≡ Less = id_total.antisymm y.id x.id ∙ ap ordering_reverse e in
          absurd (true≢false (ap is_some (sym (own y ys) ∙ sym (alike_at y.id) ∙ none_below y.id (x ∷ xs) (and_from _ _ (ap is_lt back) (less_than_all y.id x.id xs back px.0)))))
      | Equal ↦ λ e.
          let same : x ≡ y = ap (λ (o : Option Object). unwrap_or o x) (sym (own x xs) ∙ alike_at x.id ∙ ap (λ b. cond b (Some y) (object_at ys x.id)) (same_from_Equal x.id y.id e)) in
          let rest : xs ≡ ys = same_rows xs ys px.1 py.1 (same_tail x xs ys px.0 (subst (λ (z : Object). is_below_all z.id ys ≡ true) (sym same) py.0) (subst (λ (z : Object). (q : Id) → object_at (x ∷ xs) q ≡ object_at (z ∷ ys) q) (sym same) alike_at)) in
          λ i. same i ∷ rest i
    ] refl
  where
    own : (z : Object) (zs : Objects) → object_at (z ∷ zs) z.id ≡ Some z
    own z zs = ap (λ b. cond b (Some z) (object_at zs z.id)) (same_from_Equal z.id z.id (tied_itself id_total z.id))

-- ---- rows of objects in any order

pub object_at-objects_from : (xs : List Object) (q : Id) → object_at (objects_from xs) q ≡ object_at xs q
object_at-objects_from [] q = refl
object_at-objects_from (x ∷ xs) q = object_at-put x (objects_from xs) q ∙ ap (cond (same_id q x.id) (Some x)) (object_at-objects_from xs q)

pub ascends-objects_from : (xs : List Object) → ascends (objects_from xs) ≡ true
ascends-objects_from [] = refl
ascends-objects_from (x ∷ xs) = ascends-put x (objects_from xs) (ascends-objects_from xs)

-- ---- an object is found where it was put

pub found_again : (x : Object) (objects : Objects) → object_at (put x objects) x.id ≡ Some x
found_again x objects = object_at-put x objects x.id ∙ ap (λ b. cond b (Some x) (object_at objects x.id)) (same_from_Equal x.id x.id (tied_itself id_total x.id))
