-- The stored rows of a state after an object is put or cut.
use Rattle.std.proofs.Common.{◌≡◌, ℕ, ◌+◌, ◌/◌, ◌%◌, Bool, true, false, cond, List, [], ◌∷◌, ◌++◌, map, Some, refl, sym, ap, ◌∙◌, subst, arith, eq-eqb, true≢false, ◌==◌}
use Rattle.std.specs.declared.cmp.Ordering.{Ordering}
use Rattle.std.specs.declared.cmp.Ordering.TheVariants.{Less, Equal, Greater}
use Rattle.std.specs.List.{AllByRecursion}
use Rattle.std.specs.Cmp.{tied_itself}
use Rattle.std.specs.Cmp.Lexicographic.{nat_list_cmp_total}
use Rattle.std.specs.Ordering.{eq_by_cmp, is_eq}
use Rattle.std.specs.FinMap as finite
use Rattle.std.specs.FinMap.{find, IsAntisymmetric, nat_cmp-IsAntisymmetric, slice_cmp-IsAntisymmetric, same_map, get-from_entries, get-insert, get-remove}
use Rattle.std.specs.FinMap.Entries.{by_order}
use Rattle.std.specs.Prelude.{T, is_some, None, not, Option}
use Rattle.hx_object.specs.Kinds.{number_of}
use Rattle.hx_object.specs.Order.{id_cmp}
use Rattle.hx_object.specs.Texts.{bytes_cmp}
use Rattle.hx_object.specs.declared.object.Id.{Id}
use Rattle.hx_object.specs.declared.object.Object.{Object}
use Rattle.hx_model.specs.State.{Objects, put, cut, object_at, same_id}
use Rattle.hx_object.specs.Json.{object_text}
use Rattle.hx_model.specs.Texts.{key_text, stored_entry, rows_of_objects}
use Rattle.hx_model.proofs.Objects.{id_total, exact_ids, same_kind, is_same_id, same_from_Equal}

-- ---- keys

-- a namespace in a key ends before the next slash
abbrev pub HasNoSlash : List ℕ → Type 0
HasNoSlash bytes = AllByRecursion (λ byte. (byte == 47) ≡ false) bytes

not_slash : (byte : ℕ) → (byte == 47) ≡ false → byte ≡ 47 → ⊥
not_slash byte other is = true≢false (sym (eq-eqb byte 47 is) ∙ other)

same_parts : (xs ys us vs : List ℕ) → HasNoSlash xs → HasNoSlash ys → xs ++ (47 ∷ us) ≡ ys ++ (47 ∷ vs) → (xs ≡ ys) × (us ≡ vs)
same_parts [] [] us vs p q e = (refl, cc)
same_parts [] (y ∷ ys) us vs p q e = absurd (not_slash y q.0 (let h : y ≡ 47 = cc in h))
same_parts (x ∷ xs) [] us vs p q e = absurd (not_slash x p.0 (let h : x ≡ 47 = cc in h))
same_parts (x ∷ xs) (y ∷ ys) us vs p q e =
    let head : x ≡ y = cc in
    let tail : xs ++ (47 ∷ us) ≡ ys ++ (47 ∷ vs) = cc in
    let rest = same_parts xs ys us vs p.1 q.1 tail in
    (λ i. head i ∷ rest.0 i, rest.1)

-- keys tell identities apart
pub key_text-injective : (a b : Id) → HasNoSlash a.ns → HasNoSlash b.ns → key_text a ≡ key_text b → a ≡ b
unfolding key_text
key_text-injective a b p q e =
    let m = number_of a.kind in
    let n = number_of b.kind in
    let whole : (48 + m / 10) ∷ (48 + m % 10) ∷ 47 ∷ (a.ns ++ (47 ∷ a.name)) ≡ (48 + n / 10) ∷ (48 + n % 10) ∷ 47 ∷ (b.ns ++ (47 ∷ b.name)) = e in
    let tens : 48 + m / 10 ≡ 48 + n / 10 = cc in
    let ones : 48 + m % 10 ≡ 48 + n % 10 = cc in
    let rest : a.ns ++ (47 ∷ a.name) ≡ b.ns ++ (47 ∷ b.name) = cc in
    let kinds = same_kind a.kind b.kind (omega arith) in
    let parts = same_parts a.ns b.ns a.name b.name p q rest in
    λ i. record { kind = kinds i; ns = parts.0 i; name = parts.1 i }

-- ---- rows

pub All-put : (P : Object → Type 0) (x : Object) (objects : Objects) → P x → AllByRecursion P objects → AllByRecursion P (put x objects)
All-put P x [] p all = (p, tt)
All-put P x (y ∷ objects) p all =
    elim (id_cmp x.id y.id) as (λ o. AllByRecursion P (by_order o (x ∷ y ∷ objects) (x ∷ objects) (y ∷ put x objects))) [
      | Less ↦ (p, all)
      | Equal ↦ (p, all.1)
      | Greater ↦ (all.0, All-put P x objects p all.1)
    ]

pub All-cut : (P : Object → Type 0) (id : Id) (objects : Objects) → AllByRecursion P objects → AllByRecursion P (cut id objects)
All-cut P id [] all = tt
All-cut P id (y ∷ objects) all =
    elim (same_id id y.id) as (λ b. AllByRecursion P (cond (not b) (y ∷ cut id objects) (cut id objects))) [
      | true ↦ All-cut P id objects all.1
      | false ↦ (all.0, All-cut P id objects all.1)
    ]

-- what is found is one of the rows
pub All-found : (P : Object → Type 0) (id : Id) (x : Object) (objects : Objects) → AllByRecursion P objects → object_at objects id ≡ Some x → P x
All-found P id x [] all e = absurd (let h = e in cc)
All-found P id x (y ∷ objects) all e =
    elim (same_id id y.id) as (λ b. cond b (Some y) (object_at objects id) ≡ Some x → P x) [
      | true ↦ λ some. subst P (let h : y ≡ x = cc in h) all.0
      | false ↦ λ rest. All-found P id x objects all.1 rest
    ] e

abbrev pub IsKeyed : Object → Type 0
IsKeyed x = HasNoSlash x.id.ns

pub same_bytes : IsAntisymmetric bytes_cmp
same_bytes = slice_cmp-IsAntisymmetric nat_cmp-IsAntisymmetric

shadowed : {A : Type 0} (b : Bool) (x y z : A) → cond b x z ≡ cond b x (cond b y z)
shadowed true x y z = refl
shadowed false x y z = refl

swapped : {A : Type 0} (a b : Bool) (x y z : A) → (T a → T b → ⊥) → cond a x (cond b y z) ≡ cond b y (cond a x z)
swapped true true x y z apart = absurd (apart tt tt)
swapped true false x y z apart = refl
swapped false b x y z apart = refl

equal : (r : Ordering) → T (is_eq r) → r ≡ Equal
equal Less p = absurd p
equal Equal p = refl
equal Greater p = absurd p

greater_not_equal : (r : Ordering) → r ≡ Greater → r ≡ Equal → ⊥
greater_not_equal r p q = cc

-- what a look-up by key finds after an object is put
find_stored-put : (q : List ℕ) (x : Object) (objects : Objects) → IsKeyed x → AllByRecursion IsKeyed objects
    → find bytes_cmp q (map stored_entry (put x objects)) ≡ cond (eq_by_cmp bytes_cmp q (key_text x.id)) (Some (x.version, object_text x)) (find bytes_cmp q (map stored_entry objects))
find_stored-put q x [] p all = refl
find_stored-put q x (y ∷ objects) p all =
    let F = find bytes_cmp q (map stored_entry objects) in
    elim (id_cmp x.id y.id) as (λ r. id_cmp x.id y.id ≡ r → find bytes_cmp q (map stored_entry (by_order r (x ∷ y ∷ objects) (x ∷ objects) (y ∷ put x objects)))
    ≡ cond (eq_by_cmp bytes_cmp q (key_text x.id)) (Some (x.version, object_text x)) (cond (eq_by_cmp bytes_cmp q (key_text y.id)) (Some (y.version, object_text y)) F)) [
      | Less ↦ λ is. refl
      | Equal ↦ λ is.
          shadowed (eq_by_cmp bytes_cmp q (key_text x.id)) (Some (x.version, object_text x)) (Some (y.version, object_text y)) F
          ∙ ap (λ id. cond (eq_by_cmp bytes_cmp q (key_text x.id)) (Some (x.version, object_text x)) (cond (eq_by_cmp bytes_cmp q (key_text id)) (Some (y.version, object_text y)) F)) (exact_ids x.id y.id is)
      | Greater ↦ λ is.
          ap (cond (eq_by_cmp bytes_cmp q (key_text y.id)) (Some (y.version, object_text y))) (find_stored-put q x objects p all.1)
          ∙ swapped (eq_by_cmp bytes_cmp q (key_text y.id)) (eq_by_cmp bytes_cmp q (key_text x.id)) (Some (y.version, object_text y)) (Some (x.version, object_text x)) F
          (λ a b. greater_not_equal _ is (sym (ap (id_cmp x.id) (key_text-injective x.id y.id p all.0 (sym (same_bytes q (key_text x.id) (equal _ b)) ∙ same_bytes q (key_text y.id) (equal _ a)))) ∙ tied_itself id_total x.id))
    ] refl

-- to put an object is to insert its row
pub rows_of_objects-put : (x : Object) (objects : Objects) → IsKeyed x → AllByRecursion IsKeyed objects
    → rows_of_objects (put x objects) ≡ finite.insert (rows_of_objects objects) (key_text x.id) (x.version, object_text x)
rows_of_objects-put x objects p all = same_map nat_list_cmp_total same_bytes _ _ (λ q.
    get-from_entries nat_list_cmp_total _ q ∙ find_stored-put q x objects p all
    ∙ sym (get-insert nat_list_cmp_total _ (key_text x.id) (x.version, object_text x) q ∙ ap (cond (eq_by_cmp bytes_cmp q (key_text x.id)) (Some (x.version, object_text x))) (get-from_entries nat_list_cmp_total _ q)))

gone_twice : {A : Type 0} (a b : Bool) (y : A) (z : Option A) → a ≡ b → cond a None z ≡ cond a None (cond b (Some y) z)
gone_twice true b y z e = refl
gone_twice false true y z e = absurd (true≢false (sym e))
gone_twice false false y z e = refl

-- what a look-up by key finds after an object is cut
find_stored-cut : (q : List ℕ) (id : Id) (objects : Objects) → HasNoSlash id.ns → AllByRecursion IsKeyed objects
    → find bytes_cmp q (map stored_entry (cut id objects)) ≡ cond (eq_by_cmp bytes_cmp q (key_text id)) None (find bytes_cmp q (map stored_entry objects))
find_stored-cut q id [] p all = elim (eq_by_cmp bytes_cmp q (key_text id)) as (λ b. ◌≡◌ {A = Option (ℕ × List ℕ)} None (cond b None None)) [ true ↦ refl | false ↦ refl ]
find_stored-cut q id (y ∷ objects) p all =
    let F = find bytes_cmp q (map stored_entry objects) in
    elim (same_id id y.id) as (λ b. same_id id y.id ≡ b → find bytes_cmp q (map stored_entry (cond (not b) (y ∷ cut id objects) (cut id objects)))
    ≡ cond (eq_by_cmp bytes_cmp q (key_text id)) None (cond (eq_by_cmp bytes_cmp q (key_text y.id)) (Some (y.version, object_text y)) F)) [
      | true ↦ λ e. find_stored-cut q id objects p all.1
          ∙ gone_twice (eq_by_cmp bytes_cmp q (key_text id)) (eq_by_cmp bytes_cmp q (key_text y.id)) (y.version, object_text y) F (ap (λ i. eq_by_cmp bytes_cmp q (key_text i)) (is_same_id id y.id e))
      | false ↦ λ e.
          ap (cond (eq_by_cmp bytes_cmp q (key_text y.id)) (Some (y.version, object_text y))) (find_stored-cut q id objects p all.1)
          ∙ swapped (eq_by_cmp bytes_cmp q (key_text y.id)) (eq_by_cmp bytes_cmp q (key_text id)) (Some (y.version, object_text y)) None F
          (λ a b. true≢false (sym (same_from_Equal id y.id (ap (id_cmp id) (sym (key_text-injective id y.id p all.0 (sym (same_bytes q (key_text id) (equal _ b)) ∙ same_bytes q (key_text y.id) (equal _ a)))) ∙ tied_itself id_total id)) ∙ e))
    ] refl

-- to cut an object is to remove its row
pub rows_of_objects-cut : (id : Id) (objects : Objects) → HasNoSlash id.ns → AllByRecursion IsKeyed objects
    → rows_of_objects (cut id objects) ≡ finite.remove (rows_of_objects objects) (key_text id)
rows_of_objects-cut id objects p all = same_map nat_list_cmp_total same_bytes _ _ (λ q.
    get-from_entries nat_list_cmp_total _ q ∙ find_stored-cut q id objects p all
    ∙ sym (get-remove nat_list_cmp_total _ (key_text id) q ∙ ap (cond (eq_by_cmp bytes_cmp q (key_text id)) None) (get-from_entries nat_list_cmp_total _ q)))

-- the row of an object that is there is there
pub stored_contains : (id : Id) (x : Object) (objects : Objects) → object_at objects id ≡ Some x → finite.contains_key (rows_of_objects objects) (key_text id) ≡ true
stored_contains id x objects there = ap is_some (get-from_entries nat_list_cmp_total (map stored_entry objects) (key_text id)) ∙ found objects there
  where
    found : (objects : Objects) → object_at objects id ≡ Some x → is_some (find bytes_cmp (key_text id) (map stored_entry objects)) ≡ true
    found [] e = absurd (let h = e in cc)
    found (y ∷ objects) e =
        elim (same_id id y.id) as (λ b. same_id id y.id ≡ b → cond b (Some y) (object_at objects id) ≡ Some x → is_some (cond (eq_by_cmp bytes_cmp (key_text id) (key_text y.id)) (Some (y.version, object_text y)) (find bytes_cmp (key_text id) (map stored_entry objects))) ≡ true) [
          | true ↦ λ t some.
              let tie : eq_by_cmp bytes_cmp (key_text id) (key_text y.id) ≡ true = ap (λ i. eq_by_cmp bytes_cmp (key_text id) (key_text i)) (sym (is_same_id id y.id t)) ∙ ap is_eq (tied_itself nat_list_cmp_total (key_text id)) in
              ap (λ b. is_some (cond b (Some (y.version, object_text y)) (find bytes_cmp (key_text id) (map stored_entry objects)))) tie
          | false ↦ λ t rest. either (eq_by_cmp bytes_cmp (key_text id) (key_text y.id)) (y.version, object_text y) (find bytes_cmp (key_text id) (map stored_entry objects)) (found objects rest)
        ] refl e
      where
        either : {A : Type 0} (b : Bool) (v : A) (o : Option A) → is_some o ≡ true → is_some (cond b (Some v) o) ≡ true
        either true v o h = refl
        either false v o h = h
