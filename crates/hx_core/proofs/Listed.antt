-- The objects of all kinds, one kind after the other, are all objects.
--     split          those from a number on are those of the number, and those from the next one on
--     all_listed
use Rattle.std.proofs.Common.{◌≡◌, ◌≤◌, ◌<◌, ◌+◌, ℕ, Bool, true, false, cond, ◌&&◌, ◌==◌, List, [], ◌∷◌, ◌++◌, filter, None, refl, sym, ap, ◌∙◌, arith, true≢false, inl, inr}
use Rattle.std.specs.Prelude.{nat_le}
use Rattle.std.specs.List.{AllByRecursion}
use Rattle.std.specs.Ordering.{is_lt, ordering_then}
use Rattle.std.specs.declared.cmp.Ordering.TheVariants.{Greater}
use Rattle.std.proofs.lemmas.Bool.{and_parts, eqb-true, eq-eqb, leb-true, false_from_ne_true}
use Rattle.std.proofs.lemmas.Bool.Decides.{leb_tells}
use Rattle.std.specs.Cmp.{nat_cmp_is}
use Rattle.hx_object.specs.Texts.{bytes_cmp}
use Rattle.hx_object.specs.Kinds.{number_of}
use Rattle.hx_object.specs.Order.{id_cmp}
use Rattle.hx_object.specs.declared.kind.Kind.{Kind}
use Rattle.hx_object.specs.declared.kind.Kind.TheVariants as of
use Rattle.hx_object.specs.declared.object.Id.{Id}
use Rattle.hx_object.specs.declared.object.Object.{Object}
use Rattle.hx_model.specs.Answers.{is_listed}
use Rattle.hx_model.specs.State.{Objects, ascends, is_below_all}
use Rattle.hx_core.specs.Listing.{all_kinds, of_kinds}

-- the objects of kinds from a number on
abbrev from : ℕ → Objects → Objects
from n objects = filter (λ (x : Object). nat_le n (number_of x.id.kind)) objects

le_of : (n a : ℕ) → nat_le n a ≡ true → n ≤ a
le_of n a e = leb-true n a e

lt_of : (n a : ℕ) → nat_le n a ≡ false → a < n
lt_of n a e = elim (leb_tells n a) [
  | inl (is, le) ↦ absurd (true≢false (sym is ∙ e))
  | inr (is, lt) ↦ lt
]

other_of : (n a : ℕ) → (n == a) ≡ false → n ≡ a → ⊥
other_of n a e same = true≢false (sym (eq-eqb n a same) ∙ e)

-- ---- objects in order

no_lower : (a b : Id) → is_lt (id_cmp a b) ≡ true → number_of a.kind ≤ number_of b.kind
no_lower a b e = elim (leb_tells (number_of a.kind) (number_of b.kind)) [
  | inl (is, le) ↦ le
  | inr (is, lt) ↦ absurd (true≢false (sym e ∙ ap (λ o. is_lt (ordering_then o (ordering_then (bytes_cmp a.ns b.ns) (bytes_cmp a.name b.name)))) (sym (nat_cmp_is (number_of a.kind) (number_of b.kind) Greater lt))))
]

each_above : (id : Id) (xs : Objects) → is_below_all id xs ≡ true → AllByRecursion (λ (y : Object). number_of id.kind ≤ number_of y.id.kind) xs
each_above id [] e = tt
each_above id (y ∷ xs) e = let parts = and_parts (is_lt (id_cmp id y.id)) (is_below_all id xs) e in (no_lower id y.id parts.0, each_above id xs parts.1)

none_listed : (kind : Kind) (n : ℕ) (xs : Objects) → number_of kind < n → AllByRecursion (λ (y : Object). n ≤ number_of y.id.kind) xs → filter (is_listed kind None) xs ≡ []
none_listed kind n [] less all = refl
none_listed kind n (y ∷ xs) less all =
    ap (λ b. cond (b && true) (y ∷ filter (is_listed kind None) xs) (filter (is_listed kind None) xs)) (false_from_ne_true (number_of kind == number_of y.id.kind) (λ same. past (eqb-true (number_of kind) (number_of y.id.kind) same) all.0))
    ∙ none_listed kind n xs less all.1
  where
    past : number_of kind ≡ number_of y.id.kind → n ≤ number_of y.id.kind → ⊥
    past same le = omega (arith, same, le, less)

split_by : (kind : Kind) (x : Object) (xs : Objects) (p q r : Bool) → nat_le (number_of kind) (number_of x.id.kind) ≡ p → (number_of kind == number_of x.id.kind) ≡ q → nat_le (number_of kind + 1) (number_of x.id.kind) ≡ r
    → AllByRecursion (λ (y : Object). number_of x.id.kind ≤ number_of y.id.kind) xs → from (number_of kind) xs ≡ filter (is_listed kind None) xs ++ from (number_of kind + 1) xs
    → cond p (x ∷ from (number_of kind) xs) (from (number_of kind) xs) ≡ cond (q && true) (x ∷ filter (is_listed kind None) xs) (filter (is_listed kind None) xs) ++ cond r (x ∷ from (number_of kind + 1) xs) (from (number_of kind + 1) xs)
split_by kind x xs true true false e f g above rest = ap (λ ys. x ∷ ys) rest
split_by kind x xs false false false e f g above rest = rest
split_by kind x xs true false true e f g above rest =
    let none : filter (is_listed kind None) xs ≡ [] = none_listed kind (number_of x.id.kind) xs (let le = le_of (number_of kind + 1) (number_of x.id.kind) g in omega (arith, le)) above in
    ap (λ ys. x ∷ ys) (rest ∙ ap (λ zs. zs ++ from (number_of kind + 1) xs) none) ∙ ap (λ zs. zs ++ x ∷ from (number_of kind + 1) xs) (sym none)
split_by kind x xs true true true e f g above rest = absurd (let le = le_of (number_of kind + 1) (number_of x.id.kind) g in let same = eqb-true (number_of kind) (number_of x.id.kind) f in omega (arith, le, same))
split_by kind x xs true false false e f g above rest = absurd (other_of (number_of kind) (number_of x.id.kind) f (let le = le_of (number_of kind) (number_of x.id.kind) e in let lt = lt_of (number_of kind + 1) (number_of x.id.kind) g in omega (arith, le, lt)))
split_by kind x xs false true r e f g above rest = absurd (let lt = lt_of (number_of kind) (number_of x.id.kind) e in let same = eqb-true (number_of kind) (number_of x.id.kind) f in omega (arith, lt, same))
split_by kind x xs false false true e f g above rest = absurd (let lt = lt_of (number_of kind) (number_of x.id.kind) e in let le = le_of (number_of kind + 1) (number_of x.id.kind) g in omega (arith, lt, le))

-- those from a number on are those of the number, and those from the next one on
split : (kind : Kind) (xs : Objects) → ascends xs ≡ true → from (number_of kind) xs ≡ filter (is_listed kind None) xs ++ from (number_of kind + 1) xs
split kind [] up = refl
split kind (x ∷ xs) up =
    let parts = and_parts (is_below_all x.id xs) (ascends xs) up in
    split_by kind x xs (nat_le (number_of kind) (number_of x.id.kind)) (number_of kind == number_of x.id.kind) (nat_le (number_of kind + 1) (number_of x.id.kind)) refl refl refl (each_above x.id xs parts.0) (split kind xs parts.1)

-- ---- one kind after the other

-- ---- all kinds

first_from : (kind : Kind) → nat_le 1 (number_of kind) ≡ true
first_from of.Namespace = refl
first_from of.HncConfiguration = refl
first_from of.HierarchyConfiguration = refl
first_from of.SubnamespaceAnchor = refl
first_from of.HierarchicalResourceQuota = refl
first_from of.Role = refl
first_from of.RoleBinding = refl
first_from of.ConfigMap = refl
first_from of.Secret = refl
first_from of.NetworkPolicy = refl
first_from of.LimitRange = refl
first_from of.Pod = refl
first_from of.Service = refl
first_from of.PersistentVolumeClaim = refl

none_behind : (kind : Kind) → nat_le 15 (number_of kind) ≡ false
none_behind of.Namespace = refl
none_behind of.HncConfiguration = refl
none_behind of.HierarchyConfiguration = refl
none_behind of.SubnamespaceAnchor = refl
none_behind of.HierarchicalResourceQuota = refl
none_behind of.Role = refl
none_behind of.RoleBinding = refl
none_behind of.ConfigMap = refl
none_behind of.Secret = refl
none_behind of.NetworkPolicy = refl
none_behind of.LimitRange = refl
none_behind of.Pod = refl
none_behind of.Service = refl
none_behind of.PersistentVolumeClaim = refl

from_first : (xs : Objects) → from 1 xs ≡ xs
from_first [] = refl
from_first (x ∷ xs) = ap (λ b. cond b (x ∷ from 1 xs) (from 1 xs)) (first_from x.id.kind) ∙ ap (λ ys. x ∷ ys) (from_first xs)

from_behind : (xs : Objects) → from 15 xs ≡ []
from_behind [] = refl
from_behind (x ∷ xs) = ap (λ b. cond b (x ∷ from 15 xs) (from 15 xs)) (none_behind x.id.kind) ∙ from_behind xs

-- one kind before the others
before : (kind : Kind) (kinds : List Kind) (xs : Objects) → ascends xs ≡ true → from (number_of kind + 1) xs ≡ of_kinds xs kinds → from (number_of kind) xs ≡ of_kinds xs (kind ∷ kinds)
before kind kinds xs up rest = split kind xs up ∙ ap (λ ys. filter (is_listed kind None) xs ++ ys) rest

pub all_listed : (xs : Objects) → ascends xs ≡ true → of_kinds xs all_kinds ≡ xs
all_listed xs up =
    let a = before of.PersistentVolumeClaim [] xs up (from_behind xs) in
    let b = before of.Service (of.PersistentVolumeClaim ∷ []) xs up a in
    let c = before of.Pod (of.Service ∷ of.PersistentVolumeClaim ∷ []) xs up b in
    let d = before of.LimitRange (of.Pod ∷ of.Service ∷ of.PersistentVolumeClaim ∷ []) xs up c in
    let e = before of.NetworkPolicy (of.LimitRange ∷ of.Pod ∷ of.Service ∷ of.PersistentVolumeClaim ∷ []) xs up d in
    let f = before of.Secret (of.NetworkPolicy ∷ of.LimitRange ∷ of.Pod ∷ of.Service ∷ of.PersistentVolumeClaim ∷ []) xs up e in
    let g = before of.ConfigMap (of.Secret ∷ of.NetworkPolicy ∷ of.LimitRange ∷ of.Pod ∷ of.Service ∷ of.PersistentVolumeClaim ∷ []) xs up f in
    let h = before of.RoleBinding (of.ConfigMap ∷ of.Secret ∷ of.NetworkPolicy ∷ of.LimitRange ∷ of.Pod ∷ of.Service ∷ of.PersistentVolumeClaim ∷ []) xs up g in
    let i = before of.Role (of.RoleBinding ∷ of.ConfigMap ∷ of.Secret ∷ of.NetworkPolicy ∷ of.LimitRange ∷ of.Pod ∷ of.Service ∷ of.PersistentVolumeClaim ∷ []) xs up h in
    let j = before of.HierarchicalResourceQuota (of.Role ∷ of.RoleBinding ∷ of.ConfigMap ∷ of.Secret ∷ of.NetworkPolicy ∷ of.LimitRange ∷ of.Pod ∷ of.Service ∷ of.PersistentVolumeClaim ∷ []) xs up i in
    let k = before of.SubnamespaceAnchor (of.HierarchicalResourceQuota ∷ of.Role ∷ of.RoleBinding ∷ of.ConfigMap ∷ of.Secret ∷ of.NetworkPolicy ∷ of.LimitRange ∷ of.Pod ∷ of.Service ∷ of.PersistentVolumeClaim ∷ []) xs up j in
    let l = before of.HierarchyConfiguration (of.SubnamespaceAnchor ∷ of.HierarchicalResourceQuota ∷ of.Role ∷ of.RoleBinding ∷ of.ConfigMap ∷ of.Secret ∷ of.NetworkPolicy ∷ of.LimitRange ∷ of.Pod ∷ of.Service ∷ of.PersistentVolumeClaim ∷ []) xs up k in
    let m = before of.HncConfiguration (of.HierarchyConfiguration ∷ of.SubnamespaceAnchor ∷ of.HierarchicalResourceQuota ∷ of.Role ∷ of.RoleBinding ∷ of.ConfigMap ∷ of.Secret ∷ of.NetworkPolicy ∷ of.LimitRange ∷ of.Pod ∷ of.Service ∷ of.PersistentVolumeClaim ∷ []) xs up l in
    let n = before of.Namespace (of.HncConfiguration ∷ of.HierarchyConfiguration ∷ of.SubnamespaceAnchor ∷ of.HierarchicalResourceQuota ∷ of.Role ∷ of.RoleBinding ∷ of.ConfigMap ∷ of.Secret ∷ of.NetworkPolicy ∷ of.LimitRange ∷ of.Pod ∷ of.Service ∷ of.PersistentVolumeClaim ∷ []) xs up m in
    sym n ∙ from_first xs
