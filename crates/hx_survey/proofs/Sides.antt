-- How identities lie to what is sought, in objects that ascend.
--     fits_side            what is sought is what lies neither before nor behind
--     before_down, behind_up    the sides rise with the identities
--     sorted_objects       objects that ascend are sorted
--     run_of_sought        what is sought stands side by side
use Rattle.std.proofs.Common.{◌≡◌, ℕ, ◌-◌, ◌≤◌, length, cond, Bool, true, false, not, ◌&&◌, List, [], ◌∷◌, Some, filter, take, drop, eqb, eq-eqb, eqb-true, refl, sym, ap, ◌∙◌, subst, true≢false}
use Rattle.std.specs.Prelude.{find, slice_get}
use Rattle.std.specs.Cmp.{IsTotalOrder, on_total, then_total, nat_cmp_total, both_ways, Equal-is, upto, tied_itself}
use Rattle.std.specs.Cmp.Lexicographic.{nat_list_cmp_total}
use Rattle.std.specs.FinMap.{nat_cmp-IsAntisymmetric, slice_cmp-IsAntisymmetric}
use Rattle.std.specs.List.{AllByRecursion, prefix_len}
use Rattle.std.specs.List.Sorted.{IsStrictlySortedBy}
use Rattle.std.specs.Ordering.{is_lt, is_gt, is_eq, nat_cmp, ordering_then}
use Rattle.std.specs.Str.{bytes_eq}
use Rattle.std.specs.declared.cmp.Ordering.{Ordering}
use Rattle.std.specs.declared.cmp.Ordering.TheVariants.{Less, Equal, Greater}
use Rattle.std.proofs.lemmas.Bool.{and_parts, and_from}
use Rattle.std.proofs.lemmas.List.Sums.{prefix_len-le-length}
use Rattle.std.proofs.lemmas.Slice.Eq.{bytes_eq-Decides}
use Rattle.hx_object.specs.Kinds.{number_of}
use Rattle.hx_object.specs.Order.{id_cmp}
use Rattle.hx_object.specs.Texts.{bytes_cmp}
use Rattle.hx_object.specs.declared.kind.Kind.{Kind}
use Rattle.hx_object.specs.declared.object.Id.{Id}
use Rattle.hx_object.specs.declared.object.Object.{Object}
use Rattle.hx_model.specs.State.{Objects, ascends, is_below_all, same_id}
use Rattle.hx_model.proofs.Objects.{id_total, is_same_id, same_from_Equal}
use Rattle.hx_survey.specs.Inside.{side_of, fits, home_cmp}
use Rattle.hx_survey.specs.declared.search.Sought.{Sought}
use Rattle.hx_survey.specs.declared.search.Sought.TheVariants.{OfKind, InNamespace, Named}
use Rattle.hx_survey.proofs.Runs.{run_filter, start_end}

-- ---- the orders by which is sought

-- by the kind alone, and by the kind and the namespace
abbrev kind_cmp : Id → Id → Ordering
kind_cmp a b = nat_cmp (number_of a.kind) (number_of b.kind)

abbrev place_cmp : Id → Id → Ordering
place_cmp a b = home_cmp a b.kind b.ns

kind_total : IsTotalOrder kind_cmp
kind_total = on_total (λ (a : Id). number_of a.kind) nat_cmp_total

place_total : IsTotalOrder place_cmp
place_total = then_total kind_total (on_total (λ (a : Id). a.ns) nat_list_cmp_total)

-- the order by which something is sought, and the identity that is compared with
abbrev cmp_for : Sought → Id → Id → Ordering
cmp_for (OfKind kind) = kind_cmp
cmp_for (InNamespace kind ns) = place_cmp
cmp_for (Named kind ns name) = id_cmp

abbrev id_for : Sought → Id
id_for (OfKind kind) = record { kind = kind; ns = []; name = [] }
id_for (InNamespace kind ns) = record { kind = kind; ns = ns.now; name = [] }
id_for (Named kind ns name) = record { kind = kind; ns = ns.now; name = name.now }

side_is : (s : Sought) (a : Id) → side_of s a ≡ cmp_for s a (id_for s)
side_is (OfKind kind) a = refl
side_is (InNamespace kind ns) a = refl
side_is (Named kind ns name) a = refl

total_for : (s : Sought) → IsTotalOrder (cmp_for s)
total_for (OfKind kind) = kind_total
total_for (InNamespace kind ns) = place_total
total_for (Named kind ns name) = id_total

first_not_behind : (o r : Ordering) → ordering_then o r ≡ Less → is_gt o ≡ false
first_not_behind Less r h = refl
first_not_behind Equal r h = refl
first_not_behind Greater r h = absurd (true≢false (ap is_gt h))

both_not_behind : (o p r : Ordering) → ordering_then o (ordering_then p r) ≡ Less → is_gt (ordering_then o p) ≡ false
both_not_behind Less p r h = refl
both_not_behind Equal p r h = first_not_behind p r h
both_not_behind Greater p r h = absurd (true≢false (ap is_gt h))

-- what is less isn't behind
coarse : (s : Sought) (a b : Id) → id_cmp a b ≡ Less → is_gt (cmp_for s a b) ≡ false
coarse (OfKind kind) a b h = first_not_behind (kind_cmp a b) (ordering_then (bytes_cmp a.ns b.ns) (bytes_cmp a.name b.name)) h
coarse (InNamespace kind ns) a b h = both_not_behind (kind_cmp a b) (bytes_cmp a.ns b.ns) (bytes_cmp a.name b.name) h
coarse (Named kind ns name) a b h = ap is_gt h

-- ---- sides rise

less : (o : Ordering) → is_lt o ≡ true → o ≡ Less
less Less h = refl
less Equal h = absurd (true≢false (sym h))
less Greater h = absurd (true≢false (sym h))

less_on : {K : Type 0} {R : K → K → Ordering} (o : IsTotalOrder R) (a b q : K) (r : Ordering) → R a b ≡ r → is_gt r ≡ false → is_lt (R b q) ≡ true → is_lt (R a q) ≡ true
less_on {R = R} o a b q Less e h low = ap is_lt (o.trans a b q e (less (R b q) low))
less_on o a b q Equal e h low = ap is_lt (o.congr a b q e) ∙ low
less_on o a b q Greater e h low = absurd (true≢false h)

-- what is less than one before is before
pub before_down : (s : Sought) (a b : Id) → id_cmp a b ≡ Less → is_lt (side_of s b) ≡ true → is_lt (side_of s a) ≡ true
before_down s a b h low = ap is_lt (side_is s a) ∙ less_on (total_for s) a b (id_for s) (cmp_for s a b) refl (coarse s a b h) (sym (ap is_lt (side_is s b)) ∙ low)

not_true : (b : Bool) → (b ≡ true → ⊥) → b ≡ false
not_true true h = absurd (h refl)
not_true false h = refl

not_false : (b : Bool) → (b ≡ false → ⊥) → b ≡ true
not_false true h = refl
not_false false h = absurd (h refl)

-- what isn't behind has nothing behind before it
pub behind_down : (s : Sought) (a b : Id) → id_cmp a b ≡ Less → is_gt (side_of s b) ≡ false → is_gt (side_of s a) ≡ false
behind_down s a b h low = ap is_gt (side_is s a) ∙ upto (total_for s) a b (id_for s) (coarse s a b h) (sym (ap is_gt (side_is s b)) ∙ low)

low : (s : Sought) (a b : Id) → id_cmp a b ≡ Less → is_lt (side_of s a) ≡ false → is_lt (side_of s b) ≡ false
low s a b h out = not_true (is_lt (side_of s b)) (λ before. true≢false (sym (before_down s a b h before) ∙ out))

high : (s : Sought) (a b : Id) → id_cmp a b ≡ Less → is_gt (side_of s a) ≡ true → is_gt (side_of s b) ≡ true
high s a b h behind = not_false (is_gt (side_of s b)) (λ out. true≢false (sym behind ∙ behind_down s a b h out))

-- ---- what is sought

same_kind_test : (k j : Kind) → (eqb (number_of k) (number_of j) && true) ≡ is_eq (nat_cmp (number_of j) (number_of k))
same_kind_test k j = both_ways (eqb (number_of k) (number_of j) && true) (is_eq (nat_cmp (number_of j) (number_of k)))
    (λ h. let same : number_of k ≡ number_of j = eqb-true _ _ (and_parts _ true h).0 in
    subst (λ (n : ℕ). is_eq (nat_cmp n (number_of k)) ≡ true) same (ap is_eq (tied_itself nat_cmp_total (number_of k))))
    (λ h. and_from _ true (eq-eqb _ _ (sym (nat_cmp-IsAntisymmetric (number_of j) (number_of k) ((Equal-is _).0 h)))) refl)

both_Equal : (a b : Ordering) → ordering_then a b ≡ Equal → (a ≡ Equal) × (b ≡ Equal)
both_Equal Less b e = absurd (cc)
both_Equal Equal b e = (refl, e)
both_Equal Greater b e = absurd (cc)

same_home_test : (k j : Kind) (n m : List ℕ) → (eqb (number_of k) (number_of j) && bytes_eq m n) ≡ is_eq (ordering_then (nat_cmp (number_of j) (number_of k)) (bytes_cmp m n))
same_home_test k j n m = both_ways (eqb (number_of k) (number_of j) && bytes_eq m n) (is_eq (ordering_then (nat_cmp (number_of j) (number_of k)) (bytes_cmp m n)))
    (λ h. let parts = and_parts (eqb (number_of k) (number_of j)) (bytes_eq m n) h in
    let same : number_of k ≡ number_of j = eqb-true _ _ parts.0 in
    let one : m ≡ n = (bytes_eq-Decides m n).0 parts.1 in
    let kinds : nat_cmp (number_of j) (number_of k) ≡ Equal = subst (λ (i : ℕ). nat_cmp i (number_of k) ≡ Equal) same (tied_itself nat_cmp_total (number_of k)) in
    let names : bytes_cmp m n ≡ Equal = subst (λ (x : List ℕ). bytes_cmp m x ≡ Equal) one (tied_itself nat_list_cmp_total m) in
    ap (λ o. is_eq (ordering_then o (bytes_cmp m n))) kinds ∙ ap is_eq names)
    (λ h. let parts = both_Equal (nat_cmp (number_of j) (number_of k)) (bytes_cmp m n) ((Equal-is _).0 h) in
    and_from _ _ (eq-eqb _ _ (sym (nat_cmp-IsAntisymmetric (number_of j) (number_of k) parts.0))) ((bytes_eq-Decides m n).1 (slice_cmp-IsAntisymmetric nat_cmp-IsAntisymmetric m n parts.1)))

same_id_test : (q a : Id) → same_id q a ≡ is_eq (id_cmp a q)
same_id_test q a = both_ways (same_id q a) (is_eq (id_cmp a q))
    (λ h. subst (λ (b : Id). is_eq (id_cmp b q) ≡ true) (is_same_id q a h) (ap is_eq (tied_itself id_total q)))
    (λ h. let tied : id_cmp a q ≡ Equal = (Equal-is _).0 h in
    let same : a ≡ q = is_same_id a q (same_from_Equal a q tied) in
    subst (λ (b : Id). same_id q b ≡ true) (sym same) (same_from_Equal q q (tied_itself id_total q)))

-- what is sought is what lies neither before nor behind
pub fits_side : (s : Sought) (x : Object) → is_eq (side_of s x.id) ≡ fits s x
fits_side (OfKind kind) x = sym (same_kind_test kind x.id.kind)
fits_side (InNamespace kind ns) x = sym (same_home_test kind x.id.kind ns.now x.id.ns)
fits_side (Named kind ns name) x = sym (same_id_test (record { kind = kind; ns = ns.now; name = name.now }) x.id)

-- ---- objects that ascend

-- an identity that is less than all is less than each
pub below_all : (id : Id) (objects : Objects) → is_below_all id objects ≡ true → AllByRecursion (λ (y : Object). id_cmp id y.id ≡ Less) objects
below_all id [] h = tt
below_all id (y ∷ objects) h =
    let parts = and_parts (is_lt (id_cmp id y.id)) (is_below_all id objects) h in
    (less (id_cmp id y.id) parts.0, below_all id objects parts.1)

-- objects that ascend are sorted
pub sorted_objects : (objects : Objects) → ascends objects ≡ true → IsStrictlySortedBy (λ (x y : Object). id_cmp x.id y.id) objects
unfolding IsStrictlySortedBy
sorted_objects [] h = tt
sorted_objects (x ∷ objects) h =
    let parts = and_parts (is_below_all x.id objects) (ascends objects) h in
    (below_all x.id objects parts.0, sorted_objects objects parts.1)

abbrev start_in : Sought → Objects → ℕ
start_in s objects = prefix_len (λ (x : Object). is_lt (side_of s x.id)) objects

abbrev end_in : Sought → Objects → ℕ
end_in s objects = prefix_len (λ (x : Object). not (is_gt (side_of s x.id))) objects

-- a filter by a test that answers alike
pub filter_alike : (p q : Object → Bool) → ((x : Object) → p x ≡ q x) → (objects : Objects) → filter p objects ≡ filter q objects
filter_alike p q same objects = ap (λ t. filter t objects) (λ i x. same x i)

-- what is sought stands side by side
pub run_of_sought : (s : Sought) (objects : Objects) → ascends objects ≡ true → take (end_in s objects - start_in s objects) (drop (start_in s objects) objects) ≡ filter (fits s) objects
run_of_sought s objects order =
    run_filter (λ (x : Object). side_of s x.id) (λ (x y : Object). id_cmp x.id y.id) (λ x y. low s x.id y.id) (λ x y. high s x.id y.id) objects (sorted_objects objects order)
    ∙ filter_alike (λ (x : Object). is_eq (side_of s x.id)) (fits s) (fits_side s) objects

-- what is less than one that isn't behind isn't either
pub within_down : (s : Sought) (a b : Id) → id_cmp a b ≡ Less → not (is_gt (side_of s b)) ≡ true → not (is_gt (side_of s a)) ≡ true
within_down s a b h out = ap not (behind_down s a b h (turned (is_gt (side_of s b)) out))
  where
    turned : (t : Bool) → not t ≡ true → t ≡ false
    turned true e = absurd (true≢false (sym e))
    turned false e = refl

pub ends_order : (s : Sought) (objects : Objects) → start_in s objects ≤ end_in s objects
ends_order s objects = start_end (λ (x : Object). side_of s x.id) objects

pub end_within : (s : Sought) (objects : Objects) → end_in s objects ≤ length objects
end_within s objects = prefix_len-le-length (λ (x : Object). not (is_gt (side_of s x.id))) objects

-- the first of those that a test keeps
pub first_found : (p : Object → Bool) (objects : Objects) → slice_get (filter p objects) 0 ≡ find p objects
first_found p [] = refl
first_found p (x ∷ objects) = elim (p x) as (λ b. slice_get (cond b (x ∷ filter p objects) (filter p objects)) 0 ≡ cond b (Some x) (find p objects)) [
  | true ↦ refl
  | false ↦ first_found p objects
]
