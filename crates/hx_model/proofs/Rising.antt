-- What the objects of a subtree use, before a commit and after it.
--     sum_less                 rows in order that have no more at each place have no more together
--     no_more_after            writes that each have no more than what is in their place leave no more at any place
--     sum_same, used_same      rows that have as much at each place have as much together;  and where it lies in the same subtrees, as much is used
--     rises_by_charges_alone   what a subtree uses rises only where it takes in an object or a write there raises a charge
use Rattle.std.proofs.Common.{◌≡◌, ◌≤◌, ◌-◌, ℕ, Bool, true, false, cond, Option, Some, None, List, [], ◌∷◌, sum_by, refl, sym, ap, ◌∙◌, subst, arith}
use Rattle.std.specs.Prelude.{if◌then◌else◌}
use Rattle.std.specs.Cmp.{tied_itself}
use Rattle.std.specs.List.{AllByRecursion}
use Rattle.std.proofs.lemmas.List.Sums.{sum_by-cons}
use Rattle.std.proofs.lemmas.Bool.{and_parts}
use Rattle.hx_object.specs.declared.object.Id.{Id}
use Rattle.hx_object.specs.declared.object.Object.{Object}
use Rattle.hx_model.specs.Charges.{charge_of}
use Rattle.hx_model.specs.Forest.{in_chain}
use Rattle.hx_model.specs.Limits.{part_of}
use Rattle.hx_model.specs.Overruns.{raised_by, RaiseNothingBelow, TakesInNone, RisesByChargesAlone}
use Rattle.hx_model.specs.Quotas.{charge_below, used, charge_before, rise_of}
use Rattle.hx_model.specs.State.{State, Objects, object_at, same_id, put, cut, is_below_all, ascends, after_writes, state_after}
use Rattle.hx_model.specs.Tree.{forest_of}
use Rattle.hx_model.specs.declared.key.Write.{Write}
use Rattle.hx_model.specs.declared.key.Write.TheVariants.{Put, Cut}
use Rattle.hx_model.specs.declared.resource.Resource.{Resource}
use Rattle.hx_model.proofs.Objects.{id_total, is_same_id, same_from_Equal, object_at-put, object_at-cut, found_id, none_below, sum-cut, ascends-cut}
use Rattle.hx_model.proofs.Storing.{All-found}
use Rattle.hx_model.proofs.Writes.{ascends_after}

-- ---- sums

module _ (f g : Object → ℕ) where
  -- at each place there is no more in the first rows than in the others
  abbrev HasNoMore : Objects → Objects → Type 0
  HasNoMore xs ys = (q : Id) → part_of f (object_at xs q) ≤ part_of g (object_at ys q)

  -- also without the first row, and what is in its place
  rest_has_no_more : (x : Object) (xs ys : Objects) → is_below_all x.id xs ≡ true → HasNoMore (x ∷ xs) ys → HasNoMore xs (cut x.id ys)
  rest_has_no_more x xs ys low less q = subst (λ o. part_of f (object_at xs q) ≤ part_of g o) (sym (object_at-cut x.id ys q)) (by (same_id q x.id) refl (less q))
    where
      by : (b : Bool) → same_id q x.id ≡ b → part_of f (cond b (Some x) (object_at xs q)) ≤ part_of g (object_at ys q) → part_of f (object_at xs q) ≤ part_of g (cond b None (object_at ys q))
      by true same h = subst (λ o. part_of f o ≤ 0) (sym (subst (λ (k : Id). object_at xs k ≡ None) (sym (is_same_id q x.id same)) (none_below x.id xs low))) (omega arith)
      by false other h = h

  pub sum_less : (xs ys : Objects) → ascends xs ≡ true → ascends ys ≡ true → HasNoMore xs ys → sum_by f xs ≤ sum_by g ys
  sum_less [] ys up high less = omega arith
  sum_less (x ∷ xs) ys up high less =
      let parts = and_parts (is_below_all x.id xs) (ascends xs) up in
      let rest : sum_by f xs ≤ sum_by g (cut x.id ys) = sum_less xs (cut x.id ys) parts.1 (ascends-cut x.id ys high) (rest_has_no_more x xs ys parts.0 less) in
      let own : f x ≤ part_of g (object_at ys x.id) = subst (λ b. part_of f (cond b (Some x) (object_at xs x.id)) ≤ part_of g (object_at ys x.id)) (same_from_Equal x.id x.id (tied_itself id_total x.id)) (less x.id) in
      omega (arith, rest, own, sum_by-cons f x xs, sum-cut g x.id ys high)

  -- a write that has no more than what is in its place
  abbrev FitsIn : Objects → Write → Type 0
  FitsIn base (Put x) = f x ≤ part_of g (object_at base x.id)
  FitsIn base (Cut id) = Unit {0}

  put_has_no_more : (base : Objects) (x : Object) (objects : Objects) → FitsIn base (Put x) → HasNoMore objects base → HasNoMore (put x objects) base
  put_has_no_more base x objects fits less q = subst (λ o. part_of f o ≤ part_of g (object_at base q)) (sym (object_at-put x objects q)) (by (same_id q x.id) refl)
    where
      by : (b : Bool) → same_id q x.id ≡ b → part_of f (cond b (Some x) (object_at objects q)) ≤ part_of g (object_at base q)
      by true same = subst (λ (k : Id). f x ≤ part_of g (object_at base k)) (sym (is_same_id q x.id same)) fits
      by false other = less q

  cut_has_no_more : (base : Objects) (id : Id) (objects : Objects) → HasNoMore objects base → HasNoMore (cut id objects) base
  cut_has_no_more base id objects less q = subst (λ o. part_of f o ≤ part_of g (object_at base q)) (sym (object_at-cut id objects q)) (by (same_id q id))
    where
      by : (b : Bool) → part_of f (cond b None (object_at objects q)) ≤ part_of g (object_at base q)
      by true = omega arith
      by false = less q

  pub no_more_after : (base : Objects) (ws : List Write) (objects : Objects) → AllByRecursion (FitsIn base) ws → HasNoMore objects base → HasNoMore (after_writes ws objects) base
  no_more_after base [] objects fits less = less
  no_more_after base (Put x ∷ ws) objects fits less = no_more_after base ws (put x objects) fits.1 (put_has_no_more base x objects fits.0 less)
  no_more_after base (Cut id ∷ ws) objects fits less = no_more_after base ws (cut id objects) fits.1 (cut_has_no_more base id objects less)

-- ---- charges

module _ (s t : State) (a : List ℕ) (r : Resource) (out : TakesInNone s t a) where
  abbrev now : Object → ℕ
  now = charge_below (forest_of t) a r

  abbrev before : Object → ℕ
  before = charge_below (forest_of s) a r

  -- what is found lay below a if it does
  lay_below : (id : Id) (y : Object) → object_at s.objects id ≡ Some y → in_chain (forest_of t) y.id.ns a ≡ true → before y ≡ charge_of y r
  lay_below id y there inside =
      let stays : in_chain (forest_of t) y.id.ns a ≡ true → in_chain (forest_of s) y.id.ns a ≡ true = All-found (λ (x : Object). in_chain (forest_of t) x.id.ns a ≡ true → in_chain (forest_of s) x.id.ns a ≡ true) id y s.objects out there in
      ap (λ b. if b then charge_of y r else 0) (stays inside)

  -- what stays has no more than it had
  same_rows_fit : HasNoMore now before s.objects s.objects
  same_rows_fit q = by (object_at s.objects q) refl
    where
      less : (y : Object) → object_at s.objects q ≡ Some y → (b : Bool) → in_chain (forest_of t) y.id.ns a ≡ b → (if b then charge_of y r else 0) ≤ before y
      less y there true inside = let old : before y ≡ charge_of y r = lay_below q y there inside in omega (arith, old)
      less y there false beside = omega arith

      by : (found : Option Object) → object_at s.objects q ≡ found → part_of now found ≤ part_of before found
      by None there = omega arith
      by (Some y) there = less y there (in_chain (forest_of t) y.id.ns a) refl

  -- what is put and raises nothing has no more than what is in its place
  put_fits : (x : Object) → (in_chain (forest_of t) x.id.ns a ≡ true → raised_by s (Put x) r ≡ 0) → now x ≤ part_of before (object_at s.objects x.id)
  put_fits x raises = by (object_at s.objects x.id) refl (in_chain (forest_of t) x.id.ns a) refl
    where
      by : (found : Option Object) → object_at s.objects x.id ≡ found → (b : Bool) → in_chain (forest_of t) x.id.ns a ≡ b → (if b then charge_of x r else 0) ≤ part_of before found
      by found there false beside = omega arith
      by None there true inside =
          let rise : charge_of x r - charge_before None r ≡ 0 = sym (ap (λ o. rise_of o x r) there) ∙ raises inside in
          omega (arith, rise)
      by (Some y) there true inside =
          let rise : charge_of x r - charge_before (Some y) r ≡ 0 = sym (ap (λ o. rise_of o x r) there) ∙ raises inside in
          let old : before y ≡ charge_of y r = lay_below x.id y there (sym (ap (λ (q : Id). in_chain (forest_of t) q.ns a) (found_id s.objects x.id y there)) ∙ inside) in
          omega (arith, rise, old)

  all_fit : (ws : List Write) → RaiseNothingBelow (forest_of t) s ws a r → AllByRecursion (FitsIn now before s.objects) ws
  all_fit [] raises = tt
  all_fit (Put x ∷ ws) raises = (put_fits x raises.0, all_fit ws raises.1)
  all_fit (Cut id ∷ ws) raises = (tt, all_fit ws raises.1)

pub rises_by_charges_alone : RisesByChargesAlone
unfolding used
rises_by_charges_alone s [] a r up out raises = omega arith
rises_by_charges_alone s (w ∷ ws) a r up out raises =
    let t = state_after s (w ∷ ws) in
    sum_less (now s t a r out) (before s t a r out) t.objects s.objects (ascends_after (w ∷ ws) s.objects up) up
    (no_more_after (now s t a r out) (before s t a r out) s.objects (w ∷ ws) s.objects (all_fit s t a r out (w ∷ ws) raises) (same_rows_fit s t a r out))

-- ---- what stays

-- rows in order that have as much at each place have as much together
pub sum_same : (f g : Object → ℕ) (xs ys : Objects) → ascends xs ≡ true → ascends ys ≡ true → ((q : Id) → part_of f (object_at xs q) ≡ part_of g (object_at ys q)) → sum_by f xs ≡ sum_by g ys
sum_same f g xs ys up high same =
    let no_more : sum_by f xs ≤ sum_by g ys = sum_less f g xs ys up high (λ q. let e : part_of f (object_at xs q) ≡ part_of g (object_at ys q) = same q in omega (arith, e)) in
    let no_less : sum_by g ys ≤ sum_by f xs = sum_less g f ys xs high up (λ q. let e : part_of f (object_at xs q) ≡ part_of g (object_at ys q) = same q in omega (arith, e)) in
    omega (arith, no_more, no_less)

-- where each place has the same charge in the subtree of a, the same is used
pub used_same : (s t : State) (a : List ℕ) (r : Resource) → ascends s.objects ≡ true → ascends t.objects ≡ true
    → ((q : Id) → part_of (charge_below (forest_of s) a r) (object_at s.objects q) ≡ part_of (charge_below (forest_of t) a r) (object_at t.objects q))
    → used s a r ≡ used t a r
unfolding used
used_same s t a r up high same = sum_same (charge_below (forest_of s) a r) (charge_below (forest_of t) a r) s.objects t.objects up high same
