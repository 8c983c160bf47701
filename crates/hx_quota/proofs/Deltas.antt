-- Deltas that are made one after the other.
--     may_shift        they may, where no two are of one resource and all sums fit afterwards
--     replaces         what they take and add says how they change own sums
--     sums_first, shifted_first      of a chain that begins with a namespace that is there
--     unchanged        a namespace that isn't there has nothing to change
use Rattle.std.proofs.Common.{◌≡◌, ℕ, ◌+◌, ◌-◌, ◌≤◌, ◌<◌, ◌^◌, Bool, true, false, cond, Option, Some, None, List, [], ◌∷◌, length, replicate, refl, sym, ap, subst, ◌∙◌, arith, true≢false, eqb-true}
use Rattle.std.specs.Prelude.{nat_eq, slice_index, slice_set, slice_get, is_some}
use Rattle.std.specs.List.{list_any, AllByRecursion}
use Rattle.std.specs.Option.{option_map_or}
use Rattle.std.specs.Str.{bytes_eq}
use Rattle.std.proofs.lemmas.Cmp.{nat_eq_equiv}
use Rattle.std.proofs.lemmas.List.{get_or-set_same, get_or-set_other, length-set}
use Rattle.std.proofs.lemmas.Option.{same_Some}
use Rattle.hx_model.specs.declared.resource.Resource.{Resource}
use Rattle.hx_model.specs.declared.resource.Resource.TheVariants.{Pods, RequestsCpu, RequestsMemory, LimitsCpu, LimitsMemory, RequestsStorage, CountRoles, CountRoleBindings, CountConfigMaps, CountSecrets, CountNetworkPolicies, CountLimitRanges, CountPods, CountServices, CountClaims}
use Rattle.hx_model.proofs.Parents.{out_head, out_tail}
use Rattle.hx_forest.specs.Named.{with_changed}
use Rattle.hx_quota.specs.Counters.{Entry}
use Rattle.hx_quota.specs.declared.entry.Delta.{Delta}
use Rattle.hx_quota.specs.Counters.{Entries, entry_of, place_of, is_of, shifted, with_shifted, sums_of, AreApart, HaveOld}
use Rattle.hx_quota.specs.Inside.{taken_by, given_by, OwnFit, MayShift, Replaces}
use Rattle.hx_quota.proofs.Fitting.{has_nothing}

differ : (a b : ℕ) → nat_eq a b ≡ false → b ≡ a → ⊥
differ a b out same = true≢false (sym (nat_eq_equiv.refl a) ∙ ap (nat_eq a) (sym same) ∙ out)

pub in_place : (r : Resource) → place_of r < 15
in_place Pods = omega arith
in_place RequestsCpu = omega arith
in_place RequestsMemory = omega arith
in_place LimitsCpu = omega arith
in_place LimitsMemory = omega arith
in_place RequestsStorage = omega arith
in_place CountRoles = omega arith
in_place CountRoleBindings = omega arith
in_place CountConfigMaps = omega arith
in_place CountSecrets = omega arith
in_place CountNetworkPolicies = omega arith
in_place CountLimitRanges = omega arith
in_place CountPods = omega arith
in_place CountServices = omega arith
in_place CountClaims = omega arith

-- what a delta makes of the sum that it is of
abbrev made : Delta → List ℕ → ℕ
made d own = slice_index own (place_of d.resource) - d.old + d.new

-- deltas of other resources leave a sum as it is
other_kept : (r : Resource) (deltas : List Delta) (own : List ℕ) → list_any (is_of r) deltas ≡ false → slice_index (shifted deltas own) (place_of r) ≡ slice_index own (place_of r)
other_kept r [] own apart = refl
other_kept r (d ∷ deltas) own apart =
    other_kept r deltas (slice_set own (place_of d.resource) (made d own)) (out_tail (is_of r d) (list_any (is_of r) deltas) apart)
    ∙ get_or-set_other own (place_of d.resource) (place_of r) (made d own) 0 (λ same. differ (place_of r) (place_of d.resource) (out_head (is_of r d) (list_any (is_of r) deltas) apart) (sym same))

still_old : (r : Resource) (v : ℕ) (deltas : List Delta) (own : List ℕ) → list_any (is_of r) deltas ≡ false → HaveOld deltas own → HaveOld deltas (slice_set own (place_of r) v)
still_old r v [] own apart have = tt
still_old r v (d ∷ deltas) own apart have =
    let same : slice_index (slice_set own (place_of r) v) (place_of d.resource) ≡ slice_index own (place_of d.resource) =
    get_or-set_other own (place_of r) (place_of d.resource) v 0 (differ (place_of r) (place_of d.resource) (out_head (is_of r d) (list_any (is_of r) deltas) apart)) in
    (subst (λ (k : ℕ). d.old ≤ k) (sym same) have.0, still_old r v deltas own (out_tail (is_of r d) (list_any (is_of r) deltas) apart) have.1)

-- deltas may be made, where no two are of one resource and all sums fit afterwards
pub may_shift : (deltas : List Delta) (own : List ℕ) → length own ≡ 15 → AreApart deltas → HaveOld deltas own → OwnFit (shifted deltas own) → MayShift deltas own
may_shift [] own long apart have fits = tt
may_shift (d ∷ deltas) own long apart have fits =
    let next = slice_set own (place_of d.resource) (made d own) in
    let within : place_of d.resource < length own = subst (λ (k : ℕ). place_of d.resource < k) (sym long) (in_place d.resource) in
    let now : slice_index (shifted deltas next) (place_of d.resource) ≡ made d own = other_kept d.resource deltas next apart.0 ∙ get_or-set_same own (place_of d.resource) (made d own) 0 within in (
      have.0,
      subst (λ (k : ℕ). k < 2 ^ 128) now (fits d.resource),
      may_shift deltas next (length-set own (place_of d.resource) (made d own) ∙ long) apart.1 (still_old d.resource (made d own) deltas own apart.0 have.1) fits,
    )

-- ---- what they take and add

-- nothing is taken yet of what deltas are of
abbrev IsFresh : List Delta → List ℕ → Type 0
IsFresh deltas xs = AllByRecursion (λ d. slice_index xs (place_of d.resource) ≡ 0) deltas

still_fresh : (r : Resource) (v : ℕ) (deltas : List Delta) (xs : List ℕ) → list_any (is_of r) deltas ≡ false → IsFresh deltas xs → IsFresh deltas (slice_set xs (place_of r) v)
still_fresh r v [] xs apart fresh = tt
still_fresh r v (d ∷ deltas) xs apart fresh = (
  get_or-set_other xs (place_of r) (place_of d.resource) v 0 (differ (place_of r) (place_of d.resource) (out_head (is_of r d) (list_any (is_of r) deltas) apart)) ∙ fresh.0,
  still_fresh r v deltas xs (out_tail (is_of r d) (list_any (is_of r) deltas) apart) fresh.1,
)

-- one delta more
module _ (d : Delta) (before own take give : List ℕ) (long : length own ≡ 15) (long_take : length take ≡ 15) (long_give : length give ≡ 15)
    (have : d.old ≤ slice_index own (place_of d.resource)) (no_take : slice_index take (place_of d.resource) ≡ 0) (no_give : slice_index give (place_of d.resource) ≡ 0)
    (all : (r : Resource) → Replaces take give before own (place_of r)) where
  abbrev at : ℕ
  at = place_of d.resource

  within : (xs : List ℕ) → length xs ≡ 15 → at < length xs
  within xs is = subst (λ (k : ℕ). at < k) (sym is) (in_place d.resource)

  step : (r : Resource) → Replaces (slice_set take at d.old) (slice_set give at d.new) before (slice_set own at (made d own)) (place_of r)
  step r = by (nat_eq (place_of r) at) refl
    where
      by : (b : Bool) → nat_eq (place_of r) at ≡ b → Replaces (slice_set take at d.old) (slice_set give at d.new) before (slice_set own at (made d own)) (place_of r)
      by true same =
          let here : at ≡ place_of r = sym (eqb-true (place_of r) at same) in
          let now = all d.resource in
          let t = get_or-set_same take at d.old 0 (within take long_take) in
          let g = get_or-set_same give at d.new 0 (within give long_give) in
          let o = get_or-set_same own at (made d own) 0 (within own long) in
          subst (λ (k : ℕ). Replaces (slice_set take at d.old) (slice_set give at d.new) before (slice_set own at (made d own)) k) here
          (omega (arith, t, now.0, now.1, no_take, no_give, have), omega (arith, t, g, o, now.1, no_take, no_give, have))
      by false other =
          let apart : place_of r ≡ at → ⊥ = λ same. differ (place_of r) at other (sym same) in
          let t = get_or-set_other take at (place_of r) d.old 0 apart in
          let g = get_or-set_other give at (place_of r) d.new 0 apart in
          let o = get_or-set_other own at (place_of r) (made d own) 0 apart in
          let now = all r in
          (omega (arith, t, now.0), omega (arith, t, g, o, now.1))

-- what deltas take and add is how they change own sums
replaces_from : (deltas : List Delta) (before own take give : List ℕ) → length own ≡ 15 → length take ≡ 15 → length give ≡ 15 → AreApart deltas → HaveOld deltas own → IsFresh deltas take → IsFresh deltas give
    → ((r : Resource) → Replaces take give before own (place_of r)) → (r : Resource) → Replaces (taken_by deltas take) (given_by deltas give) before (shifted deltas own) (place_of r)
replaces_from [] before own take give long long_take long_give apart have no_take no_give all r = all r
replaces_from (d ∷ deltas) before own take give long long_take long_give apart have no_take no_give all r =
    let at = place_of d.resource in
    replaces_from deltas before (slice_set own at (made d own)) (slice_set take at d.old) (slice_set give at d.new) (length-set own at (made d own) ∙ long) (length-set take at d.old ∙ long_take)
    (length-set give at d.new ∙ long_give) apart.1 (still_old d.resource (made d own) deltas own apart.0 have.1) (still_fresh d.resource d.old deltas take apart.0 no_take.1)
    (still_fresh d.resource d.new deltas give apart.0 no_give.1) (step d before own take give long long_take long_give have.0 no_take.0 no_give.0 all) r

-- nothing is taken or added at first
all_fresh : (deltas : List Delta) → IsFresh deltas (replicate 15 0)
all_fresh [] = tt
all_fresh (d ∷ deltas) = (has_nothing d.resource, all_fresh deltas)

pub replaces : (deltas : List Delta) (own : List ℕ) → length own ≡ 15 → AreApart deltas → HaveOld deltas own → (r : Resource)
    → Replaces (taken_by deltas (replicate 15 0)) (given_by deltas (replicate 15 0)) own (shifted deltas own) (place_of r)
replaces deltas own long apart have = replaces_from deltas own own (replicate 15 0) (replicate 15 0) long refl refl apart have (all_fresh deltas) (all_fresh deltas) none
  where
    none : (r : Resource) → Replaces (replicate 15 0) (replicate 15 0) own own (place_of r)
    none r = let zero_is = has_nothing r in (omega (arith, zero_is), omega (arith, zero_is))

-- ---- the first of a chain

no_first : {A : Type 0} (n : List ℕ) → ◌≡◌ {A = Option (List ℕ)} None (Some n) → A
no_first n h = absurd (true≢false (sym (ap is_some h)))

pub sums_first : (es : Entries) (chain : List (List ℕ)) (n : List ℕ) (entry : Entry) → slice_get chain 0 ≡ Some n → entry_of es n ≡ Some entry → sums_of es chain ≡ entry.own
sums_first es [] n entry first there = no_first n first
sums_first es (m ∷ names) n entry first there = ap (λ (o : Option Entry). option_map_or (λ e. e.own) o []) (ap (entry_of es) (same_Some m n first) ∙ there)

-- an entry with shifted sums
abbrev pub shift_in : List Delta → Entry → Entry
shift_in deltas e = record e { own = shifted deltas e.own }

pub shifted_first : (es : Entries) (chain : List (List ℕ)) (deltas : List Delta) (n : List ℕ) → slice_get chain 0 ≡ Some n → with_shifted chain deltas es ≡ with_changed n (shift_in deltas) es
shifted_first es [] deltas n first = no_first n first
shifted_first es (m ∷ names) deltas n first = ap (λ (k : List ℕ). with_changed k (shift_in deltas) es) (same_Some m n first)

-- a namespace that isn't there has nothing to change
pub unchanged : (n : List ℕ) (change : Entry → Entry) (es : Entries) → entry_of es n ≡ None → with_changed n change es ≡ es
unchanged n change [] none = refl
unchanged n change (e ∷ es) none = at (bytes_eq n e.0) refl none (unchanged n change es)
  where
    at : (b : Bool) → bytes_eq n e.0 ≡ b → cond b (Some e.1) (entry_of es n) ≡ None → (entry_of es n ≡ None → with_changed n change es ≡ es) → with_changed n change (e ∷ es) ≡ e ∷ es
    at true same h rest = absurd (true≢false (ap is_some h))
    at false out h rest = λ i. (e.0, cond (out i) (change e.1) e.1) ∷ rest h i
