-- What deltas that are apart make of sums, and those by an object that takes another's place.
--     shift_at deltas r k        what they make of the sum of a resource
--     shifted_at                 what they make of own sums
--     shift_one, shift_none      by the one that is of the resource, or where none is
--     shift_deltas               by those of an object that takes another's place
--     apart_deltas, old_deltas   those are apart, and replace what is there
--     deltas_none, none_deltas   there are none where nothing charged changes, and only then
--     total_shifted              what all have together, after own sums are shifted
--     total_one, total_none      by the delta that is of the resource, or where none is
--     total_deltas, fits_deltas  by those of an object;  that it fits
use Rattle.std.proofs.Common.{◌≡◌, ℕ, ◌+◌, ◌-◌, ◌≤◌, ◌<◌, ◌^◌, Bool, true, false, cond, not, ◌||◌, Option, Some, List, [], ◌∷◌, length, map, filter, refl, sym, ap, subst, ◌∙◌, arith, true≢false, eqb-true}
use Rattle.std.specs.Prelude.{find, nat_eq, slice_index, slice_index_or, slice_set}
use Rattle.std.specs.List.{list_any}
use Rattle.std.proofs.lemmas.Cmp.{nat_eq_equiv}
use Rattle.std.proofs.lemmas.List.{get_or-set_same, get_or-set_other, length-set}
use Rattle.std.proofs.lemmas.Option.{none-some, same_Some}
use Rattle.hx_object.specs.declared.object.Object.{Object}
use Rattle.hx_model.specs.Charges.{all_resources}
use Rattle.hx_model.specs.Quotas.{charge_before}
use Rattle.hx_model.specs.declared.resource.Resource.{Resource}
use Rattle.hx_model.specs.declared.resource.Resource.TheVariants.{Pods, RequestsCpu, RequestsMemory, LimitsCpu, LimitsMemory, RequestsStorage, CountRoles, CountRoleBindings, CountConfigMaps, CountSecrets, CountNetworkPolicies, CountLimitRanges, CountPods, CountServices, CountClaims}
use Rattle.hx_model.proofs.Parents.{out_head, out_tail}
use Rattle.hx_forest.proofs.Named.{ascends}
use Rattle.hx_quota.specs.declared.entry.Delta.{Delta}
use Rattle.hx_quota.specs.Counters.{Entry}
use Rattle.hx_quota.specs.Counters.{Entries, entry_of, place_of, own_of, is_of, shifted, total_of, with_shifted, AreApart, HaveOld, AllFit}
use Rattle.hx_quota.specs.Counting.{is_recharged, delta_by, deltas_of}
use Rattle.hx_quota.proofs.Cutting.{sum-changed}
use Rattle.hx_quota.proofs.Deltas.{in_place, shift_in}
use Rattle.hx_quota.proofs.Sums.{part-le}

-- ---- resources

-- the resource of a place
resource_at : (r : Resource) → slice_index_or all_resources (place_of r) Pods ≡ r
resource_at Pods = refl
resource_at RequestsCpu = refl
resource_at RequestsMemory = refl
resource_at LimitsCpu = refl
resource_at LimitsMemory = refl
resource_at RequestsStorage = refl
resource_at CountRoles = refl
resource_at CountRoleBindings = refl
resource_at CountConfigMaps = refl
resource_at CountSecrets = refl
resource_at CountNetworkPolicies = refl
resource_at CountLimitRanges = refl
resource_at CountPods = refl
resource_at CountServices = refl
resource_at CountClaims = refl

-- two of one place are one
one_resource : (r s : Resource) → nat_eq (place_of r) (place_of s) ≡ true → r ≡ s
one_resource r s same = sym (resource_at r) ∙ ap (λ (k : ℕ). slice_index_or all_resources k Pods) (exact (place_of r) (place_of s) same) ∙ resource_at s
  where
    exact : (a b : ℕ) → nat_eq a b ≡ true → a ≡ b
    exact a b h = eqb-true a b h

-- a resource is among some
abbrev is_among : Resource → List Resource → Bool
is_among r rs = list_any (λ (s : Resource). nat_eq (place_of r) (place_of s)) rs

among_all : (r : Resource) → is_among r all_resources ≡ true
among_all Pods = refl
among_all RequestsCpu = refl
among_all RequestsMemory = refl
among_all LimitsCpu = refl
among_all LimitsMemory = refl
among_all RequestsStorage = refl
among_all CountRoles = refl
among_all CountRoleBindings = refl
among_all CountConfigMaps = refl
among_all CountSecrets = refl
among_all CountNetworkPolicies = refl
among_all CountLimitRanges = refl
among_all CountPods = refl
among_all CountServices = refl
among_all CountClaims = refl

-- ---- deltas

-- what they make of the sum of a resource, where they are apart
abbrev pub shift_at : List Delta → Resource → ℕ → ℕ
shift_at [] r k = k
shift_at (d ∷ deltas) r k = cond (is_of r d) (k - d.old + d.new) (shift_at deltas r k)

pub shift_none : (deltas : List Delta) (r : Resource) (k : ℕ) → list_any (is_of r) deltas ≡ false → shift_at deltas r k ≡ k
shift_none [] r k none = refl
shift_none (d ∷ deltas) r k none = ap (λ b. cond b (k - d.old + d.new) (shift_at deltas r k)) (out_head (is_of r d) (list_any (is_of r) deltas) none) ∙ shift_none deltas r k (out_tail (is_of r d) (list_any (is_of r) deltas) none)

pub shift_one : (deltas : List Delta) (r : Resource) (k : ℕ) (d : Delta) → find (is_of r) deltas ≡ Some d → shift_at deltas r k ≡ k - d.old + d.new
shift_one [] r k d found = absurd (none-some d found)
shift_one (x ∷ deltas) r k d found = elim (is_of r x) as (λ b. cond b (Some x) (find (is_of r) deltas) ≡ Some d → cond b (k - x.old + x.new) (shift_at deltas r k) ≡ k - d.old + d.new) [
  | true ↦ λ is. ap (λ (y : Delta). k - y.old + y.new) (same_Some x d is)
  | false ↦ λ later. shift_one deltas r k d later
] found

-- what they make of own sums
pub shifted_at : (deltas : List Delta) (own : List ℕ) (r : Resource) → length own ≡ 15 → AreApart deltas → slice_index (shifted deltas own) (place_of r) ≡ shift_at deltas r (slice_index own (place_of r))
shifted_at [] own r long apart = refl
shifted_at (d ∷ deltas) own r long apart =
    shifted_at deltas next r (length-set own (place_of d.resource) made ∙ long) apart.1 ∙ at (is_of r d) refl
  where
    made : ℕ
    made = slice_index own (place_of d.resource) - d.old + d.new

    next : List ℕ
    next = slice_set own (place_of d.resource) made

    within : place_of d.resource < length own
    within = subst (λ (k : ℕ). place_of d.resource < k) (sym long) (in_place d.resource)

    at : (b : Bool) → is_of r d ≡ b → shift_at deltas r (slice_index next (place_of r)) ≡ cond b (slice_index own (place_of r) - d.old + d.new) (shift_at deltas r (slice_index own (place_of r)))
    at true same =
        let is : d.resource ≡ r = sym (one_resource r d.resource same) in
        shift_none deltas r (slice_index next (place_of r)) (subst (λ (s : Resource). list_any (is_of s) deltas ≡ false) is apart.0)
        ∙ subst (λ (s : Resource). slice_index next (place_of s) ≡ slice_index own (place_of s) - d.old + d.new) is (get_or-set_same own (place_of d.resource) made 0 within)
    at false other = ap (shift_at deltas r) (get_or-set_other own (place_of d.resource) (place_of r) made 0 (λ same. true≢false (sym (nat_eq_equiv.refl (place_of r)) ∙ ap (nat_eq (place_of r)) same ∙ other)))

-- the same is made of more
shift_more : (deltas : List Delta) (own : List ℕ) (r : Resource) (whole : ℕ) → HaveOld deltas own → slice_index own (place_of r) ≤ whole
    → shift_at deltas r whole + slice_index own (place_of r) ≡ whole + shift_at deltas r (slice_index own (place_of r))
shift_more [] own r whole have within = refl
shift_more (d ∷ deltas) own r whole have within =
    elim (is_of r d) as (λ b. is_of r d ≡ b → cond b (whole - d.old + d.new) (shift_at deltas r whole) + slice_index own (place_of r) ≡ whole + cond b (slice_index own (place_of r) - d.old + d.new) (shift_at deltas r (slice_index own (place_of r)))) [
      | true ↦ λ same.
          let old : d.old ≤ slice_index own (place_of r) = subst (λ (s : Resource). d.old ≤ slice_index own (place_of s)) (sym (one_resource r d.resource same)) have.0 in
          omega (arith, old, within)
      | false ↦ λ _. shift_more deltas own r whole have.1 within
    ] refl

-- ---- those of an object that takes another's place

-- no two resources are one
abbrev AreDifferent : List Resource → Type 0
AreDifferent [] = Unit {0}
AreDifferent (r ∷ rs) = (is_among r rs ≡ false) × AreDifferent rs

all_different : AreDifferent all_resources
all_different = (refl, (refl, (refl, (refl, (refl, (refl, (refl, (refl, (refl, (refl, (refl, (refl, (refl, (refl, (refl, tt)))))))))))))))

module _ (old new : Option Object) where
  -- deltas of some resources
  abbrev deltas_by : (Resource → Bool) → List Resource → List Delta
  deltas_by p rs = map (delta_by old new) (filter p rs)

  not_among : (p : Resource → Bool) (r : Resource) (rs : List Resource) → is_among r rs ≡ false → list_any (is_of r) (deltas_by p rs) ≡ false
  not_among p r [] out = refl
  not_among p r (s ∷ rs) out =
      let rest = not_among p r rs (out_tail (nat_eq (place_of r) (place_of s)) (is_among r rs) out) in
      elim (p s) as (λ b. list_any (is_of r) (map (delta_by old new) (cond b (s ∷ filter p rs) (filter p rs))) ≡ false) [
        | true ↦ ap (λ b. b || list_any (is_of r) (deltas_by p rs)) (out_head (nat_eq (place_of r) (place_of s)) (is_among r rs) out) ∙ rest
        | false ↦ rest
      ]

  apart_by : (p : Resource → Bool) (rs : List Resource) → AreDifferent rs → AreApart (deltas_by p rs)
  apart_by p [] apart = tt
  apart_by p (s ∷ rs) apart = elim (p s) as (λ b. AreApart (map (delta_by old new) (cond b (s ∷ filter p rs) (filter p rs)))) [
    | true ↦ (not_among p s rs apart.0, apart_by p rs apart.1)
    | false ↦ apart_by p rs apart.1
  ]

  pub apart_deltas : AreApart (deltas_of old new)
  apart_deltas = apart_by (is_recharged old new) all_resources all_different

  old_by : (p : Resource → Bool) (own : List ℕ) (rs : List Resource) → ((r : Resource) → charge_before old r ≤ slice_index own (place_of r)) → HaveOld (deltas_by p rs) own
  old_by p own [] have = tt
  old_by p own (s ∷ rs) have = elim (p s) as (λ b. HaveOld (map (delta_by old new) (cond b (s ∷ filter p rs) (filter p rs))) own) [
    | true ↦ (have s, old_by p own rs have)
    | false ↦ old_by p own rs have
  ]

  pub old_deltas : (own : List ℕ) → ((r : Resource) → charge_before old r ≤ slice_index own (place_of r)) → HaveOld (deltas_of old new) own
  old_deltas own have = old_by (is_recharged old new) own all_resources have

  -- what isn't charged anew stays
  shift_still : (p : Resource → Bool) (rs : List Resource) (r : Resource) (k : ℕ) → charge_before old r ≡ charge_before new r → charge_before old r ≤ k → shift_at (deltas_by p rs) r k ≡ k
  shift_still p [] r k still within = refl
  shift_still p (s ∷ rs) r k still within =
      let rest = shift_still p rs r k still within in
      elim (p s) as (λ b. shift_at (map (delta_by old new) (cond b (s ∷ filter p rs) (filter p rs))) r k ≡ k) [
        | true ↦ elim (nat_eq (place_of r) (place_of s)) as (λ b. nat_eq (place_of r) (place_of s) ≡ b → cond b (k - charge_before old s + charge_before new s) (shift_at (deltas_by p rs) r k) ≡ k) [
          | true ↦ λ same. subst (λ (q : Resource). k - charge_before old q + charge_before new q ≡ k) (one_resource r s same) (back (charge_before old r) (charge_before new r) still within)
          | false ↦ λ _. rest
        ] refl
        | false ↦ rest
      ]
    where
      back : (a b : ℕ) → a ≡ b → a ≤ k → k - a + b ≡ k
      back a b same le = omega (arith, same, le)

  -- what is charged anew is shifted
  shift_anew : (rs : List Resource) (r : Resource) (k : ℕ) → is_among r rs ≡ true → is_recharged old new r ≡ true → shift_at (deltas_by (is_recharged old new) rs) r k ≡ k - charge_before old r + charge_before new r
  shift_anew [] r k among anew = absurd (true≢false (sym among))
  shift_anew (s ∷ rs) r k among anew =
      elim (nat_eq (place_of r) (place_of s)) as (λ b. nat_eq (place_of r) (place_of s) ≡ b → (b || is_among r rs) ≡ true → shift_at (deltas_by (is_recharged old new) (s ∷ rs)) r k ≡ k - charge_before old r + charge_before new r) [
        | true ↦ λ same _.
            let is = one_resource r s same in
            let kept : is_recharged old new s ≡ true = subst (λ (q : Resource). is_recharged old new q ≡ true) is anew in
            ap (λ b. shift_at (map (delta_by old new) (cond b (s ∷ filter (is_recharged old new) rs) (filter (is_recharged old new) rs))) r k) kept
            ∙ ap (λ b. cond b (k - charge_before old s + charge_before new s) (shift_at (deltas_by (is_recharged old new) rs) r k)) same
            ∙ sym (ap (λ (q : Resource). k - charge_before old q + charge_before new q) is)
        | false ↦ λ other later.
            elim (is_recharged old new s) as (λ b. shift_at (map (delta_by old new) (cond b (s ∷ filter (is_recharged old new) rs) (filter (is_recharged old new) rs))) r k ≡ k - charge_before old r + charge_before new r) [
              | true ↦ ap (λ b. cond b (k - charge_before old s + charge_before new s) (shift_at (deltas_by (is_recharged old new) rs) r k)) other ∙ shift_anew rs r k later anew
              | false ↦ shift_anew rs r k later anew
            ]
      ] refl among

  pub shift_deltas : (r : Resource) (k : ℕ) → charge_before old r ≤ k → shift_at (deltas_of old new) r k ≡ k - charge_before old r + charge_before new r
  shift_deltas r k within = at (nat_eq (charge_before old r) (charge_before new r)) refl
    where
      back : (a b : ℕ) → a ≡ b → a ≤ k → k ≡ k - a + b
      back a b same le = omega (arith, same, le)

      at : (b : Bool) → nat_eq (charge_before old r) (charge_before new r) ≡ b → shift_at (deltas_of old new) r k ≡ k - charge_before old r + charge_before new r
      at true same =
          let still = eqb-true (charge_before old r) (charge_before new r) same in
          shift_still (is_recharged old new) all_resources r k still within ∙ back (charge_before old r) (charge_before new r) still within
      at false other = shift_anew all_resources r k (among_all r) (ap not other)

  -- ---- whether there are any

  none_by : (rs : List Resource) → ((r : Resource) → charge_before old r ≡ charge_before new r) → deltas_by (is_recharged old new) rs ≡ []
  none_by [] same = refl
  none_by (s ∷ rs) same =
      let still : is_recharged old new s ≡ false = ap not (ap (nat_eq (charge_before old s)) (sym (same s)) ∙ nat_eq_equiv.refl (charge_before old s)) in
      ap (λ b. map (delta_by old new) (cond b (s ∷ filter (is_recharged old new) rs) (filter (is_recharged old new) rs))) still ∙ none_by rs same

  -- there are none where nothing charged changes
  pub deltas_none : ((r : Resource) → charge_before old r ≡ charge_before new r) → deltas_of old new ≡ []
  deltas_none same = none_by all_resources same

  some_by : (rs : List Resource) (r : Resource) → is_among r rs ≡ true → is_recharged old new r ≡ true → list_any (is_of r) (deltas_by (is_recharged old new) rs) ≡ true
  some_by [] r among anew = absurd (true≢false (sym among))
  some_by (s ∷ rs) r among anew =
      elim (nat_eq (place_of r) (place_of s)) as (λ b. nat_eq (place_of r) (place_of s) ≡ b → (b || is_among r rs) ≡ true → list_any (is_of r) (deltas_by (is_recharged old new) (s ∷ rs)) ≡ true) [
        | true ↦ λ same _.
            let kept : is_recharged old new s ≡ true = subst (λ (q : Resource). is_recharged old new q ≡ true) (one_resource r s same) anew in
            ap (λ b. list_any (is_of r) (map (delta_by old new) (cond b (s ∷ filter (is_recharged old new) rs) (filter (is_recharged old new) rs)))) kept
            ∙ ap (λ b. b || list_any (is_of r) (deltas_by (is_recharged old new) rs)) same
        | false ↦ λ other later.
            elim (is_recharged old new s) as (λ b. list_any (is_of r) (map (delta_by old new) (cond b (s ∷ filter (is_recharged old new) rs) (filter (is_recharged old new) rs))) ≡ true) [
              | true ↦ ap (λ b. b || list_any (is_of r) (deltas_by (is_recharged old new) rs)) other ∙ some_by rs r later anew
              | false ↦ some_by rs r later anew
            ]
      ] refl among

  -- where there are none, nothing charged changes
  pub none_deltas : deltas_of old new ≡ [] → (r : Resource) → charge_before old r ≡ charge_before new r
  none_deltas none r = at (nat_eq (charge_before old r) (charge_before new r)) refl
    where
      at : (b : Bool) → nat_eq (charge_before old r) (charge_before new r) ≡ b → charge_before old r ≡ charge_before new r
      at true same = eqb-true (charge_before old r) (charge_before new r) same
      at false other = absurd (true≢false (sym (some_by all_resources r (among_all r) (ap not other)) ∙ ap (list_any (is_of r)) none))

-- ---- what all have together

module _ (es : Entries) (n : List ℕ) (names : List (List ℕ)) (entry : Entry) (up : ascends es ≡ true) (there : entry_of es n ≡ Some entry) (long : length entry.own ≡ 15) where
  pub total_shifted : (deltas : List Delta) → AreApart deltas → HaveOld deltas entry.own → (r : Resource) → total_of (with_shifted (n ∷ names) deltas es) r ≡ shift_at deltas r (total_of es r)
  total_shifted deltas apart have r =
      level (total_of (with_shifted (n ∷ names) deltas es) r) (own_of r entry) (total_of es r) (own_of r (shift_in deltas entry)) (shift_at deltas r (own_of r entry)) (shift_at deltas r (total_of es r))
      (sum-changed (λ e. own_of r e.1) n (shift_in deltas) entry es up there) (shifted_at deltas entry.own r long apart) (shift_more deltas entry.own r (total_of es r) have (part-le (own_of r) n entry es there))
    where
      level : (after own before then own_then before_then : ℕ) → after + own ≡ before + then → then ≡ own_then → before_then + own ≡ before + own_then → after ≡ before_then
      level after own before then own_then before_then e f g = omega (arith, e, f, g)

  pub total_one : (deltas : List Delta) → AreApart deltas → HaveOld deltas entry.own → (r : Resource) (d : Delta) → find (is_of r) deltas ≡ Some d → total_of (with_shifted (n ∷ names) deltas es) r ≡ total_of es r - d.old + d.new
  total_one deltas apart have r d found = total_shifted deltas apart have r ∙ shift_one deltas r (total_of es r) d found

  pub total_none : (deltas : List Delta) → AreApart deltas → HaveOld deltas entry.own → (r : Resource) → list_any (is_of r) deltas ≡ false → total_of (with_shifted (n ∷ names) deltas es) r ≡ total_of es r
  total_none deltas apart have r none = total_shifted deltas apart have r ∙ shift_none deltas r (total_of es r) none

  pub total_deltas : (old new : Option Object) → ((r : Resource) → charge_before old r ≤ own_of r entry) → (r : Resource) → total_of (with_shifted (n ∷ names) (deltas_of old new) es) r ≡ total_of es r - charge_before old r + charge_before new r
  total_deltas old new have r =
      total_shifted (deltas_of old new) (apart_deltas old new) (old_deltas old new entry.own have) r
      ∙ shift_deltas old new r (total_of es r) (less (charge_before old r) (own_of r entry) (total_of es r) (have r) (part-le (own_of r) n entry es there))
    where
      less : (a b c : ℕ) → a ≤ b → b ≤ c → a ≤ c
      less a b c p q = omega (arith, p, q)

  pub fits_deltas : (old new : Option Object) → ((r : Resource) → charge_before old r ≤ own_of r entry) → ((r : Resource) → total_of es r - charge_before old r + charge_before new r < 2 ^ 128) → AllFit (with_shifted (n ∷ names) (deltas_of old new) es)
  fits_deltas old new have fit r = subst (λ (k : ℕ). k < 2 ^ 128) (sym (total_deltas old new have r)) (fit r)
