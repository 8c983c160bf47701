-- What all namespaces have together fits after a change.
--     fits_added, fits_removed, fits_moved      after one comes, goes and moves
--     own_fits                                  what one has is within it
--     used_within                               so is what it has with all below it
use Rattle.std.proofs.Common.{◌≡◌, ℕ, ◌+◌, ◌≤◌, ◌<◌, ◌^◌, Bool, true, false, cond, Option, Some, None, option_map, List, refl, sym, ap, subst, ◌∙◌, arith}
use Rattle.std.specs.Prelude.{sum_by}
use Rattle.std.proofs.lemmas.List.Sums.{sum_by-le-sum_by}
use Rattle.hx_model.specs.Forest.{Forest, in_chain}
use Rattle.hx_model.specs.declared.resource.Resource.{Resource}
use Rattle.hx_model.specs.declared.resource.Resource.TheVariants.{Pods, RequestsCpu, RequestsMemory, LimitsCpu, LimitsMemory, RequestsStorage, CountRoles, CountRoleBindings, CountConfigMaps, CountSecrets, CountNetworkPolicies, CountLimitRanges, CountPods, CountServices, CountClaims}
use Rattle.hx_model.proofs.Climbing.{same_itself}
use Rattle.hx_forest.specs.Named.{with_changed}
use Rattle.hx_forest.proofs.Named.{lookup-with_changed}
use Rattle.hx_quota.specs.Counters.{Entry}
use Rattle.hx_quota.specs.Counters.{Entries, entry_of, own_of, part_of, total_of, with_entry, new_entry, without_entry, with_parent, AllFit}
use Rattle.hx_quota.proofs.Sums.{sum-with_entry, sum-without_entry, sum-same, part-le}

pub has_nothing : (r : Resource) → own_of r new_entry ≡ 0
has_nothing Pods = refl
has_nothing RequestsCpu = refl
has_nothing RequestsMemory = refl
has_nothing LimitsCpu = refl
has_nothing LimitsMemory = refl
has_nothing RequestsStorage = refl
has_nothing CountRoles = refl
has_nothing CountRoleBindings = refl
has_nothing CountConfigMaps = refl
has_nothing CountSecrets = refl
has_nothing CountNetworkPolicies = refl
has_nothing CountLimitRanges = refl
has_nothing CountPods = refl
has_nothing CountServices = refl
has_nothing CountClaims = refl

pub fits_added : (es now new : Entries) (n : List ℕ) → now ≡ es → entry_of now n ≡ None → new ≡ with_entry n new_entry es → AllFit es → AllFit new
fits_added es now new n same none is fit r =
    let absent : entry_of es n ≡ None = ap (λ (xs : Entries). entry_of xs n) (sym same) ∙ none in
    let more : total_of (with_entry n new_entry es) r ≡ total_of es r = sum-with_entry (λ e. own_of r e.1) n new_entry es absent ∙ ap (λ k. total_of es r + k) (has_nothing r) ∙ plain (total_of es r) in
    subst (λ (k : ℕ). k < 2 ^ 128) (sym (ap (λ (xs : Entries). total_of xs r) is ∙ more)) (fit r)
  where
    plain : (k : ℕ) → k + 0 ≡ k
    plain k = omega arith

pub fits_removed : (es new : Entries) (n : List ℕ) → new ≡ without_entry n es → AllFit es → AllFit new
fits_removed es new n is fit r =
    subst (λ (k : ℕ). k < 2 ^ 128) (sym (ap (λ (xs : Entries). total_of xs r) is)) (less (total_of (without_entry n es) r) (total_of es r) (sum-without_entry (λ e. own_of r e.1) n es) (fit r))
  where
    less : (a b : ℕ) → a ≤ b → b < 2 ^ 128 → a < 2 ^ 128
    less a b le lt = omega (arith, le, lt)

pub fits_moved : (es new : Entries) (n : List ℕ) (parent : Option (List ℕ)) → new ≡ with_parent n parent es → AllFit es → AllFit new
fits_moved es new n parent is fit r =
    subst (λ (k : ℕ). k < 2 ^ 128) (sym (ap (λ (xs : Entries). total_of xs r) is ∙ sum-same (own_of r) n (λ (e : Entry). record e { parent = parent }) es (λ e. refl))) (fit r)

-- what a changed entry has fits where all together do
pub own_fits : (es : Entries) (n : List ℕ) (change : Entry → Entry) (entry : Entry) → entry_of es n ≡ Some entry → AllFit (with_changed n change es) → (r : Resource) → own_of r (change entry) < 2 ^ 128
own_fits es n change entry there fit r =
    let found : entry_of (with_changed n change es) n ≡ Some (change entry) = lookup-with_changed n change es n ∙ (λ i. cond (same_itself n i) (option_map change (there i)) (there i)) in
    within (own_of r (change entry)) (total_of (with_changed n change es) r) (part-le (own_of r) n (change entry) (with_changed n change es) found) (fit r)
  where
    within : (a b : ℕ) → a ≤ b → b < 2 ^ 128 → a < 2 ^ 128
    within a b le lt = omega (arith, le, lt)

pub used_within : (f : Forest) (n : List ℕ) (r : Resource) (es : Entries) → sum_by (part_of f n r) es ≤ total_of es r
used_within f n r es = sum_by-le-sum_by (part_of f n r) (λ e. own_of r e.1) es (λ e. part (in_chain f e.0 n) (own_of r e.1))
  where
    part : (b : Bool) (k : ℕ) → cond b k 0 ≤ k
    part true k = omega arith
    part false k = omega arith
