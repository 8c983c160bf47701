-- Limits that hold on where no quota limits more and no more is used.
--     limit_holds      a limit that is no lower than one that held
--     quota_holds      those of a quota that got none
--     holds_still      those of all quotas of a namespace
use Rattle.std.proofs.Common.{◌≡◌, ◌≤◌, ℕ, Bool, true, false, ◌&&◌, Option, Some, None, List, [], refl, sym, ap, ◌∙◌, subst, arith, nat_le, true≢false}
use Rattle.std.specs.List.{AllByRecursion}
use Rattle.std.specs.Option.{option_map_or}
use Rattle.std.specs.Str.{bytes_eq}
use Rattle.std.proofs.lemmas.Bool.{and_parts, leb-true, true_from_ne_false, not_from_false}
use Rattle.hx_object.specs.declared.kind.Kind.TheVariants.{HierarchicalResourceQuota}
use Rattle.hx_object.specs.declared.object.Id.{Id}
use Rattle.hx_object.specs.declared.object.Limit.{Limit}
use Rattle.hx_object.specs.declared.object.Object.{Object}
use Rattle.hx_model.specs.Charges.{hard_of, resource_named}
use Rattle.hx_model.specs.Overruns.{IsWithin, HoldsIn}
use Rattle.hx_model.specs.Quotas.{quotas_in, used}
use Rattle.hx_model.specs.State.{State, object_at, is_listed}
use Rattle.hx_model.specs.declared.resource.Resource.{Resource}
use Rattle.hx_model.proofs.Climbing.{is_same}
use Rattle.hx_model.proofs.Objects.{found_id}
use Rattle.hx_model.proofs.Storing.{All-found}
use Rattle.hx_model.specs.Excess.{was_limited, hard_at, gets_limit, limits_more}
use Rattle.hx_model.proofs.Lists.{all_more, all_filtered, all_kept, any_witness, none_passes}

-- the quotas of a namespace
abbrev is_quota_in : List ℕ → Object → Bool
is_quota_in a q = is_listed HierarchicalResourceQuota (Some a) q

-- all limits of a quota hold
abbrev QuotaHolds : State → Resource → Object → Type 0
QuotaHolds s r q = AllByRecursion (IsWithin s r q) (hard_of q.payload)

module _ (s t : State) (a : List ℕ) (r : Resource) (less : used t a r ≤ used s a r) where
  limit_holds : (q : Object) (limit : Limit) (used_before : ℕ) (hard : List Limit) → q.id.ns ≡ a → used_before ≡ used s a r
      → AllByRecursion (λ (old : Limit). resource_named old.resource ≡ Some r → used_before ≤ old.amount) hard → was_limited hard limit ≡ true → IsWithin t r q limit
  limit_holds q limit used_before hard here same held was named =
      let found = any_witness (λ (old : Limit). resource_named old.resource ≡ Some r → used_before ≤ old.amount) (λ (old : Limit). bytes_eq old.resource limit.resource && nat_le old.amount limit.amount) hard held was in
      let parts = and_parts (bytes_eq found.0.resource limit.resource) (nat_le found.0.amount limit.amount) found.2 in
      let within : used_before ≤ found.0.amount = found.1 (ap resource_named (is_same found.0.resource limit.resource parts.0) ∙ named) in
      let no_lower : found.0.amount ≤ limit.amount = leb-true found.0.amount limit.amount parts.1 in
      let now : used t q.id.ns r ≡ used t a r = ap (λ n. used t n r) here in
      omega (arith, less, within, no_lower, now, same)

  -- the quota that was in its place
  quota_holds : (q : Object) → HoldsIn s a r → is_quota_in a q ≡ true → gets_limit s.objects q ≡ false → QuotaHolds t r q
  quota_holds q held is none = by (object_at s.objects q.id) refl
    where
      here : q.id.ns ≡ a
      here = is_same q.id.ns a (and_parts _ (bytes_eq q.id.ns a) is).1

      each : (hard : List Limit) (used_before : ℕ) → hard_at s.objects q.id ≡ hard → used_before ≡ used s a r → AllByRecursion (λ (old : Limit). resource_named old.resource ≡ Some r → used_before ≤ old.amount) hard → QuotaHolds t r q
      each hard used_before at same within = all_more _ _ (hard_of q.payload)
          (λ limit fails. limit_holds q limit used_before hard here same within (true_from_ne_false (was_limited hard limit) (λ not_was. true≢false (sym (not_from_false (was_limited (hard_at s.objects q.id) limit) (ap (λ h. was_limited h limit) at ∙ not_was)) ∙ fails))))
          (none_passes _ (hard_of q.payload) none)

      by : (found : Option Object) → object_at s.objects q.id ≡ found → QuotaHolds t r q
      by None at = each [] (used s a r) (ap (λ o. option_map_or (λ (x : Object). hard_of x.payload) o []) at) refl tt
      by (Some old) at =
          let same : q.id ≡ old.id = found_id s.objects q.id old at in
          let was : is_quota_in a old ≡ true = subst (λ (id : Id). is_quota_in a (record old { id = id }) ≡ true) same is in
          let within : QuotaHolds s r old = All-found (λ x. is_quota_in a x ≡ true → QuotaHolds s r x) q.id old s.objects (all_kept (QuotaHolds s r) (is_quota_in a) s.objects held) at was in
          each (hard_of old.payload) (used s old.id.ns r) (ap (λ o. option_map_or (λ (x : Object). hard_of x.payload) o []) at) (ap (λ (id : Id). used s id.ns r) (sym same) ∙ ap (λ n. used s n r) here) within

  pub holds_still : limits_more s t a ≡ false → HoldsIn s a r → HoldsIn t a r
  holds_still none held = all_filtered (QuotaHolds t r) (is_quota_in a) t.objects
      (all_more _ _ t.objects (λ q fails is. quota_holds q held is (fails is)) (all_kept (λ q. gets_limit s.objects q ≡ false) (is_quota_in a) t.objects (none_passes (gets_limit s.objects) (quotas_in t.objects a) none)))
