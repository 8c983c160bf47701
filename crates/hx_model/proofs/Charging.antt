-- Which objects are charged for a resource.
--     charged_elsewhere     objects of another kind than the resource's are charged nothing
--     sum_listed            so what objects of a subtree are charged is the sum over those of one kind
--     uncharged             what holds for no resource of a kind holds for none that its objects are charged for
use Rattle.std.proofs.Common.{◌≡◌, ℕ, Bool, true, false, cond, ◌||◌, List, [], ◌∷◌, filter, sum_by, None, refl, ap, sym, ◌∙◌, inl, inr, ◌⊎◌, arith, true≢false}
use Rattle.std.specs.Prelude.{if◌then◌else◌, ◌==◌, ◌&&◌}
use Rattle.std.specs.List.{list_any}
use Rattle.std.proofs.lemmas.List.Sums.{sum_by-cons}
use Rattle.hx_object.specs.Kinds.{number_of}
use Rattle.hx_object.specs.declared.kind.Kind.{Kind}
use Rattle.hx_object.specs.declared.kind.Kind.TheVariants as of
use Rattle.hx_object.specs.declared.object.Object.{Object}
use Rattle.hx_object.specs.declared.object.Payload.{Payload}
use Rattle.hx_model.specs.Charges.{charge_of, charge_by, is_charged, kind_for, resources_for}
use Rattle.hx_model.specs.Forest.{Forest, in_chain}
use Rattle.hx_model.specs.Quotas.{charge_below}
use Rattle.hx_model.specs.State.{Objects, is_listed}
use Rattle.hx_model.specs.declared.resource.Resource.{Resource}
use Rattle.hx_model.specs.declared.resource.Resource.TheVariants.{Pods, RequestsCpu, RequestsMemory, LimitsCpu, LimitsMemory, RequestsStorage, CountRoles, CountRoleBindings, CountConfigMaps, CountSecrets, CountNetworkPolicies, CountLimitRanges, CountPods, CountServices, CountClaims}

-- ---- objects of other kinds

by_kind : (r : Resource) (kind : Kind) (payload : Payload) → (number_of (kind_for r) == number_of kind) ≡ false → charge_by kind payload r ≡ 0
by_kind Pods of.Pod payload other = absurd (true≢false other)
by_kind Pods _ payload other = refl
by_kind RequestsCpu of.Pod payload other = absurd (true≢false other)
by_kind RequestsCpu _ payload other = refl
by_kind RequestsMemory of.Pod payload other = absurd (true≢false other)
by_kind RequestsMemory _ payload other = refl
by_kind LimitsCpu of.Pod payload other = absurd (true≢false other)
by_kind LimitsCpu _ payload other = refl
by_kind LimitsMemory of.Pod payload other = absurd (true≢false other)
by_kind LimitsMemory _ payload other = refl
by_kind RequestsStorage of.PersistentVolumeClaim payload other = absurd (true≢false other)
by_kind RequestsStorage _ payload other = refl
by_kind CountRoles kind payload other = ap (λ b. if b then 1000 else 0) other
by_kind CountRoleBindings kind payload other = ap (λ b. if b then 1000 else 0) other
by_kind CountConfigMaps kind payload other = ap (λ b. if b then 1000 else 0) other
by_kind CountSecrets kind payload other = ap (λ b. if b then 1000 else 0) other
by_kind CountNetworkPolicies kind payload other = ap (λ b. if b then 1000 else 0) other
by_kind CountLimitRanges kind payload other = ap (λ b. if b then 1000 else 0) other
by_kind CountPods kind payload other = ap (λ b. if b then 1000 else 0) other
by_kind CountServices kind payload other = ap (λ b. if b then 1000 else 0) other
by_kind CountClaims kind payload other = ap (λ b. if b then 1000 else 0) other

nothing : (b : Bool) (n : ℕ) → n ≡ 0 → (if b then n else 0) ≡ 0
nothing true n e = e
nothing false n e = refl

and_true : (b : Bool) → (b && true) ≡ b
and_true true = refl
and_true false = refl

pub charged_elsewhere : (r : Resource) (x : Object) → is_listed (kind_for r) None x ≡ false → charge_of x r ≡ 0
unfolding charge_of
charged_elsewhere r x other = nothing (is_charged x) (charge_by x.id.kind x.payload r) (by_kind r x.id.kind x.payload (sym (and_true (number_of (kind_for r) == number_of x.id.kind)) ∙ other))

-- ---- sums

sum_kept : (f : Object → ℕ) (p : Object → Bool) → ((x : Object) → p x ≡ false → f x ≡ 0) → (xs : Objects) → sum_by f (filter p xs) ≡ sum_by f xs
sum_kept f p free [] = refl
sum_kept f p free (x ∷ xs) =
    elim (p x) as (λ b. p x ≡ b → sum_by f (cond b (x ∷ filter p xs) (filter p xs)) ≡ sum_by f (x ∷ xs)) [
      | true ↦ λ _. omega (arith, sum_by-cons f x (filter p xs), sum_by-cons f x xs, sum_kept f p free xs)
      | false ↦ λ e. omega (arith, sum_by-cons f x xs, sum_kept f p free xs, free x e)
    ] refl

uncharged_below : (f : Forest) (a : List ℕ) (r : Resource) (x : Object) → is_listed (kind_for r) None x ≡ false → charge_below f a r x ≡ 0
uncharged_below f a r x other = by (in_chain f x.id.ns a)
  where
    by : (b : Bool) → (if b then charge_of x r else 0) ≡ 0
    by true = charged_elsewhere r x other
    by false = refl

pub sum_listed : (f : Forest) (a : List ℕ) (r : Resource) (objects : Objects) → sum_by (charge_below f a r) (filter (is_listed (kind_for r) None) objects) ≡ sum_by (charge_below f a r) objects
sum_listed f a r objects = sum_kept (charge_below f a r) (is_listed (kind_for r) None) (uncharged_below f a r) objects

-- ---- resources of other kinds

left : (a b : Bool) → (a || b) ≡ false → a ≡ false
left false b e = refl
left true b e = e

right : (a b : Bool) → (a || b) ≡ false → b ≡ false
right false b e = e
right true b e = absurd (true≢false e)

abbrev behind_limits : List Resource
behind_limits = LimitsMemory ∷ CountPods ∷ []

abbrev behind_requests : List Resource
behind_requests = LimitsCpu ∷ behind_limits

abbrev behind_cpu : List Resource
behind_cpu = RequestsMemory ∷ behind_requests

abbrev behind_pods : List Resource
behind_pods = RequestsCpu ∷ behind_cpu

module _ (p : Resource → Bool) where
  head_fails : (r : Resource) (rs : List Resource) → list_any p (r ∷ rs) ≡ false → p r ≡ false
  head_fails r rs e = left (p r) (list_any p rs) e

  tail_fails : (r : Resource) (rs : List Resource) → list_any p (r ∷ rs) ≡ false → list_any p rs ≡ false
  tail_fails r rs e = right (p r) (list_any p rs) e

  by_resource : (kind : Kind) (payload : Payload) (r : Resource) → list_any p (resources_for kind) ≡ false → (p r ≡ false) ⊎ (charge_by kind payload r ≡ 0)
  by_resource of.Role payload CountRoles none = inl (head_fails CountRoles [] none)
  by_resource of.Role payload _ none = inr refl
  by_resource of.RoleBinding payload CountRoleBindings none = inl (head_fails CountRoleBindings [] none)
  by_resource of.RoleBinding payload _ none = inr refl
  by_resource of.ConfigMap payload CountConfigMaps none = inl (head_fails CountConfigMaps [] none)
  by_resource of.ConfigMap payload _ none = inr refl
  by_resource of.Secret payload CountSecrets none = inl (head_fails CountSecrets [] none)
  by_resource of.Secret payload _ none = inr refl
  by_resource of.NetworkPolicy payload CountNetworkPolicies none = inl (head_fails CountNetworkPolicies [] none)
  by_resource of.NetworkPolicy payload _ none = inr refl
  by_resource of.LimitRange payload CountLimitRanges none = inl (head_fails CountLimitRanges [] none)
  by_resource of.LimitRange payload _ none = inr refl
  by_resource of.Pod payload Pods none = inl (head_fails Pods behind_pods none)
  by_resource of.Pod payload RequestsCpu none = inl (head_fails RequestsCpu behind_cpu (tail_fails Pods behind_pods none))
  by_resource of.Pod payload RequestsMemory none = inl (head_fails RequestsMemory behind_requests (tail_fails RequestsCpu behind_cpu (tail_fails Pods behind_pods none)))
  by_resource of.Pod payload LimitsCpu none = inl (head_fails LimitsCpu behind_limits (tail_fails RequestsMemory behind_requests (tail_fails RequestsCpu behind_cpu (tail_fails Pods behind_pods none))))
  by_resource of.Pod payload LimitsMemory none = inl (head_fails LimitsMemory (CountPods ∷ []) (tail_fails LimitsCpu behind_limits (tail_fails RequestsMemory behind_requests (tail_fails RequestsCpu behind_cpu (tail_fails Pods behind_pods none)))))
  by_resource of.Pod payload CountPods none = inl (head_fails CountPods [] (tail_fails LimitsMemory (CountPods ∷ []) (tail_fails LimitsCpu behind_limits (tail_fails RequestsMemory behind_requests (tail_fails RequestsCpu behind_cpu (tail_fails Pods behind_pods none))))))
  by_resource of.Pod payload _ none = inr refl
  by_resource of.Service payload CountServices none = inl (head_fails CountServices [] none)
  by_resource of.Service payload _ none = inr refl
  by_resource of.PersistentVolumeClaim payload RequestsStorage none = inl (head_fails RequestsStorage (CountClaims ∷ []) none)
  by_resource of.PersistentVolumeClaim payload CountClaims none = inl (head_fails CountClaims [] (tail_fails RequestsStorage (CountClaims ∷ []) none))
  by_resource of.PersistentVolumeClaim payload _ none = inr refl
  by_resource of.Namespace payload Pods none = inr refl
  by_resource of.Namespace payload _ none = inr refl
  by_resource of.HncConfiguration payload Pods none = inr refl
  by_resource of.HncConfiguration payload _ none = inr refl
  by_resource of.HierarchyConfiguration payload Pods none = inr refl
  by_resource of.HierarchyConfiguration payload _ none = inr refl
  by_resource of.SubnamespaceAnchor payload Pods none = inr refl
  by_resource of.SubnamespaceAnchor payload _ none = inr refl
  by_resource of.HierarchicalResourceQuota payload Pods none = inr refl
  by_resource of.HierarchicalResourceQuota payload _ none = inr refl

  pub uncharged : (x : Object) (r : Resource) → list_any p (resources_for x.id.kind) ≡ false → (p r ≡ false) ⊎ (charge_of x r ≡ 0)
  unfolding charge_of
  uncharged x r none = by (by_resource x.id.kind x.payload r none)
    where
      by : (p r ≡ false) ⊎ (charge_by x.id.kind x.payload r ≡ 0) → (p r ≡ false) ⊎ ((if is_charged x then charge_by x.id.kind x.payload r else 0) ≡ 0)
      by (inl e) = inl e
      by (inr e) = inr (nothing (is_charged x) (charge_by x.id.kind x.payload r) e)
