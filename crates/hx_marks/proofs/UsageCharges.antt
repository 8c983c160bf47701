-- What objects are charged, and which quotas a write marks on account of it.
--     any_resource             a resource that passes is one of all
--     IsOf                     an object that is there is of an identity
--     found_is_of, written_is_of    what is found and what is written are of theirs
--     uncharged_kind, uncharged     only objects of kinds that are kept as they are given are charged
--     charged_below            in a subtree an object is charged where it lies there
--     same_charge              what isn't charged anew is charged the same
--     uncharged_usage          what isn't charged marks no quota above it
--     usage_of_kept            what a write marks that leaves the tree: the quota that is written, or those above what is charged
--     quota_unplain            a quota isn't kept as it is given
--     usage_elsewhere          an HNCConfiguration or an anchor marks none
--     charged_marked           a quota above what is charged is marked, where it limits what changes
--     charged_touched          and no other is: each is a key of the state, which the write touches
use Rattle.std.proofs.Common.{◌≡◌, ℕ, Bool, true, false, not, ◌&&◌, ◌||◌, Option, Some, None, List, [], ◌∷◌, ◌++◌, map, filter, take, drop, refl, sym, ap, ◌∙◌, true≢false, eqb-true, eq-eqb, nat_eq}
use Rattle.std.specs.Prelude.{if◌then◌else◌}
use Rattle.std.specs.List.{list_any}
use Rattle.std.specs.Option.{option_map_or}
use Rattle.std.proofs.lemmas.Bool.{and_parts, and_from, or_left, or_right}
use Rattle.hx_object.specs.Kinds.{is_namespace, is_hierarchy, is_quota, is_plain}
use Rattle.hx_object.specs.declared.kind.Kind.{Kind}
use Rattle.hx_object.specs.declared.kind.Kind.TheVariants as of
use Rattle.hx_object.specs.declared.kind.Kind.TheVariants.{HierarchicalResourceQuota}
use Rattle.hx_object.specs.declared.object.Id.{Id}
use Rattle.hx_object.specs.declared.object.Object.{Object}
use Rattle.hx_model.specs.Charges.{all_resources, charge_of, charge_by, hard_of, resource_named}
use Rattle.hx_model.specs.Forest.{Forest, in_chain, chain_of}
use Rattle.hx_model.specs.Keys.{same_key, is_among, is_key, touches}
use Rattle.hx_model.specs.Limits.{is_copy, part_of}
use Rattle.hx_model.specs.Quotas.{charge_below, charge_before, quotas_in, quotas_for}
use Rattle.hx_model.specs.State.{State, object_at}
use Rattle.hx_model.specs.Tree.{forest_of}
use Rattle.hx_model.specs.Wanted.{quota_id}
use Rattle.hx_model.specs.Writes.{id_written}
use Rattle.hx_model.specs.declared.key.Key.{Key}
use Rattle.hx_model.specs.declared.key.Key.TheVariants as key
use Rattle.hx_model.specs.declared.key.Write.{Write}
use Rattle.hx_model.specs.declared.key.Write.TheVariants.{Put, Cut}
use Rattle.hx_model.specs.declared.resource.Resource.{Resource}
use Rattle.hx_model.specs.declared.resource.Resource.TheVariants.{Pods, RequestsCpu, RequestsMemory, LimitsCpu, LimitsMemory, RequestsStorage, CountRoles, CountRoleBindings, CountConfigMaps, CountSecrets, CountNetworkPolicies, CountLimitRanges, CountPods, CountServices, CountClaims}
use Rattle.hx_model.proofs.Objects.{found_id}
use Rattle.hx_marks.specs.Law.{object_written}
use Rattle.hx_marks.specs.Usage.{usage_key, usage_keys, is_recharged, is_charged_anew, is_limit_of, counts_change, charged_usage, namespace_usage, hierarchy_usage, usage_marks}
use Rattle.hx_marks.proofs.Among.{among_map, any_filter, passing_name, found_name}
use Rattle.hx_marks.proofs.UsageKeys.{any_quota, key_of_quota, usage_listed}
use Rattle.hx_marks.proofs.Wanting.{any_flat_map}
use Rattle.hx_marks.proofs.Within.{any_witness, any_more}

-- ---- resources

passing_behind : {A : Type 0} (t : A → Bool) (before : List A) (x : A) (rest : List A) → t x ≡ true → list_any t (before ++ x ∷ rest) ≡ true
passing_behind t [] x rest passes = or_left (t x) (list_any t rest) passes
passing_behind t (y ∷ before) x rest passes = or_right (t y) (list_any t (before ++ x ∷ rest)) (passing_behind t before x rest passes)

-- one that passes is one of all
pub any_resource : (t : Resource → Bool) (r : Resource) → t r ≡ true → list_any t all_resources ≡ true
any_resource t Pods passes = passing_behind t (take 0 all_resources) Pods (drop 1 all_resources) passes
any_resource t RequestsCpu passes = passing_behind t (take 1 all_resources) RequestsCpu (drop 2 all_resources) passes
any_resource t RequestsMemory passes = passing_behind t (take 2 all_resources) RequestsMemory (drop 3 all_resources) passes
any_resource t LimitsCpu passes = passing_behind t (take 3 all_resources) LimitsCpu (drop 4 all_resources) passes
any_resource t LimitsMemory passes = passing_behind t (take 4 all_resources) LimitsMemory (drop 5 all_resources) passes
any_resource t RequestsStorage passes = passing_behind t (take 5 all_resources) RequestsStorage (drop 6 all_resources) passes
any_resource t CountRoles passes = passing_behind t (take 6 all_resources) CountRoles (drop 7 all_resources) passes
any_resource t CountRoleBindings passes = passing_behind t (take 7 all_resources) CountRoleBindings (drop 8 all_resources) passes
any_resource t CountConfigMaps passes = passing_behind t (take 8 all_resources) CountConfigMaps (drop 9 all_resources) passes
any_resource t CountSecrets passes = passing_behind t (take 9 all_resources) CountSecrets (drop 10 all_resources) passes
any_resource t CountNetworkPolicies passes = passing_behind t (take 10 all_resources) CountNetworkPolicies (drop 11 all_resources) passes
any_resource t CountLimitRanges passes = passing_behind t (take 11 all_resources) CountLimitRanges (drop 12 all_resources) passes
any_resource t CountPods passes = passing_behind t (take 12 all_resources) CountPods (drop 13 all_resources) passes
any_resource t CountServices passes = passing_behind t (take 13 all_resources) CountServices (drop 14 all_resources) passes
any_resource t CountClaims passes = passing_behind t (take 14 all_resources) CountClaims (drop 15 all_resources) passes

none_any : {A : Type 0} (t : A → Bool) (xs : List A) → ((x : A) → t x ≡ false) → list_any t xs ≡ false
none_any t [] none = refl
none_any t (x ∷ xs) none = (λ i. none x i || list_any t xs) ∙ none_any t xs none

-- ---- what is of an identity

abbrev pub IsOf : Id → Option Object → Type 0
IsOf id None = Unit {0}
IsOf id (Some x) = x.id ≡ id

pub found_is_of : (s : State) (id : Id) → IsOf id (object_at s.objects id)
found_is_of s id = by (object_at s.objects id) refl
  where
    by : (found : Option Object) → object_at s.objects id ≡ found → IsOf id found
    by None at = tt
    by (Some x) at = sym (found_id s.objects id x at)

pub written_is_of : (write : Write) → IsOf (id_written write) (object_written write)
written_is_of (Put x) = refl
written_is_of (Cut id) = tt

-- an object of a kind that isn't kept as it is given is charged nothing
pub uncharged_kind : (x : Object) (r : Resource) → is_plain x.id.kind ≡ false → charge_of x r ≡ 0
unfolding charge_of
uncharged_kind x r other = ap (λ b. if b && not (is_copy x) then charge_by x.id.kind x.payload r else 0) other

pub uncharged : (id : Id) (found : Option Object) (r : Resource) → is_plain id.kind ≡ false → IsOf id found → charge_before found r ≡ 0
uncharged id None r other is = refl
uncharged id (Some x) r other is = uncharged_kind x r (ap (λ (q : Id). is_plain q.kind) is ∙ other)

-- in a subtree it is charged where it lies there
pub charged_below : (f : Forest) (a : List ℕ) (r : Resource) (id : Id) (found : Option Object) → IsOf id found → part_of (charge_below f a r) found ≡ (if in_chain f id.ns a then charge_before found r else 0)
charged_below f a r id None is = by (in_chain f id.ns a)
  where
    by : (b : Bool) → ◌≡◌ {A = ℕ} 0 (if b then 0 else 0)
    by true = refl
    by false = refl
charged_below f a r id (Some x) is = ap (λ (q : Id). if in_chain f q.ns a then charge_of x r else 0) is

-- ---- what changes

pub same_charge : (old new : Option Object) (r : Resource) → is_recharged old new r ≡ false → charge_before old r ≡ charge_before new r
same_charge old new r stays = eqb-true (charge_before old r) (charge_before new r) (by (nat_eq (charge_before old r) (charge_before new r)) stays)
  where
    by : (b : Bool) → not b ≡ false → b ≡ true
    by true e = refl
    by false e = absurd (true≢false e)

charge_stays : (old new : Option Object) (r : Resource) → charge_before old r ≡ charge_before new r → is_recharged old new r ≡ false
charge_stays old new r same = ap not (eq-eqb (charge_before old r) (charge_before new r) same)

-- where a limit is of a resource of which the charge changes, the charge of some resource does
counted_anew : (old new : Option Object) (q : Object) → counts_change old new q ≡ true → is_charged_anew old new ≡ true
counted_anew old new q counts =
    let found = any_witness (is_limit_of old new) (hard_of q.payload) counts in
    by (resource_named found.0.resource) found.1
  where
    by : (o : Option Resource) → option_map_or (is_recharged old new) o false ≡ true → is_charged_anew old new ≡ true
    by None h = absurd (true≢false (sym h))
    by (Some r) h = any_resource (is_recharged old new) r h

pub uncharged_usage : (s : State) (id : Id) (old new : Option Object) → is_plain id.kind ≡ false → IsOf id old → IsOf id new → charged_usage s id.ns old new ≡ []
uncharged_usage s id old new other of_old of_new =
    ap (λ b. if b then map usage_key (filter (counts_change old new) (quotas_for s id.ns)) else [])
    (none_any (is_recharged old new) all_resources (λ r. charge_stays old new r (uncharged id old r other of_old ∙ sym (uncharged id new r other of_new))))

-- ---- what is marked

pub usage_of_kept : (s : State) (id : Id) (old new : Option Object) → is_namespace id.kind ≡ false → is_hierarchy id.kind ≡ false → usage_marks s id old new ≡ (if is_quota id.kind then key.Used id.ns id.name ∷ [] else charged_usage s id.ns old new)
usage_of_kept s id old new namespace hierarchical =
    let last : List Key = if is_quota id.kind then key.Used id.ns id.name ∷ [] else charged_usage s id.ns old new in
    ap (λ b. if b then namespace_usage s id.name old new else (if is_hierarchy id.kind then hierarchy_usage s id new else last)) namespace
    ∙ ap (λ b. if b then hierarchy_usage s id new else last) hierarchical

pub quota_unplain : (kind : Kind) → is_quota kind ≡ true → is_plain kind ≡ false
quota_unplain of.HierarchicalResourceQuota quota = refl
quota_unplain _ quota = absurd (true≢false (sym quota))

-- a write of no quota and of no kind that is charged marks none
pub usage_elsewhere : (s : State) (write : Write) → is_namespace (id_written write).kind ≡ false → is_hierarchy (id_written write).kind ≡ false → is_quota (id_written write).kind ≡ false → is_plain (id_written write).kind ≡ false
    → usage_marks s (id_written write) (object_at s.objects (id_written write)) (object_written write) ≡ []
usage_elsewhere s write namespace hierarchical quota other =
    let id = id_written write in
    let old = object_at s.objects id in
    usage_of_kept s id old (object_written write) namespace hierarchical
    ∙ ap (λ b. if b then key.Used id.ns id.name ∷ [] else charged_usage s id.ns old (object_written write)) quota
    ∙ uncharged_usage s id old (object_written write) other (found_is_of s id) (written_is_of write)

-- a quota above what is charged, where it limits what changes
pub charged_marked : (s : State) (id : Id) (old new : Option Object) (n name : List ℕ) (q : Object) → in_chain (forest_of s) id.ns n ≡ true → object_at s.objects (quota_id n name) ≡ Some q → counts_change old new q ≡ true
    → is_among (key.Used n name) (charged_usage s id.ns old new) ≡ true
charged_marked s id old new n name q inside at counts =
    let k : Key = key.Used n name in
    let test : Object → Bool = λ y. counts_change old new y && same_key k (usage_key y) in
    let qs = quotas_for s id.ns in
    ap (λ b. is_among k (if b then map usage_key (filter (counts_change old new) qs) else [])) (counted_anew old new q counts)
    ∙ among_map k usage_key (filter (counts_change old new) qs)
    ∙ any_filter (λ y. same_key k (usage_key y)) (counts_change old new) qs
    ∙ any_flat_map test (quotas_in s.objects) (chain_of (forest_of s) id.ns)
    ∙ passing_name (λ a. list_any test (quotas_in s.objects a)) n (chain_of (forest_of s) id.ns) inside
    (any_quota test s.objects n name q at (and_from (counts_change old new q) (same_key k (usage_key q)) counts (key_of_quota s.objects n name q at)))

-- a quota above what is charged is there, in a namespace of its chain
pub charged_touched : (s : State) (id : Id) (old new : Option Object) (k : Key) → is_among k (charged_usage s id.ns old new) ≡ true → (is_key s k ≡ true) × (touches s id k ≡ true)
charged_touched s id old new k mem =
    let qs = quotas_for s id.ns in
    let test : Object → Bool = λ y. counts_change old new y && same_key k (usage_key y) in
    let among : list_any test qs ≡ true =
    sym (any_filter (λ y. same_key k (usage_key y)) (counts_change old new) qs) ∙ sym (among_map k usage_key (filter (counts_change old new) qs)) ∙ counted (is_charged_anew old new) mem in
    let home = found_name (λ a. list_any test (quotas_in s.objects a)) (chain_of (forest_of s) id.ns) (sym (any_flat_map test (quotas_in s.objects) (chain_of (forest_of s) id.ns)) ∙ among) in
    let same : list_any (λ y. same_key k (usage_key y)) (quotas_in s.objects home.0) ≡ true =
    any_more test (λ y. same_key k (usage_key y)) (quotas_in s.objects home.0) (λ y passes. (and_parts (counts_change old new y) (same_key k (usage_key y)) passes).1) home.2 in
    listed home.0 home.1 (among_map k usage_key (quotas_in s.objects home.0) ∙ same)
  where
    listed : (n : List ℕ) → in_chain (forest_of s) id.ns n ≡ true → is_among k (usage_keys s.objects n) ≡ true → (is_key s k ≡ true) × (touches s id k ≡ true)
    listed n above mem = let found = usage_listed s.objects n k mem in (ap (is_key s) found.1 ∙ found.2, ap (touches s id) found.1 ∙ above)

    counted : (b : Bool) → is_among k (if b then map usage_key (filter (counts_change old new) (quotas_for s id.ns)) else []) ≡ true → is_among k (map usage_key (filter (counts_change old new) (quotas_for s id.ns))) ≡ true
    counted true h = h
    counted false h = absurd (true≢false (sym h))
