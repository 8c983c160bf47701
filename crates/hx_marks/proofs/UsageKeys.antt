-- The keys of quotas.
--     any_quota          a quota that is found passes among the quotas of its namespace
--     usage_listed, usage_found    a key that is among those of a namespace, or of some namespaces, is of a quota that is there
--     usage_is_key, usage_of_key   each is a key of the state
use Rattle.std.proofs.Common.{◌≡◌, ℕ, Bool, true, ◌&&◌, ◌==◌, Option, Some, None, List, refl, sym, ap, ◌∙◌, subst, true≢false, eqb-true, eqb}
use Rattle.std.specs.Prelude.{is_some}
use Rattle.std.specs.List.{list_any}
use Rattle.std.specs.Str.{bytes_eq}
use Rattle.std.proofs.lemmas.Bool.{and_parts, and_from}
use Rattle.hx_object.specs.Kinds.{number_of}
use Rattle.hx_object.specs.declared.kind.Kind.TheVariants.{HierarchicalResourceQuota}
use Rattle.hx_object.specs.declared.object.Id.{Id}
use Rattle.hx_object.specs.declared.object.Object.{Object}
use Rattle.hx_object.proofs.Identities.{number_of-one}
use Rattle.hx_model.specs.Answers.{is_listed}
use Rattle.hx_model.specs.Forest.{is_in}
use Rattle.hx_model.specs.Keys.{same_key, is_among, is_key}
use Rattle.hx_model.specs.Quotas.{quotas_in}
use Rattle.hx_model.specs.State.{State, Objects, object_at}
use Rattle.hx_model.specs.Wanted.{quota_id}
use Rattle.hx_model.specs.declared.key.Key.{Key}
use Rattle.hx_model.specs.declared.key.Key.TheVariants as key
use Rattle.hx_model.proofs.Climbing.{is_same, same_itself}
use Rattle.hx_model.proofs.Objects.{found_id}
use Rattle.hx_marks.specs.Usage.{usage_key, usage_keys, usage_of}
use Rattle.hx_marks.proofs.Among.{same_key_is, same_key_itself, among_map, among_flat_map, any_filter, passing_object, found_name}
use Rattle.hx_marks.proofs.Within.{found_some}

-- ---- the quotas of a namespace

-- one that is found passes among them
pub any_quota : (p : Object → Bool) (objects : Objects) (n name : List ℕ) (q : Object) → object_at objects (quota_id n name) ≡ Some q → p q ≡ true → list_any p (quotas_in objects n) ≡ true
any_quota p objects n name q at passes =
    let id : quota_id n name ≡ q.id = found_id objects (quota_id n name) q at in
    let there : is_listed HierarchicalResourceQuota (Some n) q ≡ true =
    subst (λ (i : Id). ((eqb (number_of HierarchicalResourceQuota) (number_of i.kind)) && bytes_eq i.ns n) ≡ true) id (and_from true (bytes_eq n n) refl (same_itself n)) in
    any_filter p (is_listed HierarchicalResourceQuota (Some n)) objects
    ∙ passing_object (λ y. is_listed HierarchicalResourceQuota (Some n) y && p y) objects (quota_id n name) q at (and_from (is_listed HierarchicalResourceQuota (Some n) q) (p q) there passes)

-- the identity of one that is listed
pub quota_is : (n : List ℕ) (q : Object) → is_listed HierarchicalResourceQuota (Some n) q ≡ true → quota_id n q.id.name ≡ q.id
quota_is n q listed =
    let parts = and_parts (number_of HierarchicalResourceQuota == number_of q.id.kind) (bytes_eq q.id.ns n) listed in
    let kind : HierarchicalResourceQuota ≡ q.id.kind = number_of-one HierarchicalResourceQuota q.id.kind (eqb-true _ _ parts.0) in
    let home : n ≡ q.id.ns = sym (is_same q.id.ns n parts.1) in
    λ i. record { kind = kind i; ns = home i; name = q.id.name }

-- the key of one that is found
pub key_of_quota : (objects : Objects) (n name : List ℕ) (q : Object) → object_at objects (quota_id n name) ≡ Some q → same_key (key.Used n name) (usage_key q) ≡ true
key_of_quota objects n name q at = subst (λ (i : Id). same_key (key.Used n name) (key.Used i.ns i.name) ≡ true) (found_id objects (quota_id n name) q at) (same_key_itself (key.Used n name))

-- ---- their keys

-- a key of some objects that are quotas of a namespace
pub usage_listed : (objects : Objects) (n : List ℕ) (k : Key) → is_among k (usage_keys objects n) ≡ true → (name : List ℕ) × (k ≡ key.Used n name) × (is_some (object_at objects (quota_id n name)) ≡ true)
usage_listed objects n k mem =
    let test : Object → Bool = λ x. is_listed HierarchicalResourceQuota (Some n) x && same_key k (usage_key x) in
    let found = found_some test objects (sym (any_filter (λ x. same_key k (usage_key x)) (is_listed HierarchicalResourceQuota (Some n)) objects) ∙ sym (among_map k usage_key (quotas_in objects n)) ∙ mem) in
    let parts = and_parts (is_listed HierarchicalResourceQuota (Some n) found.0) (same_key k (usage_key found.0)) found.1 in
    let is = quota_is n found.0 parts.0 in (
      found.0.id.name,
      same_key_is k (usage_key found.0) parts.1 ∙ ap (λ (q : Id). key.Used q.ns q.name) (sym is),
      ap (λ (q : Id). is_some (object_at objects q)) is ∙ found.2,
    )

pub usage_found : (objects : Objects) (names : List (List ℕ)) (k : Key) → is_among k (usage_of objects names) ≡ true
    → (n : List ℕ) × (is_in n names ≡ true) × (name : List ℕ) × (k ≡ key.Used n name) × (is_some (object_at objects (quota_id n name)) ≡ true)
usage_found objects names k mem =
    let found = found_name (λ n. is_among k (usage_keys objects n)) names (sym (among_flat_map k (usage_keys objects) names) ∙ mem) in
    let listed = usage_listed objects found.0 k found.2 in
    (found.0, found.1, listed.0, listed.1, listed.2)

-- what is there is found
pub found_there : {A : Type 0} (o : Option A) → is_some o ≡ true → (x : A) × (o ≡ Some x)
found_there None h = absurd (true≢false (sym h))
found_there (Some x) h = (x, refl)

-- ---- keys of the state

pub usage_is_key : (s : State) (n : List ℕ) (k : Key) → is_among k (usage_keys s.objects n) ≡ true → is_key s k ≡ true
usage_is_key s n k mem = let listed = usage_listed s.objects n k mem in ap (is_key s) listed.1 ∙ listed.2

pub usage_of_key : (s : State) (names : List (List ℕ)) (k : Key) → is_among k (usage_of s.objects names) ≡ true → is_key s k ≡ true
usage_of_key s names k mem = let found = usage_found s.objects names k mem in ap (is_key s) found.3 ∙ found.4
