-- Namespaces, each told by its name.
--     namespaces_listed    they are the objects of their kind
--     names_ascend         where each lies in none, their names ascend in objects that do
--     homes_valid          so it is in a valid state
--     used_state           what is used of a state is what is used of its objects
use Rattle.std.proofs.Common.{◌≡◌, ℕ, ◌==◌, cond, true, false, not, ◌&&◌, ◌||◌, List, [], ◌∷◌, None, map, filter, refl, sym, ap, ◌∙◌}
use Rattle.std.specs.List.{AllByRecursion}
use Rattle.std.specs.List.Sorted.{IsStrictlySortedBy}
use Rattle.std.specs.Ordering.{ordering_then, nat_cmp}
use Rattle.std.specs.Str.{bytes_eq}
use Rattle.std.specs.declared.cmp.Ordering.TheVariants.{Less}
use Rattle.std.proofs.lemmas.Bool.{and_parts, and_from}
use Rattle.std.proofs.lemmas.Slice.Eq.{bytes_eq-Decides}
use Rattle.hx_object.proofs.KindTests.{namespace_kind}
use Rattle.hx_object.specs.Kinds.{number_of, is_namespace}
use Rattle.hx_object.specs.Order.{id_cmp}
use Rattle.hx_object.specs.Texts.{bytes_cmp}
use Rattle.hx_object.specs.declared.kind.Kind.{Kind}
use Rattle.hx_object.specs.declared.kind.Kind.TheVariants.{Namespace, HncConfiguration, HierarchyConfiguration, SubnamespaceAnchor, HierarchicalResourceQuota, Role, RoleBinding, ConfigMap, Secret, NetworkPolicy, LimitRange, Pod, Service, PersistentVolumeClaim}
use Rattle.hx_object.specs.declared.object.Id.{Id}
use Rattle.hx_object.specs.declared.object.Object.{Object}
use Rattle.hx_model.specs.declared.node.Node.{Node}
use Rattle.hx_model.specs.Forest.{Forest}
use Rattle.hx_model.specs.State.{State, Objects, ascends, is_listed}
use Rattle.hx_model.specs.Tree.{forest_in, namespaces_in, node_in}
use Rattle.hx_model.specs.Quotas.{used}
use Rattle.hx_model.specs.declared.resource.Resource.{Resource}
use Rattle.hx_model.specs.Valid.{IsValid, IsStored}
use Rattle.hx_model.proofs.Planting.{namespace_is_homed}
use Rattle.hx_survey.specs.Inside.{Ascends}
use Rattle.hx_survey.specs.Surveyed.{lies_alone, namespaces_lie_alone, used_in}
use Rattle.hx_survey.proofs.Sides.{filter_alike, sorted_objects}

-- ---- which they are

listed_kind : (kind : Kind) → (number_of Namespace == number_of kind && true) ≡ is_namespace kind
listed_kind Namespace = refl
listed_kind HncConfiguration = refl
listed_kind HierarchyConfiguration = refl
listed_kind SubnamespaceAnchor = refl
listed_kind HierarchicalResourceQuota = refl
listed_kind Role = refl
listed_kind RoleBinding = refl
listed_kind ConfigMap = refl
listed_kind Secret = refl
listed_kind NetworkPolicy = refl
listed_kind LimitRange = refl
listed_kind Pod = refl
listed_kind Service = refl
listed_kind PersistentVolumeClaim = refl

-- they are the objects of their kind
pub namespaces_listed : (objects : Objects) → filter (is_listed Namespace None) objects ≡ namespaces_in objects
namespaces_listed objects = filter_alike (is_listed Namespace None) (λ (x : Object). is_namespace x.id.kind) (λ x. listed_kind x.id.kind) objects

-- ---- their names

name_less : (a b : Id) → a.kind ≡ Namespace → b.kind ≡ Namespace → a.ns ≡ [] → b.ns ≡ [] → id_cmp a b ≡ Less → bytes_cmp a.name b.name ≡ Less
name_less a b ka kb na nb h = sym (λ i. ordering_then (nat_cmp (number_of (ka i)) (number_of (kb i))) (ordering_then (bytes_cmp (na i) (nb i)) (bytes_cmp a.name b.name))) ∙ h

-- a namespace that lies in none
home_alone : (x : Object) → lies_alone x ≡ true → is_namespace x.id.kind ≡ true → x.id.ns ≡ []
home_alone x alone is = (bytes_eq-Decides x.id.ns []).0 (sym (ap (λ b. not b || bytes_eq x.id.ns []) is) ∙ alone)

module _ (excluded : List (List ℕ)) (all : Objects) where
  abbrev entry : Object → List ℕ × Node
  entry x = (x.id.name, node_in excluded all x)

  abbrev nodes : Objects → Forest
  nodes objects = map entry (namespaces_in objects)

  less_than_all : (x : Object) → x.id.kind ≡ Namespace → x.id.ns ≡ [] → (objects : Objects) → AllByRecursion (λ (y : Object). id_cmp x.id y.id ≡ Less) objects → namespaces_lie_alone objects ≡ true
      → AllByRecursion (λ (e : List ℕ × Node). bytes_cmp x.id.name e.0 ≡ Less) (nodes objects)
  less_than_all x kind ns [] low homes = tt
  less_than_all x kind ns (y ∷ objects) low homes =
      let parts = and_parts (lies_alone y) (namespaces_lie_alone objects) homes in
      let rest = less_than_all x kind ns objects low.1 parts.1 in
      elim (is_namespace y.id.kind) as (λ b. is_namespace y.id.kind ≡ b → AllByRecursion (λ (e : List ℕ × Node). bytes_cmp x.id.name e.0 ≡ Less) (map entry (cond b (y ∷ namespaces_in objects) (namespaces_in objects)))) [
        | true ↦ λ is. (name_less x.id y.id kind (namespace_kind y.id.kind is) ns (home_alone y parts.0 is) low.0, rest)
        | false ↦ λ out. rest
      ] refl

  names_sorted : (objects : Objects) → IsStrictlySortedBy (λ (x y : Object). id_cmp x.id y.id) objects → namespaces_lie_alone objects ≡ true → Ascends (nodes objects)
  unfolding IsStrictlySortedBy
  names_sorted [] sorted homes = tt
  names_sorted (x ∷ objects) sorted homes =
      let parts = and_parts (lies_alone x) (namespaces_lie_alone objects) homes in
      let rest = names_sorted objects sorted.1 parts.1 in
      elim (is_namespace x.id.kind) as (λ b. is_namespace x.id.kind ≡ b → Ascends (map entry (cond b (x ∷ namespaces_in objects) (namespaces_in objects)))) [
        | true ↦ λ is. (less_than_all x (namespace_kind x.id.kind is) (home_alone x parts.0 is) objects sorted.0 parts.1, rest)
        | false ↦ λ out. rest
      ] refl

-- where each namespace lies in none, their names ascend
pub names_ascend : (excluded : List (List ℕ)) (objects : Objects) → ascends objects ≡ true → namespaces_lie_alone objects ≡ true → Ascends (forest_in excluded objects)
names_ascend excluded objects order homes = names_sorted excluded objects objects (sorted_objects objects order) homes

-- ---- valid states

alone_stored : (last : ℕ) (x : Object) → IsStored last x → lies_alone x ≡ true
alone_stored last x stored = elim (is_namespace x.id.kind) as (λ b. is_namespace x.id.kind ≡ b → (not b || bytes_eq x.id.ns []) ≡ true) [
  | true ↦ λ is. (bytes_eq-Decides x.id.ns []).1 (ap (λ (id : Id). id.ns) (namespace_is_homed x stored.served is))
  | false ↦ λ out. refl
] refl

all_stored : (last : ℕ) (objects : Objects) → AllByRecursion (IsStored last) objects → namespaces_lie_alone objects ≡ true
all_stored last [] all = refl
all_stored last (x ∷ objects) all = and_from (lies_alone x) (namespaces_lie_alone objects) (alone_stored last x all.0) (all_stored last objects all.1)

-- so it is in a valid state
pub homes_valid : (s : State) → IsValid s → namespaces_lie_alone s.objects ≡ true
homes_valid s valid = all_stored s.last s.objects valid.stored

-- what is used of a state is what is used of its objects
pub used_state : (s : State) (a : List ℕ) (r : Resource) → used_in (record { objects = s.objects; excluded = s.config.excluded }) a r ≡ used s a r
unfolding used_in used
used_state s a r = refl
