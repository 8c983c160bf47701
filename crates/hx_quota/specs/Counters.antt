-- What namespaces have of the resources that quotas limit, in thousandths: each by itself, and with all below it.
--     Entry                        a namespace's parent, and what it has by itself
--     Entries                      each namespace's entry under its name, in ascending order of names
--     CountersView                 the entries, and how many more fit without taking memory
--     entry_of es n                the entry of a namespace, where it is there
--     tree_of es                   the forest of their parents: chains are those of this forest
--     place_of r                   the place of a resource among own sums
--     own_of r e, own_in es n r    what a namespace has by itself
--     part_of f n r e              what an entry adds to what n has with all below it
--     used_in es n r               what a namespace has with all below it
--     total_of es r, AllFit es     what all namespaces have together, and that it fits
--     with_entry, without_entry    with a namespace in its place;  without it
--     new_entry                    the entry of a namespace that comes
--     with_parent                  where one has another parent
--     shifted, with_shifted        own sums after deltas;  where those of the first of a chain are shifted
--     sums_of es chain             the own sums of the first of a chain
--     IsChain, IsBehind, IsAbove   names are a chain, what is behind its first member, and the chain of a parent
--     AreApart, HaveOld            no two deltas are of one resource, and what they replace is there
use Rattle.std.specs.Prelude.{◌≡◌, ℕ, ◌+◌, ◌-◌, ◌<◌, ◌≤◌, ◌^◌, Bool, false, nat_eq, List, [], ◌∷◌, map, replicate, sum_by, slice_index, slice_set, Option, Some, None, if◌then◌else◌, refl}
use Rattle.std.specs.Coded.{Coded, code_by, coded×, coded_list, coded_option, coded_ℕ}
use Rattle.std.specs.List.{list_any, AllByRecursion}
use Rattle.std.specs.Option.{option_map_or}
use Rattle.std.specs.Map.{lookup}
use Rattle.std.specs.Str.{bytes_eq}
use Rattle.hx_model.specs.Forest.{Forest, chain_of, in_chain}
use Rattle.hx_model.specs.declared.node.Node.{Node}
use Rattle.hx_model.specs.declared.resource.Resource.{Resource}
use Rattle.hx_model.specs.declared.resource.Resource.TheVariants.{Pods, RequestsCpu, RequestsMemory, LimitsCpu, LimitsMemory, RequestsStorage, CountRoles, CountRoleBindings, CountConfigMaps, CountSecrets, CountNetworkPolicies, CountLimitRanges, CountPods, CountServices, CountClaims}
use Rattle.hx_forest.specs.Named.{Named, with_value, without_value, with_changed}
use Rattle.hx_quota.specs.declared.entry.Delta.{Delta}

-- a namespace's parent, and what it has of each resource by itself, in the order of the resources
pub record Entry : Type 0 where
  pub parent : Option (List ℕ)
  pub own : List ℕ

-- both, as a pair
abbrev pub entry_code : Coded Entry
entry_code = code_by (Option (List ℕ) × List ℕ) (coded× (coded_option (coded_list coded_ℕ)) (coded_list coded_ℕ))
    (λ e. (e.parent, e.own)) (λ p. record { parent = p.0; own = p.1 }) (λ _. refl)

abbrev pub Entries : Type 0
Entries = Named Entry

-- the entries, and how many more fit without taking memory
pub record CountersView : Type 0 where
  pub entries : Entries
  pub spare : ℕ

-- both, as a pair
abbrev pub view_code : Coded CountersView
view_code = code_by (Entries × ℕ) (coded× (coded_list (coded× (coded_list coded_ℕ) entry_code)) coded_ℕ)
    (λ v. (v.entries, v.spare)) (λ p. record { entries = p.0; spare = p.1 }) (λ _. refl)

-- the entry of a namespace
abbrev pub entry_of : Entries → List ℕ → Option Entry
entry_of es n = lookup (bytes_eq n) es

-- ---- chains

-- a node with the same parent
abbrev pub node_for : Entry → Node
node_for e = record { parent = e.parent; terminating = false; excluded = false }

-- the forest of the parents
abbrev pub tree_of : Entries → Forest
tree_of es = map (λ e. (e.0, node_for e.1)) es

-- names are the chain of the first of them, which is there
abbrev pub IsChain : Entries → List (List ℕ) → Type 0
IsChain es [] = ⊥
IsChain es (n ∷ names) = chain_of (tree_of es) n ≡ n ∷ names

-- names are the chain of n behind n
abbrev pub IsBehind : Entries → List ℕ → List (List ℕ) → Type 0
IsBehind es n names = chain_of (tree_of es) n ≡ n ∷ names

-- names are the chain of a parent that is there, and none where there is no parent
abbrev pub IsAbove : Entries → Option (List ℕ) → List (List ℕ) → Type 0
IsAbove es None names = names ≡ []
IsAbove es (Some p) [] = ⊥
IsAbove es (Some p) (n ∷ names) = (p ≡ n) × (chain_of (tree_of es) n ≡ n ∷ names)

-- ---- sums

-- the place of a resource among own sums
abbrev pub place_of : Resource → ℕ
place_of Pods = 0
place_of RequestsCpu = 1
place_of RequestsMemory = 2
place_of LimitsCpu = 3
place_of LimitsMemory = 4
place_of RequestsStorage = 5
place_of CountRoles = 6
place_of CountRoleBindings = 7
place_of CountConfigMaps = 8
place_of CountSecrets = 9
place_of CountNetworkPolicies = 10
place_of CountLimitRanges = 11
place_of CountPods = 12
place_of CountServices = 13
place_of CountClaims = 14

-- what an entry says that its namespace has by itself
abbrev pub own_of : Resource → Entry → ℕ
own_of r e = slice_index e.own (place_of r)

-- what a namespace has by itself, 0 where it isn't there
abbrev pub own_in : Entries → List ℕ → Resource → ℕ
own_in es n r = option_map_or (own_of r) (entry_of es n) 0

-- what an entry adds to a namespace: all that it has, where its chain has that one
abbrev pub part_of : Forest → List ℕ → Resource → List ℕ × Entry → ℕ
part_of f n r e = if in_chain f e.0 n then own_of r e.1 else 0

-- what the namespaces have together whose chain has n
abbrev pub used_in : Entries → List ℕ → Resource → ℕ
used_in es n r = sum_by (part_of (tree_of es) n r) es

-- what all have together
abbrev pub total_of : Entries → Resource → ℕ
total_of es r = sum_by (λ e. own_of r e.1) es

-- what all have together fits
abbrev pub AllFit : Entries → Type 0
AllFit es = (r : Resource) → total_of es r < 2 ^ 128

-- ---- changes of entries

-- with an entry in its place, instead of one of its name
abbrev pub with_entry : List ℕ → Entry → Entries → Entries
with_entry n entry es = with_value n entry es

-- a namespace without a parent that has nothing
abbrev pub new_entry : Entry
new_entry = record { parent = None; own = replicate 15 0 }

-- without a namespace
abbrev pub without_entry : List ℕ → Entries → Entries
without_entry n es = without_value n es

-- where a namespace has another parent, or none
abbrev pub with_parent : List ℕ → Option (List ℕ) → Entries → Entries
with_parent n parent es = with_changed n (λ (e : Entry). record e { parent = parent }) es

-- ---- deltas

-- own sums where each delta's old sum has become its new one
abbrev pub shifted : List Delta → List ℕ → List ℕ
shifted [] own = own
shifted (d ∷ deltas) own = shifted deltas (slice_set own (place_of d.resource) (slice_index own (place_of d.resource) - d.old + d.new))

-- where the own sums of the first of a chain are shifted
abbrev pub with_shifted : List (List ℕ) → List Delta → Entries → Entries
with_shifted [] deltas es = es
with_shifted (n ∷ names) deltas es = with_changed n (λ (e : Entry). record e { own = shifted deltas e.own }) es

-- a delta is of a resource
abbrev pub is_of : Resource → Delta → Bool
is_of r d = nat_eq (place_of r) (place_of d.resource)

-- no two are of one resource
abbrev pub AreApart : List Delta → Type 0
AreApart [] = Unit {0}
AreApart (d ∷ deltas) = (list_any (is_of d.resource) deltas ≡ false) × AreApart deltas

-- own sums have what the deltas replace
abbrev pub HaveOld : List Delta → List ℕ → Type 0
HaveOld deltas own = AllByRecursion (λ d. d.old ≤ slice_index own (place_of d.resource)) deltas

-- the own sums of the first of a chain, and none where it isn't there
abbrev pub sums_of : Entries → List (List ℕ) → List ℕ
sums_of es [] = []
sums_of es (n ∷ names) = option_map_or (λ e. e.own) (entry_of es n) []
