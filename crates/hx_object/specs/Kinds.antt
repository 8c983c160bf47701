-- The kinds of objects: their numbers, and their texts in the Kubernetes API.
--     kind_row       the row of a kind in the table of kinds
--     number_of, group_of, plural_of, name_of, is_in_cluster      its columns
--     resource_of    the plural, and behind a point the group where it isn't the core group
--     api_version_of the version, behind the group and a slash where it isn't the core group
--     kind_of_plural the kind of a plural
--     is_namespace, is_hierarchy, is_anchor, is_quota      the kinds that the rules single out
--     can_be_copied, is_plain        groups of kinds
use Rattle.std.specs.Prelude.{ℕ, Bool, true, false, List, [], ◌∷◌, ◌++◌, codes, find, Option}
use Rattle.std.specs.Str.{bytes_eq}
use Prim.Native.String.{String}
use Rattle.hx_object.specs.declared.kind.Kind.{Kind}
use Rattle.hx_object.specs.declared.kind.Kind.TheVariants.{Namespace, HncConfiguration, HierarchyConfiguration, SubnamespaceAnchor, HierarchicalResourceQuota, Role, RoleBinding, ConfigMap, Secret, NetworkPolicy, LimitRange, Pod, Service, PersistentVolumeClaim}
use Rattle.hx_object.specs.declared.kind.Scope.{Scope}
use Rattle.hx_object.specs.declared.kind.Scope.TheVariants.{Cluster, Namespaced}

-- ---- the table

-- the number, 1 to 14; the API group, empty for the core group; its version; the plural under which the objects are listed; the kind as bodies name it; and whether the objects lie in namespaces
pub record KindRow : Type 0 where
  pub number : ℕ
  pub group : List ℕ
  pub version : List ℕ
  pub plural : List ℕ
  pub name : List ℕ
  pub scope : Scope

-- a row, by its texts
abbrev served_as : ℕ → String → String → String → String → Scope → KindRow
served_as number group version plural name scope = record { number = number; group = codes group; version = codes version; plural = codes plural; name = codes name; scope = scope }

abbrev pub kind_row : Kind → KindRow
kind_row Namespace = served_as 1 "" "v1" "namespaces" "Namespace" Cluster
kind_row HncConfiguration = served_as 2 "hnc.x-k8s.io" "v1alpha2" "hncconfigurations" "HNCConfiguration" Cluster
kind_row HierarchyConfiguration = served_as 3 "hnc.x-k8s.io" "v1alpha2" "hierarchyconfigurations" "HierarchyConfiguration" Namespaced
kind_row SubnamespaceAnchor = served_as 4 "hnc.x-k8s.io" "v1alpha2" "subnamespaceanchors" "SubnamespaceAnchor" Namespaced
kind_row HierarchicalResourceQuota = served_as 5 "hnc.x-k8s.io" "v1alpha2" "hierarchicalresourcequotas" "HierarchicalResourceQuota" Namespaced
kind_row Role = served_as 6 "rbac.authorization.k8s.io" "v1" "roles" "Role" Namespaced
kind_row RoleBinding = served_as 7 "rbac.authorization.k8s.io" "v1" "rolebindings" "RoleBinding" Namespaced
kind_row ConfigMap = served_as 8 "" "v1" "configmaps" "ConfigMap" Namespaced
kind_row Secret = served_as 9 "" "v1" "secrets" "Secret" Namespaced
kind_row NetworkPolicy = served_as 10 "networking.k8s.io" "v1" "networkpolicies" "NetworkPolicy" Namespaced
kind_row LimitRange = served_as 11 "" "v1" "limitranges" "LimitRange" Namespaced
kind_row Pod = served_as 12 "" "v1" "pods" "Pod" Namespaced
kind_row Service = served_as 13 "" "v1" "services" "Service" Namespaced
kind_row PersistentVolumeClaim = served_as 14 "" "v1" "persistentvolumeclaims" "PersistentVolumeClaim" Namespaced

-- ---- its columns

-- the number of a kind
abbrev pub number_of : Kind → ℕ
number_of kind = (kind_row kind).number

-- the API group; the core group is the empty text
abbrev pub group_of : Kind → List ℕ
group_of kind = (kind_row kind).group

-- the plural under which a kind's objects are listed
abbrev pub plural_of : Kind → List ℕ
plural_of kind = (kind_row kind).plural

-- the kind as bodies name it
abbrev pub name_of : Kind → List ℕ
name_of kind = (kind_row kind).name

abbrev is_cluster : Scope → Bool
is_cluster Cluster = true
is_cluster Namespaced = false

-- the objects of the kind lie in no namespace
abbrev pub is_in_cluster : Kind → Bool
is_in_cluster kind = is_cluster (kind_row kind).scope

-- ---- texts of two columns

-- a point and the group, or nothing for the core group
abbrev pub behind_point : List ℕ → List ℕ
behind_point [] = []
behind_point (byte ∷ group) = codes "." ++ byte ∷ group

-- the plural, with the group behind a point
abbrev pub resource_of : Kind → List ℕ
resource_of kind = plural_of kind ++ behind_point (group_of kind)

-- the group and a slash, or nothing for the core group
abbrev pub before_slash : List ℕ → List ℕ
before_slash [] = []
before_slash (byte ∷ group) = (byte ∷ group) ++ codes "/"

-- the `apiVersion` of a kind's bodies: the version, with the group before a slash
abbrev pub api_version_of : Kind → List ℕ
api_version_of kind = before_slash (group_of kind) ++ (kind_row kind).version

-- ---- look-up

-- all kinds, in the order of their numbers
abbrev pub all_kinds : List Kind
all_kinds =
    Namespace ∷ HncConfiguration ∷ HierarchyConfiguration ∷ SubnamespaceAnchor ∷ HierarchicalResourceQuota ∷ Role ∷ RoleBinding
    ∷ ConfigMap ∷ Secret ∷ NetworkPolicy ∷ LimitRange ∷ Pod ∷ Service ∷ PersistentVolumeClaim ∷ []

-- the kind whose objects are listed under a plural
abbrev pub kind_of_plural : List ℕ → Option Kind
kind_of_plural plural = find (λ kind. bytes_eq plural (plural_of kind)) all_kinds

-- ---- single kinds and groups

abbrev pub is_namespace : Kind → Bool
is_namespace Namespace = true
is_namespace _ = false

abbrev pub is_hierarchy : Kind → Bool
is_hierarchy HierarchyConfiguration = true
is_hierarchy _ = false

abbrev pub is_anchor : Kind → Bool
is_anchor SubnamespaceAnchor = true
is_anchor _ = false

abbrev pub is_quota : Kind → Bool
is_quota HierarchicalResourceQuota = true
is_quota _ = false

-- objects of these kinds are copied down a tree
abbrev pub can_be_copied : Kind → Bool
can_be_copied Role = true
can_be_copied RoleBinding = true
can_be_copied ConfigMap = true
can_be_copied Secret = true
can_be_copied NetworkPolicy = true
can_be_copied LimitRange = true
can_be_copied _ = false

-- objects of these kinds are kept as they are given
abbrev pub is_plain : Kind → Bool
is_plain Namespace = false
is_plain HncConfiguration = false
is_plain HierarchyConfiguration = false
is_plain SubnamespaceAnchor = false
is_plain HierarchicalResourceQuota = false
is_plain _ = true
