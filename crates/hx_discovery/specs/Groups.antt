-- The groups of the API, and the kinds of each.
--     group_name, version_of      the name, empty for the core group, and the version
--     group_version               the version, behind the name and a slash where there is a name
--     place_of                    where the paths of a group's kinds begin, without the first slash
--     kinds_of                    the kinds of a group, in the order of their numbers
--     short_names                 the short names of a kind, in quotes
use Rattle.std.specs.Prelude.{ℕ, Bool, List, [], ◌∷◌, ◌++◌, codes, filter}
use Rattle.std.specs.Str.{bytes_eq}
use Rattle.hx_object.specs.Kinds.{all_kinds, api_version_of, before_slash}
use Rattle.hx_object.specs.declared.kind.Kind.{Kind}
use Rattle.hx_object.specs.declared.kind.Kind.TheVariants.{Namespace, SubnamespaceAnchor, HierarchicalResourceQuota, ConfigMap, NetworkPolicy, LimitRange, Pod, Service, PersistentVolumeClaim}
use Rattle.hx_discovery.specs.declared.group.ApiGroup.{ApiGroup}
use Rattle.hx_discovery.specs.declared.group.ApiGroup.TheVariants.{Core, Hnc, Rbac, Networking}

-- the name, empty for the core group
abbrev pub group_name : ApiGroup → List ℕ
group_name Core = []
group_name Hnc = codes "hnc.x-k8s.io"
group_name Rbac = codes "rbac.authorization.k8s.io"
group_name Networking = codes "networking.k8s.io"

-- the version
abbrev pub version_of : ApiGroup → List ℕ
version_of Hnc = codes "v1alpha2"
version_of _ = codes "v1"

-- the version, behind the name and a slash where there is a name
abbrev pub group_version : ApiGroup → List ℕ
group_version group = before_slash (group_name group) ++ version_of group

-- where the paths of a group's kinds begin, without the first slash
abbrev pub place_of : ApiGroup → List ℕ
place_of Core = codes "api/" ++ group_version Core
place_of group = codes "apis/" ++ group_version group

-- the groups that have a name
abbrev pub named_groups : List ApiGroup
named_groups = Hnc ∷ Rbac ∷ Networking ∷ []

-- all groups
abbrev pub all_groups : List ApiGroup
all_groups = Core ∷ named_groups

-- the kind is one of the group
abbrev pub is_of : ApiGroup → Kind → Bool
is_of group kind = bytes_eq (api_version_of kind) (group_version group)

-- the kinds of a group, in the order of their numbers
abbrev pub kinds_of : ApiGroup → List Kind
kinds_of group = filter (is_of group) all_kinds

-- the short names of a kind, in quotes
abbrev pub short_names : Kind → List ℕ
short_names Namespace = codes "\"ns\""
short_names SubnamespaceAnchor = codes "\"subns\""
short_names HierarchicalResourceQuota = codes "\"hrq\""
short_names ConfigMap = codes "\"cm\""
short_names NetworkPolicy = codes "\"netpol\""
short_names LimitRange = codes "\"limits\""
short_names Pod = codes "\"po\""
short_names Service = codes "\"svc\""
short_names PersistentVolumeClaim = codes "\"pvc\""
short_names _ = []
