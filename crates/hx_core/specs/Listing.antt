-- All objects of a state, kind by kind.
--     all_kinds       the kinds, in the order of their numbers
--     of_kinds        the objects of some kinds, one kind after the other
use Rattle.std.specs.Prelude.{List, [], ◌∷◌, flat_map, filter, None}
use Rattle.hx_object.specs.declared.kind.Kind.{Kind}
use Rattle.hx_object.specs.declared.kind.Kind.TheVariants.{Namespace, HncConfiguration, HierarchyConfiguration, SubnamespaceAnchor, HierarchicalResourceQuota, Role, RoleBinding, ConfigMap, Secret, NetworkPolicy, LimitRange, Pod, Service, PersistentVolumeClaim}
use Rattle.hx_model.specs.Answers.{is_listed}
use Rattle.hx_model.specs.State.{Objects}

abbrev pub all_kinds : List Kind
all_kinds = Namespace ∷ HncConfiguration ∷ HierarchyConfiguration ∷ SubnamespaceAnchor ∷ HierarchicalResourceQuota ∷ Role ∷ RoleBinding ∷ ConfigMap ∷ Secret ∷ NetworkPolicy ∷ LimitRange ∷ Pod ∷ Service ∷ PersistentVolumeClaim ∷ []

abbrev pub of_kinds : Objects → List Kind → Objects
of_kinds objects kinds = flat_map (λ kind. filter (is_listed kind None) objects) kinds
