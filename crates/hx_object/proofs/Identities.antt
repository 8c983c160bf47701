-- The order of identities is total, and only equal identities tie.
use Rattle.std.proofs.Common.{◌≡◌, ℕ, cond, refl, sym, ap, ◌∙◌, ◌==◌}
use Rattle.std.specs.declared.cmp.Ordering.{Ordering}
use Rattle.std.specs.declared.cmp.Ordering.TheVariants.{Less, Equal, Greater}
use Rattle.std.specs.Ordering.{nat_cmp, ordering_then}
use Rattle.std.specs.Cmp.{IsTotalOrder, on_total, then_total, nat_cmp_total}
use Rattle.std.specs.Cmp.Lexicographic.{nat_list_cmp_total}
use Rattle.std.specs.FinMap.{IsAntisymmetric, nat_cmp-IsAntisymmetric, slice_cmp-IsAntisymmetric}
use Rattle.hx_object.specs.Kinds.{number_of}
use Rattle.hx_object.specs.Order.{id_cmp}
use Rattle.hx_object.specs.Texts.{bytes_cmp}
use Rattle.hx_object.specs.declared.kind.Kind.{Kind}
use Rattle.hx_object.specs.declared.kind.Kind.TheVariants.{Namespace, HncConfiguration, HierarchyConfiguration, SubnamespaceAnchor, HierarchicalResourceQuota, Role, RoleBinding, ConfigMap, Secret, NetworkPolicy, LimitRange, Pod, Service, PersistentVolumeClaim}
use Rattle.hx_object.specs.declared.object.Id.{Id}
use Rattle.hx_object.specs.contracts.kind.KindOrd.TheImpl as kind_ord
use Rattle.hx_object.specs.contracts.object.IdOrd.TheImpl as id_ord

pub id_cmp_total : IsTotalOrder id_cmp
id_cmp_total = then_total (on_total (λ (a : Id). number_of a.kind) nat_cmp_total) (then_total (on_total (λ (a : Id). a.ns) nat_list_cmp_total) (on_total (λ (a : Id). a.name) nat_list_cmp_total))

-- the kind of a number
kind_at : ℕ → Kind
kind_at n =
    cond (n == 1) Namespace (cond (n == 2) HncConfiguration (cond (n == 3) HierarchyConfiguration (cond (n == 4) SubnamespaceAnchor
    (cond (n == 5) HierarchicalResourceQuota (cond (n == 6) Role (cond (n == 7) RoleBinding (cond (n == 8) ConfigMap
    (cond (n == 9) Secret (cond (n == 10) NetworkPolicy (cond (n == 11) LimitRange (cond (n == 12) Pod (cond (n == 13) Service PersistentVolumeClaim))))))))))))

kind_back : (k : Kind) → kind_at (number_of k) ≡ k
unfolding kind_at
kind_back Namespace = refl
kind_back HncConfiguration = refl
kind_back HierarchyConfiguration = refl
kind_back SubnamespaceAnchor = refl
kind_back HierarchicalResourceQuota = refl
kind_back Role = refl
kind_back RoleBinding = refl
kind_back ConfigMap = refl
kind_back Secret = refl
kind_back NetworkPolicy = refl
kind_back LimitRange = refl
kind_back Pod = refl
kind_back Service = refl
kind_back PersistentVolumeClaim = refl

-- each kind has a number of its own
pub number_of-one : (a b : Kind) → number_of a ≡ number_of b → a ≡ b
number_of-one a b e = sym (kind_back a) ∙ ap kind_at e ∙ kind_back b

both_Equal : (a b : Ordering) → ordering_then a b ≡ Equal → (a ≡ Equal) × (b ≡ Equal)
both_Equal Less b e = absurd (cc)
both_Equal Equal b e = (refl, e)
both_Equal Greater b e = absurd (cc)

pub id_cmp-IsAntisymmetric : IsAntisymmetric id_cmp
id_cmp-IsAntisymmetric a b e =
    let outer = both_Equal _ _ e in
    let inner = both_Equal _ _ outer.1 in
    let kind = number_of-one a.kind b.kind (nat_cmp-IsAntisymmetric _ _ outer.0) in
    let ns = slice_cmp-IsAntisymmetric nat_cmp-IsAntisymmetric a.ns b.ns inner.0 in
    let name = slice_cmp-IsAntisymmetric nat_cmp-IsAntisymmetric a.name b.name inner.1 in
    λ i. record { kind = kind i; ns = ns i; name = name i }

-- the derived `cmp` of kinds goes by their numbers
derived_kind_cmp : (a b : Kind) → (kind_ord.ghosts).cmp a b ≡ nat_cmp (number_of a) (number_of b)
derived_kind_cmp Namespace Namespace = refl
derived_kind_cmp HncConfiguration HncConfiguration = refl
derived_kind_cmp HierarchyConfiguration HierarchyConfiguration = refl
derived_kind_cmp SubnamespaceAnchor SubnamespaceAnchor = refl
derived_kind_cmp HierarchicalResourceQuota HierarchicalResourceQuota = refl
derived_kind_cmp Role Role = refl
derived_kind_cmp RoleBinding RoleBinding = refl
derived_kind_cmp ConfigMap ConfigMap = refl
derived_kind_cmp Secret Secret = refl
derived_kind_cmp NetworkPolicy NetworkPolicy = refl
derived_kind_cmp LimitRange LimitRange = refl
derived_kind_cmp Pod Pod = refl
derived_kind_cmp Service Service = refl
derived_kind_cmp PersistentVolumeClaim PersistentVolumeClaim = refl
derived_kind_cmp _ _ = refl

-- the derived `cmp` of identities is this order
pub derived_cmp : (a b : Id) → (id_ord.ghosts).cmp a b ≡ id_cmp a b
derived_cmp a b = ap (λ o. ordering_then o (ordering_then (bytes_cmp a.ns b.ns) (bytes_cmp a.name b.name))) (derived_kind_cmp a.kind b.kind)
