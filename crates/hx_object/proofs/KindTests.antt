-- Kinds by the tests that single them out.
--     namespace_kind, hierarchy_kind     the one kind that passes
--     plain_number                       kinds that are kept as they are given have the numbers from 6 on
use Rattle.std.proofs.Common.{◌≡◌, ◌≤◌, true, refl, sym, true≢false, arith}
use Rattle.hx_object.specs.Kinds.{number_of, is_namespace, is_hierarchy, is_plain}
use Rattle.hx_object.specs.declared.kind.Kind.{Kind}
use Rattle.hx_object.specs.declared.kind.Kind.TheVariants.{Namespace, HncConfiguration, HierarchyConfiguration, SubnamespaceAnchor, HierarchicalResourceQuota}

pub namespace_kind : (kind : Kind) → is_namespace kind ≡ true → kind ≡ Namespace
namespace_kind Namespace is = refl
namespace_kind _ is = absurd (true≢false (sym is))

pub hierarchy_kind : (kind : Kind) → is_hierarchy kind ≡ true → kind ≡ HierarchyConfiguration
hierarchy_kind HierarchyConfiguration is = refl
hierarchy_kind _ is = absurd (true≢false (sym is))

pub plain_number : (kind : Kind) → is_plain kind ≡ true → 6 ≤ number_of kind
plain_number Namespace is = absurd (true≢false (sym is))
plain_number HncConfiguration is = absurd (true≢false (sym is))
plain_number HierarchyConfiguration is = absurd (true≢false (sym is))
plain_number SubnamespaceAnchor is = absurd (true≢false (sym is))
plain_number HierarchicalResourceQuota is = absurd (true≢false (sym is))
plain_number _ is = omega arith
