-- What the rules on HierarchyConfigurations find.
--     moves_there      where the parent changes, the namespace is there
--     moves_apart      and unless a cycle is closed, the chain of its new parent doesn't have it
--     other_rules      the rules on objects of kinds that have none of their own
use Rattle.std.specs.Prelude.{is_some, option_and_then, IfSome, if◌then◌else◌}
use Rattle.std.specs.Str.{bytes_eq}
use Rattle.std.proofs.Common.{◌≡◌, ◌≢◌, ℕ, Bool, true, false, not, Option, Some, None, List, refl, sym, ap, ◌∙◌, subst, true≢false}
use Rattle.std.proofs.lemmas.Bool.{not-true}
use Rattle.hx_object.specs.declared.kind.Kind.{Kind}
use Rattle.hx_object.specs.declared.kind.Kind.TheVariants.{Namespace, HncConfiguration, HierarchyConfiguration, SubnamespaceAnchor, HierarchicalResourceQuota}
use Rattle.hx_object.specs.declared.object.Object.{Object}
use Rattle.hx_model.specs.Cases.{Case, any_of, same_name}
use Rattle.hx_model.specs.First.{so, or_else, first}
use Rattle.hx_model.specs.Forest.{is_there, parent_of, in_chain}
use Rattle.hx_model.specs.RulesCopies.{source_rules}
use Rattle.hx_model.specs.RulesHierarchy.{changes_parent, parent_after, closes_cycle}
use Rattle.hx_model.specs.Rules.{kind_rules}
use Rattle.hx_model.specs.Tree.{hierarchy, subnamespace_parent, named_parent, parent_with}
use Rattle.hx_model.proofs.Climbing.{is_same, same_itself}
use Rattle.hx_model.proofs.Walking.{same_flips, no_parent}
use Rattle.hx_admit.specs.Ruling.{IsAtHome}

same_as_itself : (o : Option (List ℕ)) → same_name o o ≡ true
same_as_itself None = refl
same_as_itself (Some n) = same_itself n

-- a name isn't another one than itself
no_change : {A : Type 0} (o : Option (List ℕ)) → not (same_name o o) ≡ true → A
no_change o moves = absurd (true≢false (sym moves ∙ ap not (same_as_itself o)))

-- where the parent changes, the namespace is there
pub moves_there : (c : Case) → IsAtHome c → changes_parent c ≡ true → is_there c.tree c.id.ns ≡ true
moves_there c at_home moves = named (bytes_eq c.id.name hierarchy) moves
  where
    found : (home : Option Object) → is_there c.tree c.id.ns ≡ is_some home → not (same_name (parent_of c.tree c.id.ns) (option_and_then (parent_with c.new) home)) ≡ true → is_there c.tree c.id.ns ≡ true
    found None there moves = no_change None (sym (ap (λ o. not (same_name o None)) (no_parent c.tree c.id.ns there)) ∙ moves)
    found (Some x) there moves = there

    named : (b : Bool) → not (same_name (parent_of c.tree c.id.ns) (if b then option_and_then (parent_with c.new) c.home else parent_of c.tree c.id.ns)) ≡ true → is_there c.tree c.id.ns ≡ true
    named true moves = found c.home at_home.there moves
    named false moves = no_change (parent_of c.tree c.id.ns) moves

-- unless a cycle is closed, the chain of its new parent doesn't have it
pub moves_apart : (c : Case) → IsAtHome c → closes_cycle c ≡ false → changes_parent c ≡ true → IfSome (parent_after c) (λ p. in_chain c.tree p c.id.ns ≡ false)
moves_apart c at_home open_chain moves = named (bytes_eq c.id.name hierarchy) refl moves
  where
    -- by the names in the annotation and in the two objects
    by : (annotated before after : Option (List ℕ)) → any_of (λ p. in_chain c.tree p c.id.ns) (option_and_then (λ p. so (not (same_name (Some p) before)) p) after) ≡ false → not (same_name (or_else annotated before) (or_else annotated after)) ≡ true
        → IfSome (or_else annotated after) (λ p. in_chain c.tree p c.id.ns ≡ false)
    by (Some a) before after out differ = no_change (Some a) differ
    by None before None out differ = tt
    by None None (Some p) out differ = out
    by None (Some q) (Some p) out differ = subst (λ b. any_of (λ p. in_chain c.tree p c.id.ns) (so (not b) p) ≡ false) (same_flips p q ∙ not-true (bytes_eq q p) differ) out

    found : (home : Option Object) → IfSome home (λ x. parent_of c.tree c.id.ns ≡ parent_with c.old x) → not (same_name (parent_of c.tree c.id.ns) (option_and_then (parent_with c.new) home)) ≡ true
        → IfSome (option_and_then (parent_with c.new) home) (λ p. in_chain c.tree p c.id.ns ≡ false)
    found None parent differ = tt
    found (Some x) parent differ = by (subnamespace_parent x) (option_and_then named_parent c.old) (option_and_then named_parent c.new) open_chain (sym (ap (λ o. not (same_name o (parent_with c.new x))) parent) ∙ differ)

    named : (b : Bool) → bytes_eq c.id.name hierarchy ≡ b → not (same_name (parent_of c.tree c.id.ns) (if b then option_and_then (parent_with c.new) c.home else parent_of c.tree c.id.ns)) ≡ true
        → IfSome (if b then option_and_then (parent_with c.new) c.home else parent_of c.tree c.id.ns) (λ p. in_chain c.tree p c.id.ns ≡ false)
    named true e differ = found c.home (at_home.parent (is_same c.id.name hierarchy e)) differ
    named false e differ = no_change (parent_of c.tree c.id.ns) differ

-- the rules on objects of kinds that have none of their own
pub other_rules : (kind : Kind) (c : Case) → kind ≢ Namespace → kind ≢ HncConfiguration → kind ≢ HierarchyConfiguration → kind ≢ SubnamespaceAnchor → kind ≢ HierarchicalResourceQuota → first (source_rules c) ≡ first (kind_rules kind c)
other_rules Namespace c a b d e q = absurd (a refl)
other_rules HncConfiguration c a b d e q = absurd (b refl)
other_rules HierarchyConfiguration c a b d e q = absurd (d refl)
other_rules SubnamespaceAnchor c a b d e q = absurd (e refl)
other_rules HierarchicalResourceQuota c a b d e q = absurd (q refl)
other_rules _ c a b d e q = refl
