-- The rules on HierarchyConfigurations.
--     parent_after c        the parent that the namespace has once the write is made
--     misses_hierarchy c    a write of another name
--     hierarchy_rules c     the rules on the tree that a write or a removal breaks, in their order. `admission=skip` passes over them
use Rattle.std.specs.Prelude.{ℕ, Bool, true, false, not, ◌&&◌, ◌||◌, List, [], ◌∷◌, Option, Some, option_and_then, is_some, if◌then◌else◌}
use Rattle.std.specs.Str.{bytes_eq}
use Rattle.hx_object.specs.declared.object.Object.{Object}
use Rattle.hx_model.specs.Cases.{Case, breaks, is_write, any_of, is_kept_out, same_name}
use Rattle.hx_model.specs.First.{so}
use Rattle.hx_model.specs.Forest.{is_live, parent_of, in_chain, reaches_deeper, halt_of, with_parent}
use Rattle.hx_model.specs.Tree.{hierarchy, subnamespace_parent, named_parent, parent_with}
use Rattle.hx_model.specs.declared.denial.Denial.{Denial}
use Rattle.hx_model.specs.declared.node.Halt.{Halt}
use Rattle.hx_model.specs.declared.node.Halt.TheVariants.{Ancestor}
use Rattle.hx_model.specs.declared.rule.Rule.TheVariants.{H1, H2, H3, H4, H5, H6, H8}

-- no namespace is moved to a greater depth
abbrev pub greatest_depth : ℕ
greatest_depth = 64

-- ---- parents

-- a parent that the given object names, and the one that is there doesn't
abbrev pub brought_parent : Option Object → Option Object → Option (List ℕ)
brought_parent old new = option_and_then (λ p. so (not (same_name (Some p) (option_and_then named_parent old))) p) (option_and_then named_parent new)

abbrev pub new_parent : Case → Option (List ℕ)
new_parent c = brought_parent c.old c.new

-- the parent that the annotation of the namespace names
abbrev pub annotated_parent : Case → Option (List ℕ)
annotated_parent c = option_and_then subnamespace_parent c.home

-- the parent that the namespace has once the write is made. A HierarchyConfiguration of another name says nothing of it
abbrev pub parent_after : Case → Option (List ℕ)
parent_after c = if bytes_eq c.id.name hierarchy then option_and_then (parent_with c.new) c.home else parent_of c.tree c.id.ns

abbrev pub changes_parent : Case → Bool
changes_parent c = not (same_name (parent_of c.tree c.id.ns) (parent_after c))

-- ---- what breaks a rule

-- the new parent isn't there, or is on its way out
abbrev pub lacks_parent : Case → Bool
lacks_parent c = any_of (λ p. not (is_live c.tree p)) (new_parent c)

-- the namespace is in the chain of the new parent
abbrev pub closes_cycle : Case → Bool
closes_cycle c = any_of (λ p. in_chain c.tree p c.id.ns) (new_parent c)

-- the annotation names another parent
abbrev pub contradicts : Case → Bool
contradicts c = any_of (λ p. any_of (λ q. not (bytes_eq p q)) (annotated_parent c)) (option_and_then named_parent c.new)

-- `Ancestor` is the last of the reasons, so that one halted in that way has no reason by itself
abbrev pub is_ancestor : Halt → Bool
is_ancestor Ancestor = true
is_ancestor _ = false

-- the parent changes, and an ancestor is halted or the parent after the write is
abbrev pub moves_halted : Case → Bool
moves_halted c = changes_parent c && (any_of is_ancestor (halt_of c.tree c.id.ns) || any_of (λ p. is_some (halt_of c.tree p)) (parent_after c))

-- the namespace or the new parent is excluded
abbrev pub meets_excluded : Case → Bool
meets_excluded c = is_kept_out c c.id.ns || any_of (is_kept_out c) (new_parent c)

-- the parent changes, and the subtree would reach too deep below it
abbrev pub grows_too_deep : Case → Bool
grows_too_deep c = changes_parent c && reaches_deeper greatest_depth (with_parent c.id.ns (parent_after c) c.tree) c.id.ns

-- ---- the rules

-- a HierarchyConfiguration has one name
abbrev pub misses_hierarchy : Case → Bool
misses_hierarchy c = is_write c && not (bytes_eq c.id.name hierarchy)

abbrev pub tree_rules : Case → List (Option Denial)
tree_rules c =
    breaks H1 (lacks_parent c)
    ∷ breaks H2 (closes_cycle c)
    ∷ breaks H3 (contradicts c)
    ∷ breaks H4 (moves_halted c)
    ∷ breaks H5 c.conflict
    ∷ breaks H6 (is_write c && meets_excluded c)
    ∷ breaks H8 (is_write c && grows_too_deep c)
    ∷ []

abbrev pub hierarchy_rules : Case → List (Option Denial)
hierarchy_rules c = if c.skip then [] else tree_rules c
