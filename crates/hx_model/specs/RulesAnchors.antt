-- The rules on anchors.
--     anchor_rules c        those that a write or a removal breaks, in their order. `admission=skip` passes over them
use Rattle.std.specs.Prelude.{Bool, not, ◌&&◌, ◌||◌, is_none, nat_le, List, [], ◌∷◌, Option, if◌then◌else◌}
use Rattle.hx_object.specs.declared.object.Object.{Object}
use Rattle.hx_model.specs.Cases.{Case, breaks, is_write, any_of, is_kept_out}
use Rattle.hx_model.specs.Forest.{depth_of}
use Rattle.hx_model.specs.RulesHierarchy.{greatest_depth}
use Rattle.hx_model.specs.Subnamespaces.{is_owned_by}
use Rattle.hx_model.specs.declared.denial.Denial.{Denial}
use Rattle.hx_model.specs.declared.rule.Rule.TheVariants.{A1, A2, A3, A4}

-- an anchor that wasn't there is given
abbrev pub creates : Case → Bool
creates c = is_write c && is_none c.old

-- the namespace or the name is excluded
abbrev pub asks_excluded : Case → Bool
asks_excluded c = is_kept_out c c.id.ns || is_kept_out c c.id.name

-- a namespace of the name is there, and isn't a subnamespace of this one
abbrev pub is_elsewhere : Case → Bool
is_elsewhere c = any_of (λ (x : Object). not (is_owned_by c.id.ns x)) c.family.named

-- the subnamespace would be below a namespace at the greatest depth
abbrev pub reaches_too_deep : Case → Bool
reaches_too_deep c = nat_le greatest_depth (depth_of c.tree c.id.ns)

-- the subnamespace is there and has children, and nothing allows that they go with it
abbrev pub has_kept_children : Case → Bool
has_kept_children c = any_of (is_owned_by c.id.ns) c.family.named && (c.family.has_children && not c.family.cascades)

abbrev pub unskipped_rules : Case → List (Option Denial)
unskipped_rules c =
    breaks A2 (creates c && asks_excluded c)
    ∷ breaks A1 (creates c && is_elsewhere c)
    ∷ breaks A4 (creates c && reaches_too_deep c)
    ∷ breaks A3 (not (is_write c) && has_kept_children c)
    ∷ []

abbrev pub anchor_rules : Case → List (Option Denial)
anchor_rules c = if c.skip then [] else unskipped_rules c
