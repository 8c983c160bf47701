-- The rules on namespaces.
--     enters_leaving c      a write in a namespace that is on its way out, or of one
--     namespace_rules c     those that a write or a removal breaks, in their order
use Rattle.std.specs.Prelude.{Bool, not, ◌&&◌, List, [], ◌∷◌, Option, option_and_then}
use Rattle.hx_object.specs.declared.object.Object.{Object}
use Rattle.hx_model.specs.Cases.{Case, breaks, is_write, any_of, same_name, subject_of, is_leaving}
use Rattle.hx_model.specs.Tree.{subnamespace_parent, is_terminating}
use Rattle.hx_model.specs.declared.denial.Denial.{Denial}
use Rattle.hx_model.specs.declared.rule.Rule.TheVariants.{N1, N2, N3}

-- an object is given in a namespace that is on its way out, or is such a namespace
abbrev pub enters_leaving : Case → Bool
enters_leaving c = is_write c && is_leaving c.tree (subject_of c.id)

-- the given namespace has another annotation of a subnamespace than the one that is there
abbrev pub changes_annotation : Case → Bool
changes_annotation c = not (same_name (option_and_then subnamespace_parent c.old) (option_and_then subnamespace_parent c.new))

-- a namespace is removed that isn't on its way out yet
abbrev pub begins_removal : Case → Bool
begins_removal c = not (is_write c) && any_of (λ (x : Object). not (is_terminating x.payload)) c.old

abbrev pub namespace_rules : Case → List (Option Denial)
namespace_rules c =
    breaks N3 (is_write c && changes_annotation c)
    ∷ breaks N1 (begins_removal c && c.family.anchored)
    ∷ breaks N2 (begins_removal c && (c.family.has_followers && not c.family.cascades))
    ∷ []
