-- The rules on copies, and on the objects that are copied.
--     touches_copy c           a user makes, changes or removes a copy
--     has_invalid_exceptions x     the object can be copied, and its exceptions aren't valid
--     misuses_exceptions c     such an object is given
--     source_rules c           the rules on objects that can be copied
use Rattle.std.specs.Prelude.{Bool, true, false, not, ◌&&◌, ◌||◌, is_some, List, [], ◌∷◌, Option, if◌then◌else◌}
use Rattle.hx_object.specs.Kinds.{can_be_copied}
use Rattle.hx_object.specs.Pairs.{value_of}
use Rattle.hx_object.specs.WellKnown.{inherited_from}
use Rattle.hx_object.specs.declared.object.Mode.{Mode}
use Rattle.hx_object.specs.declared.object.Mode.TheVariants.{Ignore}
use Rattle.hx_object.specs.declared.object.Object.{Object}
use Rattle.hx_model.specs.Cases.{Case, breaks, is_write, any_of, is_kept_out}
use Rattle.hx_model.specs.Exceptions.{are_valid}
use Rattle.hx_model.specs.Limits.{is_copy}
use Rattle.hx_model.specs.Modes.{mode_in}
use Rattle.hx_model.specs.declared.denial.Denial.{Denial}
use Rattle.hx_model.specs.declared.rule.Rule.TheVariants.{O2, O3}

-- ---- copies

-- it has the label of a copy, of whatever kind it is
abbrev pub is_labelled : Object → Bool
is_labelled x = is_some (value_of x.labels inherited_from)

-- a copy is written, or the label is given to what doesn't have it
abbrev pub writes_copy : Case → Bool
writes_copy c = any_of is_copy c.old || (any_of is_labelled c.new && not (any_of is_labelled c.old))

abbrev pub is_ignored : Mode → Bool
is_ignored Ignore = true
is_ignored _ = false

-- a copy is removed in a namespace that isn't excluded, of a kind that isn't ignored
abbrev pub removes_copy : Case → Bool
removes_copy c = any_of is_copy c.old && (not (is_kept_out c c.id.ns) && not (is_ignored (mode_in c.hnc_config c.id.kind)))

-- a user makes, changes or removes a copy
abbrev pub touches_copy : Case → Bool
touches_copy c = if is_write c then writes_copy c else removes_copy c

-- ---- objects that can be copied

abbrev pub has_invalid_exceptions : Object → Bool
has_invalid_exceptions x = can_be_copied x.id.kind && not (are_valid x)

abbrev pub misuses_exceptions : Case → Bool
misuses_exceptions c = any_of has_invalid_exceptions c.new

-- an object is given that can be copied, and some source is overwritten then. `admission=skip` passes over it
abbrev pub makes_overwrite : Case → Bool
makes_overwrite c = (is_write c && can_be_copied c.id.kind) && (not c.skip && c.conflict)

abbrev pub source_rules : Case → List (Option Denial)
source_rules c = breaks O3 (misuses_exceptions c) ∷ breaks O2 (makes_overwrite c) ∷ []
