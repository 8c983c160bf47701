-- The rules on HNCConfigurations.
--     plain_kinds         the kinds whose resources entries may name
--     names_one_of        an entry names the resource of one of some kinds
--     misses_config c     a write of another name
--     config_rules c      the rules on its entries that a write breaks, in their order
use Rattle.std.specs.Prelude.{Bool, not, ◌&&◌, nat_lt, List, [], ◌∷◌, length, filter, Option}
use Rattle.std.specs.List.{list_any}
use Rattle.std.specs.Str.{bytes_eq}
use Rattle.hx_object.specs.Kinds.{all_kinds, is_plain}
use Rattle.hx_object.specs.WellKnown.{config}
use Rattle.hx_object.specs.declared.kind.Kind.{Kind}
use Rattle.hx_object.specs.declared.kind.Kind.TheVariants.{Role, RoleBinding, Pod, Service, PersistentVolumeClaim}
use Rattle.hx_object.specs.declared.object.ModeEntry.{ModeEntry}
use Rattle.hx_model.specs.Cases.{Case, breaks, is_write}
use Rattle.hx_model.specs.Modes.{names_kind, entries_of}
use Rattle.hx_model.specs.declared.denial.Denial.{Denial}
use Rattle.hx_model.specs.declared.rule.Rule.TheVariants.{C2, C3, C4, C5, C6}

-- ---- kinds

-- the kinds whose objects are kept as they are given: entries may name their resources alone
abbrev pub plain_kinds : List Kind
plain_kinds = filter is_plain all_kinds

-- their mode is always the same
abbrev pub fixed_kinds : List Kind
fixed_kinds = Role ∷ RoleBinding ∷ []

-- their objects are never copied
abbrev pub unpropagated_kinds : List Kind
unpropagated_kinds = Pod ∷ Service ∷ PersistentVolumeClaim ∷ []

-- ---- entries

abbrev pub names_one_of : List Kind → ModeEntry → Bool
names_one_of kinds e = list_any (λ kind. names_kind kind e) kinds

-- more than one entry names the resource of a kind
abbrev pub is_named_twice : List ModeEntry → Kind → Bool
is_named_twice entries kind = nat_lt 1 (length (filter (names_kind kind) entries))

abbrev pub has_unknown : List ModeEntry → Bool
has_unknown entries = list_any (λ e. not (names_one_of plain_kinds e)) entries

abbrev pub has_twice : List ModeEntry → Bool
has_twice entries = list_any (is_named_twice entries) plain_kinds

-- ---- the rules

-- an HNCConfiguration has one name
abbrev pub misses_config : Case → Bool
misses_config c = is_write c && not (bytes_eq c.id.name config)

-- the rules on entries, and on a conflict that they make
abbrev pub entry_rules : List ModeEntry → Bool → List (Option Denial)
entry_rules entries conflict =
    breaks C2 (has_unknown entries)
    ∷ breaks C3 (has_twice entries)
    ∷ breaks C4 (list_any (names_one_of fixed_kinds) entries)
    ∷ breaks C6 (list_any (names_one_of unpropagated_kinds) entries)
    ∷ breaks C5 conflict
    ∷ []

-- the rules on entries, and that no source is overwritten, which `admission=skip` passes over
abbrev pub config_rules : Case → List (Option Denial)
config_rules c = entry_rules (entries_of c.new) (not c.skip && c.conflict)
