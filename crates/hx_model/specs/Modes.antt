-- How the objects of a kind are propagated: HNC's synchronization modes, by the HNCConfiguration that is stored.
--     config_id          the identity of the only HNCConfiguration that counts
--     names_kind kind e  an entry names the resource of a kind
--     entries_of         the entries of an HNCConfiguration, none where there is none
--     mode_in found kind   the mode of a kind, by the HNCConfiguration that is there
--     mode_of s kind     the same in a state
use Rattle.std.specs.Prelude.{Bool, ◌&&◌, List, [], find, Option, Some, None}
use Rattle.std.specs.Option.{option_map_or}
use Rattle.std.specs.Str.{bytes_eq}
use Rattle.hx_object.specs.Kinds.{group_of, plural_of}
use Rattle.hx_object.specs.WellKnown.{config}
use Rattle.hx_object.specs.declared.kind.Kind.{Kind}
use Rattle.hx_object.specs.declared.kind.Kind.TheVariants.{HncConfiguration, Role, RoleBinding}
use Rattle.hx_object.specs.declared.object.Id.{Id}
use Rattle.hx_object.specs.declared.object.Mode.{Mode}
use Rattle.hx_object.specs.declared.object.Mode.TheVariants.{Propagate, Ignore}
use Rattle.hx_object.specs.declared.object.ModeEntry.{ModeEntry}
use Rattle.hx_object.specs.declared.object.Object.{Object}
use Rattle.hx_object.specs.declared.object.Payload.{Payload}
use Rattle.hx_object.specs.declared.object.Payload.TheVariants.{Config}
use Rattle.hx_model.specs.State.{State, object_at}

abbrev pub config_id : Id
config_id = record { kind = HncConfiguration; ns = []; name = config }

-- an entry names the resource of a kind, by its group and its plural
abbrev pub names_kind : Kind → ModeEntry → Bool
names_kind kind e = bytes_eq e.group (group_of kind) && bytes_eq e.resource (plural_of kind)

abbrev pub entries_in : Payload → List ModeEntry
entries_in (Config entries) = entries
entries_in _ = []

abbrev pub entries_of : Option Object → List ModeEntry
entries_of (Some x) = entries_in x.payload
entries_of None = []

-- the mode of the first entry that names the kind; a kind without one is ignored
abbrev pub mode_by : List ModeEntry → Kind → Mode
mode_by entries kind = option_map_or (λ (e : ModeEntry). e.mode) (find (names_kind kind) entries) Ignore

-- Roles and RoleBindings are always propagated
abbrev pub mode_in : Option Object → Kind → Mode
mode_in found Role = Propagate
mode_in found RoleBinding = Propagate
mode_in found kind = mode_by (entries_of found) kind

abbrev pub mode_of : State → Kind → Mode
mode_of s kind = mode_in (object_at s.objects config_id) kind
