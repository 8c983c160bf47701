-- What a body says, as one result.
--     read_body target body    the object and the version that it expects, or its first fault
--     refusal_of kind fault   the refusal of a fault
use Rattle.std.specs.Prelude.{ℕ, List, Option, Some, None, Result, Ok, Err, if◌then◌else◌}
use Rattle.std.specs.Str.{is_utf8}
use Rattle.serde_json.specs.Data.{Data}
use Rattle.serde_json.specs.Read.{read}
use Rattle.serde_json.specs.Written.{has_float}
use Rattle.hx_object.specs.declared.kind.Kind.{Kind}
use Rattle.hx_object.specs.declared.object.Object.{Object}
use Rattle.hx_object.specs.declared.object.ObjectFault.{ObjectFault}
use Rattle.hx_object.specs.declared.object.ObjectFault.TheVariants as of_object
use Rattle.hx_json.specs.Reading.{Target, expected_of, fault_of, object_of}
use Rattle.hx_json.specs.declared.fault.JsonFault.{JsonFault}
use Rattle.hx_json.specs.declared.fault.JsonFault.TheVariants as of
use Rattle.hx_model.specs.declared.refusal.Refusal.{Refusal}
use Rattle.hx_model.specs.declared.refusal.Refusal.TheVariants.{NotJson, NotWhole, NotKind, OtherPlace, Missing, WrongType, NoQuantity, BadName, BadLabel, TooManyLabels, TooLarge, NoMemory}

-- an object, and the version that it expects
abbrev pub Said : Type 0
Said = Object × Option ℕ

-- what a value says, by its first fault
abbrev pub said_unless : Target → Data → Option JsonFault → Result Said JsonFault
said_unless target value None = Ok (object_of target value, expected_of target.name value)
said_unless target value (Some fault) = Err fault

-- what a JSON value says, if the body is one
abbrev pub said_by : Target → Option Data → Result Said JsonFault
said_by target None = Err of.NotJson
said_by target (Some value) = if has_float value then Err of.NotWhole else said_unless target value (fault_of target value)

-- what a body says
unfoldable pub read_body : Target → List ℕ → Result Said JsonFault
read_body target body = if is_utf8 body then said_by target (read body) else Err of.NotJson

-- ---- refusals

-- the refusal of an object's fault
abbrev pub object_refusal : ObjectFault → Refusal
object_refusal of_object.BadName = BadName
object_refusal of_object.BadLabel = BadLabel
object_refusal of_object.TooManyLabels = TooManyLabels
object_refusal of_object.TooLarge = TooLarge

-- the refusal of a fault, at a path of a kind
abbrev pub refusal_of : Kind → JsonFault → Refusal
refusal_of kind of.NotJson = NotJson
refusal_of kind of.NotWhole = NotWhole
refusal_of kind of.WrongKind = NotKind kind
refusal_of kind (of.MissingMember path) = Missing path
refusal_of kind (of.WrongType path) = WrongType path
refusal_of kind (of.BadQuantity path) = NoQuantity path
refusal_of kind of.WrongPlace = OtherPlace
refusal_of kind (of.Object fault) = object_refusal fault
refusal_of kind of.NoMemory = NoMemory
