-- What `read_object` promises of the bytes of a body.
--     IsWhole                the bytes are JSON of whole numbers
--     IsFaultOf, IsReadOf    a fault, or an object, is what the bytes give
use Rattle.std.specs.Prelude.{◌≡◌, ℕ, true, false, List, Option, Some, None, IsUtf8}
use Rattle.serde_json.specs.Data.{Data}
use Rattle.serde_json.specs.Read.{read}
use Rattle.serde_json.specs.Written.{has_float}
use Rattle.hx_object.specs.declared.object.Object.{Object}
use Rattle.hx_json.specs.Reading.{Target, expected_of, fault_of, object_of}
use Rattle.hx_json.specs.declared.fault.JsonFault.{JsonFault}
use Rattle.hx_json.specs.declared.fault.JsonFault.TheVariants.{NotJson, NotWhole, NoMemory}

-- the body is JSON of whole numbers, and this is its value
abbrev pub IsWhole : List ℕ → Data → Type 0
IsWhole body d = IsUtf8 body × (read body ≡ Some d) × (has_float d ≡ false)

-- the fault is what the body gives. Want of memory is free
abbrev pub IsFaultOf : Target → List ℕ → JsonFault → Type 0
IsFaultOf p body NotJson = IsUtf8 body → read body ≡ None
IsFaultOf p body NotWhole = (d : Data) × IsUtf8 body × (read body ≡ Some d) × (has_float d ≡ true)
IsFaultOf p body NoMemory = Unit {0}
IsFaultOf p body fault = (d : Data) × IsWhole body d × (fault_of p d ≡ Some fault)

-- the object and the expected version are what the body says
pub record IsReadOf (p : Target) (body : List ℕ) (object : Object) (expected : Option ℕ) : Type 0 where
  pub value : Data
  pub whole : IsWhole body value
  pub sound : fault_of p value ≡ None
  pub says : object ≡ object_of p value
  pub expects : expected ≡ expected_of p.name value
