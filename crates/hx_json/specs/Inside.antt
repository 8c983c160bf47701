-- What serves the code alone: checks of members one by one, and what passes between readers.
--     test_of s      the test of a shape
--     seen fault     a fault as callers see it
--     entry_fault m  the fault of a member of an entry
--     num_of n       the number that a whole one is
--     has_quantities k d   each limit of a quota is a quantity
--     AreAlike       two texts of one value, whose numbers are whole
--     Says, IsFaultIn    an object, or a fault, is what a value gives
--     target_of a    the target of what is asked
--     need_said k d  what all members of a body say that is needed to know
--     phase_fault, requests_fault, storage_fault    parts of the faults of Pods and claims
--     fault_in r     the fault that a check found
use Rattle.std.specs.Prelude.{◌≡◌, ℕ, Bool, true, false, List, [], codes, Option, Some, None, option_copied, unwrap_or, Result, Ok, Err}
use Rattle.serde_json.specs.Data.{Num, unsigned, negative, Data}
use Rattle.serde_json.specs.Find.{get}
use Rattle.hx_object.specs.Json.{members_in}
use Rattle.hx_object.specs.Needs.{containers_in, is_finished_in, is_token, storage_asked}
use Rattle.hx_object.specs.declared.kind.Kind.{Kind}
use Rattle.hx_object.specs.declared.kind.Kind.TheVariants.{HierarchicalResourceQuota, Secret, Pod, PersistentVolumeClaim}
use Rattle.hx_object.specs.declared.object.Need.{Need}
use Rattle.hx_object.specs.declared.object.Object.{Object}
use Rattle.hx_json.specs.Reading.{Target, target_at, expected_of, fault_of, object_of, is_text, is_truth, is_object, is_entries, is_mode, are_quantities, counted_member, in_spec, inner_fault, quantity_fault, type_fault, phase_path, storage_path, group_fault, resource_fault, mode_fault}
use Rattle.hx_json.specs.declared.fault.JsonFault.{JsonFault}
use Rattle.hx_json.specs.declared.fault.JsonFault.TheVariants as of
use Rattle.hx_json.specs.declared.read.shapes.MemberFault.{MemberFault}
use Rattle.hx_json.specs.declared.read.shapes.MemberFault.TheVariants.{WrongKind, Missing, WrongType, BadQuantity, WrongPlace}
use Rattle.hx_json.specs.ReadObject.{IsWhole}
use Rattle.hx_json.specs.declared.read.Asked.{Asked}
use Rattle.hx_json.specs.declared.read.number.Whole.{Whole}
use Rattle.hx_json.specs.declared.read.number.Whole.TheVariants.{Unsigned, Negative}
use Rattle.hx_json.specs.declared.read.shapes.Shape.{Shape}
use Rattle.hx_json.specs.declared.read.shapes.Shape.TheVariants as shape
use Rattle.hx_json.specs.declared.read.member_checks.EntryMember.{EntryMember}
use Rattle.hx_json.specs.declared.read.member_checks.EntryMember.TheVariants as part

-- ---- checks

-- the test of a shape
abbrev pub test_of : Shape → Data → Bool
test_of shape.Text = is_text
test_of shape.Truth = is_truth
test_of shape.Object = is_object
test_of shape.Entries = is_entries
test_of shape.Mode = is_mode

-- a fault as callers see it
abbrev pub seen : MemberFault → JsonFault
seen WrongKind = of.WrongKind
seen (Missing path) = of.MissingMember path.now
seen (WrongType path) = of.WrongType path.now
seen (BadQuantity path) = of.BadQuantity path.now
seen WrongPlace = of.WrongPlace

-- the fault that a check found
abbrev pub fault_in : {A : Type 0} → Result A MemberFault → Option JsonFault
fault_in (Ok x) = None
fault_in (Err fault) = Some (seen fault)

-- the fault of a member of an entry
abbrev pub entry_fault : EntryMember → Data → Option JsonFault
entry_fault part.Group = group_fault
entry_fault part.Resource = resource_fault
entry_fault part.Mode = mode_fault

-- each limit of a quota is a quantity
abbrev pub has_quantities : Kind → Data → Bool
has_quantities HierarchicalResourceQuota d = are_quantities (members_in (in_spec (codes "hard") d))
has_quantities kind d = true

-- the fault of a Pod's phase
abbrev pub phase_fault : Data → Option JsonFault
phase_fault d = inner_fault phase_path (λ status. type_fault phase_path is_text (counted_member (codes "phase") status)) (counted_member (codes "status") d)

-- the fault of a claim's `spec.resources`, and of its `spec`
abbrev pub storage_fault : Data → Option JsonFault
storage_fault resources = inner_fault storage_path (λ requests. quantity_fault storage_path (counted_member (codes "storage") requests)) (counted_member (codes "requests") resources)

abbrev pub requests_fault : Data → Option JsonFault
requests_fault spec = inner_fault storage_path storage_fault (counted_member (codes "resources") spec)

-- the number that a whole one is
abbrev pub num_of : Whole → Num
num_of (Unsigned n) = unsigned n
num_of (Negative z) = negative z

-- ---- what is needed to know

-- what all members of a body say
abbrev pub need_said : Kind → Data → Need
need_said Secret d = record { finished = false; token = is_token (get (codes "type") d); storage = 0; containers = [] }
need_said Pod d = record { finished = is_finished_in d; token = false; storage = 0; containers = containers_in d }
need_said PersistentVolumeClaim d = record { finished = false; token = false; storage = unwrap_or (storage_asked d) 0; containers = [] }
need_said _ d = record { finished = false; token = false; storage = 0; containers = [] }

-- ---- values, and what is read of them

-- two texts of one value, whose numbers are whole
abbrev pub AreAlike : List ℕ → List ℕ → Type 0
AreAlike one other = (d : Data) × IsWhole one d × IsWhole other d

-- the object and the expected version are what a value says
abbrev pub Says : Target → Data → Object → Option ℕ → Type 0
Says p d x expected = (fault_of p d ≡ None) × (x ≡ object_of p d) × (expected ≡ expected_of p.name d)

-- the fault is the value's, or want of memory
abbrev pub IsFaultIn : Target → Data → JsonFault → Type 0
IsFaultIn p d of.NotJson = ⊥
IsFaultIn p d of.NotWhole = ⊥
IsFaultIn p d of.NoMemory = Unit {0}
IsFaultIn p d fault = fault_of p d ≡ Some fault

-- the target of what is asked
abbrev pub target_of : Asked → Target
target_of asked = target_at asked.kind asked.ns.now (option_copied asked.name)
