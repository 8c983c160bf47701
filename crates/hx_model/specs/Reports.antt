-- Reports: what a HierarchyConfiguration tells of its namespace (HNC user guide, "Conditions").
--     condition_of halt      how a reason of halting is told
--     misses_anchor          a subnamespace whose parent is there and holds no anchor of its name
--     conditions_of s n      what is told of a namespace: first why it is halted, then that it misses its anchor
--     with_report            a HierarchyConfiguration that tells children and conditions
--     bare_report            one that tells them and gives no parent
--     report_write           the write by which they are told
use Rattle.std.specs.Prelude.{ℕ, Bool, true, false, not, ◌&&◌, is_some, is_none, List, [], ◌∷◌, ◌++◌, Option, Some, None, option_map, if◌then◌else◌}
use Rattle.std.specs.Option.{option_map_or}
use Rattle.hx_object.specs.declared.object.Condition.{Condition}
use Rattle.hx_object.specs.declared.object.Condition.TheVariants as told
use Rattle.hx_object.specs.declared.object.Object.{Object}
use Rattle.hx_object.specs.declared.object.Payload.TheVariants.{Hierarchy}
use Rattle.hx_model.specs.Answers.{same_object}
use Rattle.hx_model.specs.First.{so}
use Rattle.hx_model.specs.Forest.{Forest, halt_of}
use Rattle.hx_model.specs.Propagation.{as_list}
use Rattle.hx_model.specs.State.{State, Objects, object_at, namespace_id, with_version}
use Rattle.hx_model.specs.Subnamespaces.{allows_cascade, anchor_id}
use Rattle.hx_model.specs.Tree.{forest_of, hierarchy_id, spec_parent, subnamespace_parent}
use Rattle.hx_model.specs.declared.key.Write.{Write}
use Rattle.hx_model.specs.declared.key.Write.TheVariants.{Put}
use Rattle.hx_model.specs.declared.node.Halt.{Halt}
use Rattle.hx_model.specs.declared.node.Halt.TheVariants as halt

-- ---- conditions

-- a reason of halting, as it is told
abbrev pub condition_of : Halt → Condition
condition_of halt.InCycle = told.InCycle
condition_of halt.ParentMissing = told.ParentMissing
condition_of halt.IllegalParent = told.IllegalParent
condition_of halt.Ancestor = told.Ancestor

-- its parent, by its annotation, is there and holds no anchor of its name
abbrev pub misses_anchor : Objects → List ℕ → Object → Bool
misses_anchor objects n x = option_map_or (λ p. is_some (object_at objects (namespace_id p)) && is_none (object_at objects (anchor_id p n))) (subnamespace_parent x) false

-- first why it is halted, then that it misses its anchor
abbrev pub conditions_by : Option Halt → Bool → List Condition
conditions_by reason misses = as_list (option_map condition_of reason) ++ (if misses then told.AnchorMissing ∷ [] else [])

abbrev pub conditions_in : Objects → Forest → List ℕ → List Condition
conditions_in objects f n = conditions_by (halt_of f n) (option_map_or (misses_anchor objects n) (object_at objects (namespace_id n)) false)

abbrev pub conditions_of : State → List ℕ → List Condition
conditions_of s n = conditions_in s.objects (forest_of s) n

-- ---- what is written

-- a HierarchyConfiguration that tells them, and gives what it gave
abbrev pub with_report : List (List ℕ) → List Condition → Object → Object
with_report children conditions x = record x { payload = Hierarchy (spec_parent x.payload) (allows_cascade x.payload) children conditions; version = 0 }

-- one that gives nothing
abbrev pub bare_report : List ℕ → List (List ℕ) → List Condition → Object
bare_report n children conditions = record { id = hierarchy_id n; labels = []; annotations = []; payload = Hierarchy None false children conditions; version = 0 }

-- there is something to tell
abbrev pub is_telling : List (List ℕ) → List Condition → Bool
is_telling [] [] = false
is_telling children conditions = true

-- where the namespace takes reports: in the place of what differs, and where there is none only what is to be told
abbrev pub report_write : Bool → Option Object → List (List ℕ) → List Condition → List ℕ → Option Write
report_write takes None children conditions n = so (takes && is_telling children conditions) (Put (bare_report n children conditions))
report_write takes (Some x) children conditions n = so (takes && not (same_object (with_version x 0) (with_report children conditions x))) (Put (with_report children conditions x))
