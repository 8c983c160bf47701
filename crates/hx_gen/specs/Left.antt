-- What is left of the asks at a step.
--     tree_left, objects_left     what is asked of so many places, from one on
--     left_at                     all that is left at a step
--     ask_at                      the step's own ask
--     IsWithin                    the step's place is one of the places
--     with_first                  a list behind what stands in front of it
use Rattle.std.specs.Prelude.{ℕ, zero, suc, ◌+◌, ◌-◌, ◌<◌, ◌%◌, List, [], ◌∷◌, ◌++◌, flat_map, Option, Some, None}
use Rattle.std.specs.List.{range_with_len}
use Rattle.hx_model.specs.declared.ask.Ask.{Ask}
use Rattle.hx_gen.specs.declared.step.Step.{Step}
use Rattle.hx_gen.specs.declared.step.Step.TheVariants as step
use Rattle.hx_gen.specs.Draws.{draw_of, next_number}
use Rattle.hx_gen.specs.Asked.{namespace_ask, hierarchy_ask, role_ask, pod_ask, tree_asks, object_asks}

-- the namespaces of so many places from `i` on, where `x` is the number of the draw of `i`
abbrev pub tree_left : ℕ → ℕ → ℕ → List Ask
tree_left x i zero = []
tree_left x i (suc left) = tree_asks i (draw_of x % i) ++ tree_left (next_number x) (i + 1) left

-- what lies in the namespaces of so many places from `i` on
abbrev pub objects_left : ℕ → ℕ → List Ask
objects_left i left = flat_map object_asks (range_with_len i left)

-- what is left where there are so many places
unfoldable pub left_at : ℕ → Step → List Ask
left_at count (step.Namespace i x) = tree_left x i (count - i) ++ objects_left 0 count
left_at count (step.Hierarchy i x parent) = hierarchy_ask i parent ∷ (tree_left (next_number x) (i + 1) (count - (i + 1)) ++ objects_left 0 count)
left_at count (step.Role i) = objects_left i (count - i)
left_at count (step.Pod i) = pod_ask i ∷ objects_left (i + 1) (count - (i + 1))
left_at count step.End = []

-- the step's own ask
abbrev pub ask_at : Step → Option Ask
ask_at (step.Namespace i x) = Some (namespace_ask i)
ask_at (step.Hierarchy i x parent) = Some (hierarchy_ask i parent)
ask_at (step.Role i) = Some (role_ask i)
ask_at (step.Pod i) = Some (pod_ask i)
ask_at step.End = None

-- the step's place is one of so many
abbrev pub IsWithin : ℕ → Step → Type 0
IsWithin count (step.Namespace i x) = i < count
IsWithin count (step.Hierarchy i x parent) = i < count
IsWithin count (step.Role i) = i < count
IsWithin count (step.Pod i) = i < count
IsWithin count step.End = Unit {0}

-- a list with what stands in front of it, if anything
abbrev pub with_first : Option Ask → List Ask → List Ask
with_first None rest = rest
with_first (Some ask) rest = ask ∷ rest
