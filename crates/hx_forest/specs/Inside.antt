-- Words for the inside of a forest.
--     walk_names          the namespaces that a walk up passes
--     chain_count         how many members a chain has, in a cycle too
--     halt_under node     the reason that a namespace has by the node of its parent
--     halt_by, halt_at    the reason that one has by its parent, which may not be there
--     is_halted_by        whether it has one, by how its node and its parent's stand
--     nodes_end           how many a walk up from a node passes, where it has ended by then
--     nodes_halt          whether it passes one that has such a reason
--     is_over, goes_deeper      whether the way down from a name goes on for more than so many steps
use Rattle.std.specs.Prelude.{ℕ, zero, suc, ◌+◌, Bool, true, false, not, ◌&&◌, ◌||◌, if◌then◌else◌, List, [], ◌∷◌, length, is_some, Option, Some, None, option_map, option_and_then}
use Rattle.std.specs.List.{list_any}
use Rattle.std.specs.Option.{option_map_or}
use Rattle.std.specs.Str.{bytes_eq}
use Rattle.hx_model.specs.First.{so, first}
use Rattle.hx_model.specs.Forest.{Forest, node_of, is_there, parent_of, children_of}
use Rattle.hx_model.specs.Walks.{walk_to}
use Rattle.hx_model.specs.declared.node.Node.{Node}
use Rattle.hx_model.specs.declared.node.Halt.{Halt}
use Rattle.hx_forest.specs.declared.node_table.Standing.{Standing}
use Rattle.hx_model.specs.declared.node.Halt.TheVariants.{ParentMissing, IllegalParent}

-- the namespaces that a walk up passes in so many steps
abbrev pub walk_names : ℕ → Forest → Option (List ℕ) → List (List ℕ)
walk_names zero f next = []
walk_names (suc left) f None = []
walk_names (suc left) f (Some n) = if is_there f n then n ∷ walk_names left f (parent_of f n) else []

-- how many members a chain has, counted up to one that comes back to itself, and then round once
abbrev pub chain_count : ℕ → Forest → List ℕ → ℕ
chain_count zero f n = 0
chain_count (suc left) f n = if is_there f n then option_map_or (λ p. option_map_or (λ k. k + 1) (walk_to (length f) f (Some p) n) (1 + chain_count left f p)) (parent_of f n) 1 else 0

-- the reason that a namespace has by the node of its parent
abbrev pub halt_under : Node → Option Halt
halt_under node = first (so node.terminating ParentMissing ∷ so node.excluded IllegalParent ∷ [])

-- the reason that a namespace has by its parent, whose node may not be there
abbrev pub halt_at : Option (List ℕ) → Option Node → Option Halt
halt_at None above = None
halt_at (Some p) above = option_map_or halt_under above (Some ParentMissing)

-- the node of a name that may be none
abbrev pub node_at : Forest → Option (List ℕ) → Option Node
node_at f next = option_and_then (node_of f) next

-- the reason by a parent
abbrev pub halt_by : Forest → Option (List ℕ) → Option Halt
halt_by f parent = halt_at parent (node_at f parent)

-- whether a namespace has such a reason, by how its node and that of its parent stand
abbrev pub is_halted_by : Standing → Option Standing → Bool
is_halted_by member above = not member.root && option_map_or (λ s. not s.eligible) above true

-- how many nodes a walk up from a node passes, where it has ended by then
abbrev pub nodes_end : ℕ → Forest → Option Node → Option ℕ
nodes_end zero f next = None
nodes_end (suc left) f None = Some 0
nodes_end (suc left) f (Some node) = option_map (λ k. suc k) (nodes_end left f (node_at f node.parent))

-- whether a walk up from a node passes one that has such a reason, where it ends in so many steps
abbrev pub nodes_halt : ℕ → Forest → Option Node → Option Bool
nodes_halt zero f next = None
nodes_halt (suc left) f None = Some false
nodes_halt (suc left) f (Some node) = option_map (λ has. is_some (halt_by f node.parent) || has) (nodes_halt left f (node_at f node.parent))

-- c isn't top, and the way down from it goes on for so many steps more, where it doesn't come back to top
abbrev pub is_over : ℕ → Forest → List ℕ → List ℕ → Bool
is_over zero f top c = not (bytes_eq c top)
is_over (suc left) f top c = not (bytes_eq c top) && list_any (is_over left f top) (children_of f c)

-- the way down from n goes on for more than so many steps
abbrev pub goes_deeper : ℕ → Forest → List ℕ → List ℕ → Bool
goes_deeper left f top n = list_any (is_over left f top) (children_of f n)
