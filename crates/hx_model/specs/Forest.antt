-- Namespaces and their parents: chains, subtrees, and why a namespace is halted.
--     Forest            each namespace's node under its name, in ascending order of names
--     node_of f n       the node of a namespace, where it is there
--     parent_of f n     what n names as its parent
--     chain_of f n      n, its parent, the parent's parent and so on: up to a name without a namespace, or one that the list has
--     in_chain f n a    whether a is in the chain of n
--     depth_of f n      how far n is from the end of its chain
--     subtree_of f a    the namespaces whose chain has a
--     children_of f a   the namespaces that name a as their parent
--     reaches_deeper    a namespace of a subtree is at a depth over a bound
--     halt_of f n       why n is halted: the first reason that holds
--     with_parent f n       the forest where n has another parent
-- A graph of parents may have cycles, and parents that aren't there.
use Rattle.std.specs.Prelude.{ℕ, zero, suc, ◌-◌, Bool, false, not, ◌&&◌, nat_lt, List, [], ◌∷◌, ◌++◌, length, map, filter, is_some, if◌then◌else◌, Option, Some, None, option_and_then}
use Rattle.std.specs.List.{list_any}
use Rattle.std.specs.Option.{option_map_or}
use Rattle.std.specs.Map.{lookup}
use Rattle.std.specs.Str.{bytes_eq}
use Rattle.hx_model.specs.First.{so, first}
use Rattle.hx_model.specs.declared.node.Node.{Node}
use Rattle.hx_model.specs.declared.node.Halt.{Halt}
use Rattle.hx_model.specs.declared.node.Halt.TheVariants.{InCycle, ParentMissing, IllegalParent, Ancestor}

abbrev pub Forest : Type 0
Forest = List (List ℕ × Node)

-- a name is among names
abbrev pub is_in : List ℕ → List (List ℕ) → Bool
is_in n names = list_any (bytes_eq n) names

abbrev pub names_of : Forest → List (List ℕ)
names_of f = map (λ e. e.0) f

abbrev pub node_of : Forest → List ℕ → Option Node
node_of f n = lookup (bytes_eq n) f

abbrev pub is_there : Forest → List ℕ → Bool
is_there f n = is_some (node_of f n)

-- there, and not terminating
abbrev pub is_live : Forest → List ℕ → Bool
is_live f n = option_map_or (λ node. not node.terminating) (node_of f n) false

abbrev pub is_excluded : Forest → List ℕ → Bool
is_excluded f n = option_map_or (λ node. node.excluded) (node_of f n) false

-- what a namespace names as its parent
abbrev pub parent_of : Forest → List ℕ → Option (List ℕ)
parent_of f n = option_and_then (λ node. node.parent) (node_of f n)

-- m names n as its parent
abbrev pub is_child : Forest → List ℕ → List ℕ → Bool
is_child f n m = option_map_or (bytes_eq n) (parent_of f m) false

-- the namespaces that name n as their parent, whether it is there or not
abbrev pub children_of : Forest → List ℕ → List (List ℕ)
children_of f n = filter (is_child f n) (names_of f)

-- ---- chains

-- a chain goes on at a namespace that it doesn't have yet
abbrev pub goes_on : Forest → List (List ℕ) → List ℕ → Bool
goes_on f built n = is_there f n && not (is_in n built)

-- the chain so far, and at most so many members more
abbrev pub climb : ℕ → Forest → List (List ℕ) → Option (List ℕ) → List (List ℕ)
climb zero f built next = built
climb (suc left) f built None = built
climb (suc left) f built (Some n) = if goes_on f built n then climb left f (built ++ n ∷ []) (parent_of f n) else built

-- no chain is longer than the forest
abbrev pub chain_of : Forest → List ℕ → List (List ℕ)
chain_of f n = climb (length f) f [] (Some n)

abbrev pub in_chain : Forest → List ℕ → List ℕ → Bool
in_chain f n a = is_in a (chain_of f n)

-- a root is at depth 0
abbrev pub depth_of : Forest → List ℕ → ℕ
depth_of f n = length (chain_of f n) - 1

-- the namespaces whose chain has a
abbrev pub subtree_of : Forest → List ℕ → List (List ℕ)
subtree_of f a = filter (λ n. in_chain f n a) (names_of f)

-- a namespace of the subtree of a is deeper than that
abbrev pub reaches_deeper : ℕ → Forest → List ℕ → Bool
reaches_deeper most f a = list_any (λ n. nat_lt most (depth_of f n)) (subtree_of f a)

-- ---- halting

-- the walk up from n comes back to n
abbrev pub comes_back : Forest → List ℕ → Bool
comes_back f n = option_map_or (λ p. in_chain f p n) (parent_of f n) false

-- the reasons that n has by itself, in their order
abbrev pub own_halt_of : Forest → List ℕ → Option Halt
own_halt_of f n = first (
    so (comes_back f n) InCycle
    ∷ so (option_map_or (λ p. not (is_live f p)) (parent_of f n) false) ParentMissing
    ∷ so (option_map_or (λ p. is_excluded f p) (parent_of f n) false) IllegalParent
    ∷ [])

abbrev pub tail_of : List (List ℕ) → List (List ℕ)
tail_of [] = []
tail_of (n ∷ names) = names

-- a later member of the chain has a reason by itself
abbrev pub has_halted_ancestor : Forest → List ℕ → Bool
has_halted_ancestor f n = list_any (λ a. is_some (own_halt_of f a)) (tail_of (chain_of f n))

-- the first reason that holds
abbrev pub halt_of : Forest → List ℕ → Option Halt
halt_of f n = first (own_halt_of f n ∷ so (has_halted_ancestor f n) Ancestor ∷ [])

-- ---- changes

-- with the node of a namespace changed, where it is there
abbrev pub with_changed : List ℕ → (Node → Node) → Forest → Forest
with_changed n change f = map (λ e. (e.0, if bytes_eq n e.0 then change e.1 else e.1)) f

abbrev pub with_parent : List ℕ → Option (List ℕ) → Forest → Forest
with_parent n parent f = with_changed n (λ node. record node { parent = parent }) f
