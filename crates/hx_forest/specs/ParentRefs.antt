-- Nodes by the names of their namespaces, each with a way to that of its parent.
--     forest_of nodes         the forest of the nodes
--     place_of nodes n        the place of a name
--     place_at, number_at     the place of a name that may be none, and its number
--     index_at, name_in, place_in      where such a name lies, and the name and the place at an index that may be none
--     parent_in               what the node at such an index names as its parent
--     IsAt                    a way comes to a place of its number at an index
--     LeadsUp, AllLeadUp      a way that meets a place of its number has come to that of the parent
use Rattle.std.specs.Prelude.{◌≡◌, ℕ, ◌<◌, ◌≤◌, List, map, Option, Some, option_map, option_and_then}
use Rattle.std.specs.Map.{lookup}
use Rattle.std.specs.Option.{option_map_or}
use Rattle.std.specs.Str.{bytes_eq}
use Rattle.hx_model.specs.Forest.{Forest}
use Rattle.hx_model.specs.ForestChanges.{forest_from}
use Rattle.hx_model.specs.declared.node.Node.{Node}
use Rattle.hx_forest.specs.declared.nodes.Nodes.{Nodes}
use Rattle.hx_forest.specs.declared.node_table.ParentRef.{ParentRef}
use Rattle.hx_forest.specs.NodeTable.{Place, index_in, entry_in}

-- the nodes of places
abbrev pub nodes_of : List (List ℕ × Place) → List (List ℕ × Node)
nodes_of places = map (λ e. (e.0, e.1.node)) places

-- the place of a name
abbrev pub place_of : Nodes → List ℕ → Option Place
place_of nodes n = lookup (bytes_eq n) nodes.places.entries

-- the place of a name that may be none
abbrev pub place_at : Nodes → Option (List ℕ) → Option Place
place_at nodes next = option_and_then (place_of nodes) next

-- the node of a place that may be none
abbrev pub node_in : Option Place → Option Node
node_in place = option_map (λ p. p.node) place

-- the forest of the nodes
abbrev pub forest_of : Nodes → Forest
forest_of nodes = forest_from (nodes_of nodes.places.entries)

-- the number of the place of such a name, and 0 where there is none
abbrev pub number_at : Nodes → Option (List ℕ) → ℕ
number_at nodes next = option_map_or (λ p. p.number) (place_at nodes next) 0

-- where such a name lies
abbrev pub index_at : Nodes → Option (List ℕ) → Option ℕ
index_at nodes next = option_and_then (index_in nodes.places.entries) next

-- the name at an index that may be none
abbrev pub name_in : Nodes → Option ℕ → Option (List ℕ)
name_in nodes at = option_map (λ e. e.0) (entry_in nodes.places.entries at)

-- and the place there
abbrev pub place_in : Nodes → Option ℕ → Option Place
place_in nodes at = option_map (λ e. e.1) (entry_in nodes.places.entries at)

-- what the node at an index names as its parent
abbrev pub parent_in : Nodes → Option ℕ → Option (List ℕ)
parent_in nodes at = option_and_then (λ p. p.node.parent) (place_in nodes at)

-- a way comes to a place of its number at an index
pub record IsAt (nodes : Nodes) (up : ParentRef) (at : ℕ) : Type 0 where
  pub some : 0 < up.number
  pub place : Place
  pub is : place_in nodes (Some at) ≡ Some place
  pub number : place.number ≡ up.number

-- a place that has the number of the way is that of the parent
abbrev pub LeadsUp : (List ℕ → Option Place) → Place → Type 0
LeadsUp at p = (b : List ℕ) (q : Place) → at b ≡ Some q → 0 < q.number → p.up.number ≡ q.number → p.node.parent ≡ Some b

-- so it is with each way; no two places have one number, and none has one that wasn't drawn
pub record LeadUp (at : List ℕ → Option Place) (drawn : ℕ) : Type 0 where
  pub ups : (a : List ℕ) (p : Place) → at a ≡ Some p → LeadsUp at p
  pub own : (a b : List ℕ) (p q : Place) → at a ≡ Some p → at b ≡ Some q → 0 < p.number → p.number ≡ q.number → a ≡ b
  pub numbers : (a : List ℕ) (p : Place) → at a ≡ Some p → p.number ≤ drawn
  pub parent_refs : (a : List ℕ) (p : Place) → at a ≡ Some p → p.up.number ≤ drawn

-- so it is with all nodes
abbrev pub AllLeadUp : Nodes → Type 0
AllLeadUp nodes = LeadUp (place_of nodes) nodes.drawn
