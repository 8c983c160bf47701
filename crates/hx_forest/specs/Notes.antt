-- Namespaces that are noted not to be halted.
--     IsNoted       one with the epoch of the tree isn't halted, and none has a later epoch
--     AreNoted      so it is with all nodes
use Rattle.std.specs.Prelude.{◌≡◌, ℕ, ◌<◌, ◌≤◌, List, Some, None}
use Rattle.hx_model.specs.Forest.{Forest, halt_of}
use Rattle.hx_forest.specs.declared.nodes.Nodes.{Nodes}
use Rattle.hx_forest.specs.NodeTable.{Place}
use Rattle.hx_forest.specs.ParentRefs.{forest_of, place_of}

-- a namespace with the epoch of the tree isn't halted, and none has a later one; with the epoch 0 nothing is noted
abbrev pub IsNoted : ℕ → Forest → List ℕ → Place → Type 0
IsNoted epoch f n p = 0 < epoch → (p.noted ≤ epoch) × (p.noted ≡ epoch → halt_of f n ≡ None)

-- so it is with all nodes
pub record AreNoted (nodes : Nodes) : Type 0 where
  pub each : (n : List ℕ) (p : Place) → place_of nodes n ≡ Some p → IsNoted nodes.epoch (forest_of nodes) n p
