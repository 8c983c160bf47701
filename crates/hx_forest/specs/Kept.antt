-- What a forest is seen as, and its changes.
--     ForestView                  the nodes, and the changes that are staged
--     changed_by, changed_by_all  the nodes after a change, and after several, the first one first
--     MayChange, MayChangeAll     an added namespace isn't there at that point, and the others are
use Rattle.std.specs.Prelude.{◌≡◌, ℕ, true, false, List, [], ◌∷◌, refl}
use Rattle.std.specs.Coded.{Coded, code_by, coded×, coded_list, coded_ℕ}
use Rattle.hx_model.specs.Forest.{Forest, is_there, with_parent}
use Rattle.hx_model.specs.ForestChanges.{with_node, with_terminating, without_node}
use Rattle.hx_model.specs.contracts.node.Node as node
use Rattle.hx_model.specs.declared.node.Node.{Node}
use Rattle.hx_forest.specs.contracts.change.Change as change
use Rattle.hx_forest.specs.declared.change.Change.{Change}
use Rattle.hx_forest.specs.declared.change.Change.TheVariants.{Add, SetParent, SetTerminating, Remove}

-- the nodes, and the changes that are staged
pub record ForestView : Type 0 where
  pub nodes : Forest
  pub staged : List Change

-- both, as a pair
abbrev pub view_code : Coded ForestView
view_code = code_by (List (List ℕ × Node) × List Change) (coded× (coded_list (coded× (coded_list coded_ℕ) node.the_row.coded)) (coded_list change.the_row.coded))
    (λ v. (v.nodes, v.staged)) (λ p. record { nodes = p.0; staged = p.1 }) (λ _. refl)

-- the nodes after a change
abbrev pub changed_by : Change → Forest → Forest
changed_by (Add name node) f = with_node name node f
changed_by (SetParent name parent) f = with_parent name parent f
changed_by (SetTerminating name) f = with_terminating name f
changed_by (Remove name) f = without_node name f

-- after several, the first one first
abbrev pub changed_by_all : List Change → Forest → Forest
changed_by_all [] f = f
changed_by_all (c ∷ changes) f = changed_by_all changes (changed_by c f)

-- an added namespace isn't there, and the others are
abbrev pub MayChange : Change → Forest → Type 0
MayChange (Add name node) f = is_there f name ≡ false
MayChange (SetParent name parent) f = is_there f name ≡ true
MayChange (SetTerminating name) f = is_there f name ≡ true
MayChange (Remove name) f = is_there f name ≡ true

-- one after the other
abbrev pub MayChangeAll : List Change → Forest → Type 0
MayChangeAll [] f = Unit {0}
MayChangeAll (c ∷ changes) f = MayChange c f × MayChangeAll changes (changed_by c f)
