use Rattle.std.proofs.Common.{◌∙◌, ℕ, List, option_map, option_copied, ap, sym}
use Rattle.std.specs.Map.Iter.{deref_pair}
use Rattle.hx_model.specs.declared.node.Node.{Node}
use Rattle.hx_forest.specs.NodeTable.{Place, entry_in}
use Rattle.hx_forest.proofs.Placing.{nodes_from}
use Rattle.hx_forest.proofs.node_table.NodeTable.node.Goals as goal

pub returns-in_err-node : goal.returns-in_err-node
returns-in_err-node c =
    ap option_copied c.from_residual-in_err-node.ensures
    ∙ ap (λ r. option_map (λ (e : List ℕ × Node). e.1) (option_map deref_pair r)) (sym c.in_err-node.was)
    ∙ ap (option_map (λ (e : List ℕ × Node). e.1)) c.get_index.ensures.entry
    ∙ nodes_from c.self.inside.nodes.entries c.self.inside.rungs.items c.in_ok-at.field-0 c.self.invariant.0
    ∙ (λ i. option_map (λ (e : List ℕ × Place). e.1.node) (entry_in ((c.self.view_is i).entries) (sym c.in_ok-at.was i)))

pub returns : goal.returns
returns c =
    ap (λ r. option_map (λ (e : List ℕ × Node). e.1) (option_map deref_pair r)) (sym c.in_ok-node.was)
    ∙ ap (option_map (λ (e : List ℕ × Node). e.1)) c.get_index.ensures.entry
    ∙ nodes_from c.self.inside.nodes.entries c.self.inside.rungs.items c.in_ok-at.field-0 c.self.invariant.0
    ∙ (λ i. option_map (λ (e : List ℕ × Place). e.1.node) (entry_in ((c.self.view_is i).entries) (sym c.in_ok-at.was i)))
