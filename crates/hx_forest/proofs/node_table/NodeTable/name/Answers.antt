use Rattle.std.proofs.Common.{◌∙◌, ℕ, List, option_map, option_copied, ap, sym}
use Rattle.std.specs.Map.Iter.{deref_pair}
use Rattle.hx_model.specs.declared.node.Node.{Node}
use Rattle.hx_forest.specs.NodeTable.{Place, entry_in}
use Rattle.hx_forest.proofs.Placing.{distinct_seen, names_from}
use Rattle.hx_forest.proofs.node_table.NodeTable.name.Goals as goal

pub returns-in_err-name-clause-name : goal.returns-in_err-name-clause-name
returns-in_err-name-clause-name c =
    ap option_copied c.from_residual-in_err-name.ensures
    ∙ ap (λ r. option_map (λ (e : List ℕ × Node). e.0) (option_map deref_pair r)) (sym c.in_err-name.was)
    ∙ ap (option_map (λ (e : List ℕ × Node). e.0)) c.get_index.ensures.entry
    ∙ names_from c.self.inside.nodes.entries c.self.inside.rungs.items c.in_ok-at.field-0 c.self.invariant.0
    ∙ (λ i. option_map (λ (e : List ℕ × Place). e.0) (entry_in ((c.self.view_is i).entries) (sym c.in_ok-at.was i)))

pub returns-clause-name : goal.returns-clause-name
returns-clause-name c =
    ap (λ r. option_map (λ (e : List ℕ × Node). e.0) (option_map deref_pair r)) (sym c.in_ok-name.was)
    ∙ ap (option_map (λ (e : List ℕ × Node). e.0)) c.get_index.ensures.entry
    ∙ names_from c.self.inside.nodes.entries c.self.inside.rungs.items c.in_ok-at.field-0 c.self.invariant.0
    ∙ (λ i. option_map (λ (e : List ℕ × Place). e.0) (entry_in ((c.self.view_is i).entries) (sym c.in_ok-at.was i)))

pub returns-in_err-at-clause-unique : goal.returns-in_err-at-clause-unique
returns-in_err-at-clause-unique c = distinct_seen c.self.inside.nodes.entries c.self.inside.rungs.items _ _ c.self.view_is c.self.invariant.0 c.self.invariant.1

pub returns-in_err-name-clause-unique : goal.returns-in_err-name-clause-unique
returns-in_err-name-clause-unique c = distinct_seen c.self.inside.nodes.entries c.self.inside.rungs.items _ _ c.self.view_is c.self.invariant.0 c.self.invariant.1

pub returns-clause-unique : goal.returns-clause-unique
returns-clause-unique c = distinct_seen c.self.inside.nodes.entries c.self.inside.rungs.items _ _ c.self.view_is c.self.invariant.0 c.self.invariant.1
