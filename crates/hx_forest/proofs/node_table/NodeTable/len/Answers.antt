use Rattle.std.proofs.Common.{◌∙◌, length, ap, sym}
use Rattle.hx_forest.specs.NodeTable.{NodeTableView}
use Rattle.hx_forest.proofs.Placing.{distinct_seen, length_from}
use Rattle.hx_forest.proofs.node_table.NodeTable.len.Goals as goal

pub returns-clause-len : goal.returns-clause-len
returns-clause-len c = c.len.ensures.len ∙ sym (length_from c.self.inside.nodes.entries c.self.inside.rungs.items c.self.invariant.0) ∙ ap (λ (v : NodeTableView). length v.entries) c.self.view_is

pub returns-clause-unique : goal.returns-clause-unique
returns-clause-unique c = distinct_seen c.self.inside.nodes.entries c.self.inside.rungs.items _ _ c.self.view_is c.self.invariant.0 c.self.invariant.1
