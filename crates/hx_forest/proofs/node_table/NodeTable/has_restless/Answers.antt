use Rattle.std.proofs.Common.{◌≡◌, ap, sym, ◌∙◌}
use Rattle.std.specs.Map.{lookup}
use Rattle.std.specs.Str.{bytes_eq}
use Rattle.hx_forest.specs.NodeTable.{NodeTableView}
use Rattle.hx_forest.proofs.Restless.{no_more, none_restless}
use Rattle.hx_forest.proofs.node_table.NodeTable.has_restless.Goals as goal

pub returns : goal.returns
returns c = λ none q p at.
    let zero : c.self.inside.restless ≡ 0 = no_more c.self.inside.restless none in
    none_restless c.self.inside.nodes.entries c.self.inside.rungs.items c.self.invariant.0 (sym c.self.invariant.2 ∙ zero) q p (ap (λ (v : NodeTableView). lookup (bytes_eq q) v.entries) c.self.view_is ∙ at)
