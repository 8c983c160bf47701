use Rattle.std.proofs.Common.{◌∙◌, position, ap, sym}
use Rattle.std.specs.Str.{bytes_eq}
use Rattle.hx_forest.specs.NodeTable.{NodeTableView, places_from, index_in}
use Rattle.hx_forest.proofs.Placing.{keys_from, index_position}
use Rattle.hx_forest.proofs.node_table.NodeTable.index_of.Goals as goal

pub returns : goal.returns
returns c =
    let es = c.self.inside.nodes.entries in
    let rs = c.self.inside.rungs.items in
    let n = c.args.name.now in
    c.get_index_of.ensures.index ∙ ap (position (bytes_eq n)) (sym (keys_from es rs c.self.invariant.0)) ∙ index_position (places_from es rs) n
    ∙ ap (λ (v : NodeTableView). index_in v.entries n) c.self.view_is
