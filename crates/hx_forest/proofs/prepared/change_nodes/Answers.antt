use Rattle.std.proofs.Common.{◌∙◌, ap, sym, subst}
use Rattle.hx_forest.specs.declared.change.Change.{Change}
use Rattle.hx_forest.specs.Children.{lists_of, names_in, IsIndex, Fits}
use Rattle.hx_forest.specs.ParentRefs.{nodes_of, forest_of}
use Rattle.hx_forest.specs.Staged.{parted_by}
use Rattle.hx_forest.proofs.NodeLookups.{ascends-forest}
use Rattle.hx_forest.proofs.Indexing.{lists_named, tied_named}
use Rattle.hx_forest.proofs.Changing.{index_terminated}
use Rattle.hx_forest.proofs.prepared.change_nodes.Goals as goal

pub returns-in-SetTerminating-clause-index : goal.returns-in-SetTerminating-clause-index
returns-in-SetTerminating-clause-index c =
    let nodes = c.args.nodes.now in
    let after = c.set_terminating.new.self in
    let children = c.args.children.now in
    let f = forest_of nodes in
    let names = c.set_terminating.ensures.names in
    subst (λ (change : Change). IsIndex after children (parted_by change f)) (sym c.in-SetTerminating.is) (record {
      tied = tied_named nodes after children names c.requires.index.tied;
      each = λ q. ap names_in (lists_named nodes after children names q) ∙ index_terminated (lists_of nodes children) f c.in-SetTerminating.name (ascends-forest (nodes_of nodes.places.entries)) c.requires.index.each q;
    })

pub returns-in-SetTerminating-clause-fits : goal.returns-in-SetTerminating-clause-fits
returns-in-SetTerminating-clause-fits c = λ k q. subst (Fits k) (sym (lists_named c.args.nodes.now c.set_terminating.new.self c.args.children.now c.set_terminating.ensures.names q))
