use Rattle.std.proofs.Common.{◌∙◌}
use Rattle.hx_forest.specs.ParentRefs.{forest_of}
use Rattle.hx_forest.proofs.Slots.{index_none, index_keys}
use Rattle.hx_forest.proofs.ParentRefs.{absent_place}
use Rattle.hx_forest.proofs.Entering.{carries_in, tied_entered}
use Rattle.hx_forest.proofs.Changing.{parent_added}
use Rattle.hx_forest.proofs.prepared.add.Goals as goal

pub returns-clause-index : goal.returns-clause-index
returns-clause-index c =
    let nodes = c.args.nodes.now in
    let name = c.args.name in
    let names = c.find_parent_refs_to.ensures.names ∙ c.add-at.ensures.names in
    let absent = index_none nodes.places.entries name (absent_place nodes name c.requires.absent) in
    record {
      tied = tied_entered nodes c.find_parent_refs_to.new.nodes c.args.children.now c.enter.new.self name names absent c.requires.index.tied c.enter.ensures.list;
      each = λ q. (carries_in nodes c.find_parent_refs_to.new.nodes c.args.children.now c.enter.new.self name names absent c.requires.index.tied c.enter.ensures.list q).names ∙ c.requires.index.each q;
    }

pub returns-clause-at : goal.returns-clause-at
returns-clause-at c =
    let after = c.find_parent_refs_to.new.nodes in
    parent_added after (forest_of c.args.nodes.now) c.args.name c.args.node c.add-at.result (c.find_parent_refs_to.ensures.nodes ∙ c.add-at.ensures.nodes)
    (index_keys c.add-at.new.self.places.entries after.places.entries c.args.name c.find_parent_refs_to.ensures.names ∙ c.add-at.ensures.at)

pub returns-clause-fits : goal.returns-clause-fits
returns-clause-fits c = λ k q.
    let nodes = c.args.nodes.now in
    let name = c.args.name in
    (carries_in nodes c.find_parent_refs_to.new.nodes c.args.children.now c.enter.new.self name (c.find_parent_refs_to.ensures.names ∙ c.add-at.ensures.names) (index_none nodes.places.entries name (absent_place nodes name c.requires.absent))
    c.requires.index.tied c.enter.ensures.list q).fits k
