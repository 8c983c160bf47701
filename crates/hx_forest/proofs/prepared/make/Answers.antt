use Rattle.std.proofs.Common.{◌≡◌, List, ℕ, sym, subst, Option}
use Rattle.hx_model.specs.Forest.{Forest, children_of}
use Rattle.hx_forest.specs.Children.{lists_of, names_in}
use Rattle.hx_forest.specs.ParentRefs.{nodes_of, forest_of}
use Rattle.hx_forest.specs.Staged.{Place, IsJoined}
use Rattle.hx_forest.proofs.NodeLookups.{ascends-forest}
use Rattle.hx_forest.proofs.Changing.{index_changed}
use Rattle.hx_forest.proofs.prepared.make.Goals as goal

pub returns-clause-index : goal.returns-clause-index
returns-clause-index c =
    let f = forest_of c.args.nodes.now in
    let nodes = c.change_nodes-at.new.nodes in
    let mid = lists_of nodes c.change_nodes-at.new.children in
    let new = lists_of nodes c.join.new.children in
    record {
      tied = c.join.ensures.tied;
      each = subst (λ (g : Forest). (p : List ℕ) → names_in (new p) ≡ children_of g p) (sym c.change_nodes-at.ensures.nodes)
          (index_changed c.args.prepared.change f mid new (ascends-forest (nodes_of c.args.nodes.now.places.entries)) c.requires.may c.change_nodes-at.ensures.index.each
          (subst (λ (o : Option Place). IsJoined o mid new) c.requires.ready.0.0 c.join.ensures.list));
    }
