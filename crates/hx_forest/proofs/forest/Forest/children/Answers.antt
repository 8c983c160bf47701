use Rattle.std.proofs.Common.{ap, sym, ◌∙◌, subst}
use Rattle.hx_model.specs.ForestChanges.{forest_from}
use Rattle.hx_forest.specs.Names.{IsAscending}
use Rattle.hx_forest.specs.Children.{list_at, names_in}
use Rattle.hx_forest.specs.ParentRefs.{nodes_of}
use Rattle.hx_forest.proofs.NodeLookups.{ascends-forest}
use Rattle.hx_forest.proofs.Changing.{children_ascend}
use Rattle.hx_forest.proofs.forest.Forest.children.Goals as goal

pub returns-clause-order : goal.returns-clause-order
returns-clause-order c =
    let es = nodes_of c.self.inside.nodes.places.entries in
    let n = c.args.name.now in
    subst IsAscending (sym (c.of.ensures ∙ ap (λ o. names_in (list_at c.self.inside.children o n)) c.index_of.ensures ∙ c.self.invariant.0.index.each n)) (children_ascend (forest_from es) n (ascends-forest es))
