use Rattle.std.proofs.Common.{◌≡◌, ◌∙◌, List, ℕ, Option, Some, option_copied, option_map, ap, sym, subst}
use Rattle.hx_model.specs.Forest.{parent_of}
use Rattle.hx_forest.specs.Children.{lists_of, names_in, Fits}
use Rattle.hx_forest.specs.Staged.{IsLeft}
use Rattle.hx_forest.specs.ParentRefs.{nodes_of, forest_of, index_at, parent_in}
use Rattle.hx_forest.proofs.NodeLookups.{ascends-forest}
use Rattle.hx_forest.proofs.Slots.{index_keys}
use Rattle.hx_forest.proofs.ParentRefs.{among_indices, parent_at_name}
use Rattle.hx_forest.proofs.Indexing.{lists_named, tied_named, within_lists}
use Rattle.hx_forest.proofs.Changing.{parent_set, index_parted}
use Rattle.hx_forest.proofs.prepared.set_parent.Goals as goal

pub returns-in_err-at-clause-nodes : goal.returns-in_err-at-clause-nodes
returns-in_err-at-clause-nodes c = absurd (among_indices c.args.nodes.now c.args.name.now c.requires.there (sym c.index_of.ensures ∙ c.in_err-at.was))

pub returns-in_err-at-clause-index : goal.returns-in_err-at-clause-index
returns-in_err-at-clause-index c = absurd (among_indices c.args.nodes.now c.args.name.now c.requires.there (sym c.index_of.ensures ∙ c.in_err-at.was))

pub returns-in_err-at-clause-at : goal.returns-in_err-at-clause-at
returns-in_err-at-clause-at c = absurd (among_indices c.args.nodes.now c.args.name.now c.requires.there (sym c.index_of.ensures ∙ c.in_err-at.was))

pub unlink-requires : goal.unlink-requires
unlink-requires c = within_lists c.args.nodes.now c.args.children.now (parent_in c.args.nodes.now (Some c.in_ok-at.at)) c.above-above.result c.requires.index.tied c.above-above.ensures

pub returns-clause-index : goal.returns-clause-index
returns-clause-index c =
    let nodes = c.args.nodes.now in
    let after = c.set_parent-old.new.self in
    let name = c.args.name.now in
    let old = lists_of nodes c.args.children.now in
    let new = lists_of nodes c.unlink.new.children in
    let names = c.set_parent-old.ensures.names in
    let was : option_copied c.as_ref.result ≡ parent_in nodes (Some c.in_ok-at.at) = c.as_ref.ensures.value ∙ c.set_parent-old.ensures.old in
    let above : c.above-above.result ≡ index_at nodes (option_copied c.as_ref.result) = c.above-above.ensures ∙ ap (index_at nodes) (sym was) in
    let here : index_at nodes (Some name) ≡ Some c.in_ok-at.at = sym c.index_of.ensures ∙ c.in_ok-at.was in
    let left : IsLeft (option_map (λ p. (p, name)) (parent_of (forest_of nodes) name)) old new =
    subst (λ (o : Option (List ℕ)). IsLeft (option_map (λ p. (p, name)) o) old new) (was ∙ sym (parent_at_name nodes name c.in_ok-at.at here)) (c.unlink.ensures.list nodes above) in
    record {
      tied = tied_named nodes after c.unlink.new.children names (c.unlink.ensures.tied nodes above c.requires.index.tied);
      each = λ q. ap names_in (lists_named nodes after c.unlink.new.children names q) ∙ index_parted old new (forest_of nodes) name (ascends-forest (nodes_of nodes.places.entries)) c.requires.there c.requires.index.each left q;
    }

pub returns-clause-at : goal.returns-clause-at
returns-clause-at c =
    let nodes = c.args.nodes.now in
    let after = c.set_parent-old.new.self in
    let name = c.args.name.now in
    let i = c.in_ok-at.at in
    let here : index_at nodes (Some name) ≡ Some i = sym c.index_of.ensures ∙ c.in_ok-at.was in
    parent_set after (forest_of nodes) name c.args.parent i c.requires.there (c.set_parent-old.ensures.nodes name here) (index_keys nodes.places.entries after.places.entries name c.set_parent-old.ensures.names ∙ here)

pub returns-clause-fits : goal.returns-clause-fits
returns-clause-fits c = λ k q fits.
    let nodes = c.args.nodes.now in
    let above : c.above-above.result ≡ index_at nodes (option_copied c.as_ref.result) = c.above-above.ensures ∙ ap (index_at nodes) (sym (c.as_ref.ensures.value ∙ c.set_parent-old.ensures.old)) in
    subst (Fits k) (sym (lists_named nodes c.set_parent-old.new.self c.unlink.new.children c.set_parent-old.ensures.names q)) (c.unlink.ensures.fits nodes above k q fits)
