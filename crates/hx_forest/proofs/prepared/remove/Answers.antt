use Rattle.std.proofs.Common.{◌≡◌, ◌∙◌, List, ℕ, Option, Some, option_copied, option_map, ap, sym, subst, arith}
use Rattle.hx_model.specs.Forest.{parent_of}
use Rattle.hx_forest.specs.Children.{lists_of}
use Rattle.hx_forest.specs.NodeTable.{IsCut}
use Rattle.hx_forest.specs.Staged.{IsLeft}
use Rattle.hx_forest.specs.ParentRefs.{nodes_of, forest_of, index_at, parent_in}
use Rattle.hx_forest.proofs.NodeLookups.{ascends-forest}
use Rattle.hx_forest.proofs.Slots.{index_within, cut_names}
use Rattle.hx_forest.proofs.ParentRefs.{among_indices, parent_at_name}
use Rattle.hx_forest.proofs.Indexing.{within_lists}
use Rattle.hx_forest.proofs.Entering.{carries_out, tied_left}
use Rattle.hx_forest.proofs.Changing.{index_removed}
use Rattle.hx_forest.proofs.prepared.remove.Goals as goal

pub returns-in_default-clause-nodes : goal.returns-in_default-clause-nodes
returns-in_default-clause-nodes c = absurd (among_indices c.args.nodes.now c.args.name c.requires.there (sym c.index_of.ensures ∙ c.in_default.is))

pub returns-in_default-clause-index : goal.returns-in_default-clause-index
returns-in_default-clause-index c = absurd (among_indices c.args.nodes.now c.args.name c.requires.there (sym c.index_of.ensures ∙ c.in_default.is))

pub unlink-requires : goal.unlink-requires
unlink-requires c = within_lists c.args.nodes.now c.args.children.now (parent_in c.args.nodes.now (Some c.in-Some.at)) c.above-above.result c.requires.index.tied c.above-above.ensures

pub leave-requires-clause-there : goal.leave-requires-clause-there
leave-requires-clause-there c =
    let nodes = c.args.nodes.now in
    let name = c.args.name in
    let here : index_at nodes (Some name) ≡ Some c.in-Some.at = sym c.index_of.ensures ∙ c.in-Some.is in
    let was : option_copied c.as_ref.result ≡ parent_in nodes (Some c.in-Some.at) = c.as_ref.ensures.value ∙ c.remove-old.ensures.old in
    let tied = c.unlink.ensures.tied nodes (c.above-above.ensures ∙ ap (index_at nodes) (sym was)) c.requires.index.tied in
    let within = index_within nodes.places.entries name c.in-Some.at here in
    omega (arith, within, tied.as_many)

pub returns-clause-index : goal.returns-clause-index
returns-clause-index c =
    let nodes = c.args.nodes.now in
    let after = c.find_parent_refs_to.new.nodes in
    let name = c.args.name in
    let i = c.in-Some.at in
    let mid = c.unlink.new.children in
    let old = lists_of nodes c.args.children.now in
    let new = lists_of nodes mid in
    let here : index_at nodes (Some name) ≡ Some i = sym c.index_of.ensures ∙ c.in-Some.is in
    let was : option_copied c.as_ref.result ≡ parent_in nodes (Some i) = c.as_ref.ensures.value ∙ c.remove-old.ensures.old in
    let above : c.above-above.result ≡ index_at nodes (option_copied c.as_ref.result) = c.above-above.ensures ∙ ap (index_at nodes) (sym was) in
    let left : IsLeft (option_map (λ p. (p, name)) (parent_of (forest_of nodes) name)) old new =
    subst (λ (o : Option (List ℕ)). IsLeft (option_map (λ p. (p, name)) o) old new) (was ∙ sym (parent_at_name nodes name i here)) (c.unlink.ensures.list nodes above) in
    let cut : IsCut nodes.places.entries after.places.entries name i =
    cut_names nodes.places.entries c.remove-old.new.self.places.entries after.places.entries name i c.find_parent_refs_to.ensures.names (c.remove-old.ensures.cut name here) in
    let tied = c.unlink.ensures.tied nodes above c.requires.index.tied in
    record {
      tied = tied_left nodes after mid c.leave.new.self name i cut here tied c.leave.ensures.list;
      each = λ q. (carries_out nodes after mid c.leave.new.self name i cut here tied c.leave.ensures.list q).names
          ∙ index_removed old new (forest_of nodes) name (ascends-forest (nodes_of nodes.places.entries)) c.requires.index.each left q;
    }

pub returns-clause-fits : goal.returns-clause-fits
returns-clause-fits c = λ k q fits.
    let nodes = c.args.nodes.now in
    let after = c.find_parent_refs_to.new.nodes in
    let name = c.args.name in
    let i = c.in-Some.at in
    let here : index_at nodes (Some name) ≡ Some i = sym c.index_of.ensures ∙ c.in-Some.is in
    let was : option_copied c.as_ref.result ≡ parent_in nodes (Some i) = c.as_ref.ensures.value ∙ c.remove-old.ensures.old in
    let above : c.above-above.result ≡ index_at nodes (option_copied c.as_ref.result) = c.above-above.ensures ∙ ap (index_at nodes) (sym was) in
    let cut : IsCut nodes.places.entries after.places.entries name i =
    cut_names nodes.places.entries c.remove-old.new.self.places.entries after.places.entries name i c.find_parent_refs_to.ensures.names (c.remove-old.ensures.cut name here) in
    (carries_out nodes after c.unlink.new.children c.leave.new.self name i cut here (c.unlink.ensures.tied nodes above c.requires.index.tied) c.leave.ensures.list q).fits k (c.unlink.ensures.fits nodes above k q fits)
