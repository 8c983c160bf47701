use Rattle.std.proofs.Common.{◌≡◌, ◌∙◌, true, Some, sym, ap, refl}
use Rattle.hx_model.specs.declared.node.Node.{Node}
use Rattle.hx_forest.specs.NodeTable.{terminating}
use Rattle.hx_forest.specs.ParentRefs.{index_at}
use Rattle.std.specs.Map.{keys_of}
use Rattle.hx_forest.proofs.Slots.{keys_changed}
use Rattle.hx_forest.proofs.ParentRefs.{among_indices, parent_refs_changed, nodes_changed}
use Rattle.hx_forest.proofs.Notes.{later_changed}
use Rattle.hx_forest.proofs.nodes.Nodes.set_terminating.Goals as goal

pub returns-in-Some-clause-nodes : goal.returns-in-Some-clause-nodes
returns-in-Some-clause-nodes c =
    let old = c.args.self.now in
    let name = c.args.name.now in
    let at : index_at old (Some name) ≡ Some c.in-Some.at = sym c.index_of.ensures ∙ c.in-Some.is in
    nodes_changed old (record old { places = c.set_terminating.new.self; epoch = c.epoch_after-self.result }) name c.in-Some.at terminating at c.set_terminating.ensures.entries (λ (n : Node). record n { terminating = true }) (λ p. refl)

pub returns-in-Some-clause-parent_refs : goal.returns-in-Some-clause-parent_refs
returns-in-Some-clause-parent_refs c = λ links.
    let old = c.args.self.now in
    let name = c.args.name.now in
    let at : index_at old (Some name) ≡ Some c.in-Some.at = sym c.index_of.ensures ∙ c.in-Some.is in
    parent_refs_changed old (record old { places = c.set_terminating.new.self; epoch = c.epoch_after-self.result }) name c.in-Some.at terminating at c.set_terminating.ensures.entries refl (λ p. refl)
    (λ p there. (links.parent_refs name p there, links.ups name p there)) links

pub returns-in-Some-clause-notes : goal.returns-in-Some-clause-notes
returns-in-Some-clause-notes c =
    let old = c.args.self.now in
    let name = c.args.name.now in
    let at : index_at old (Some name) ≡ Some c.in-Some.at = sym c.index_of.ensures ∙ c.in-Some.is in
    later_changed old (record old { places = c.set_terminating.new.self; epoch = c.epoch_after-self.result }) name c.in-Some.at terminating at c.set_terminating.ensures.entries c.epoch_after-self.ensures (λ p. refl)

pub returns-in_default-clause-nodes : goal.returns-in_default-clause-nodes
returns-in_default-clause-nodes c = absurd (among_indices c.args.self.now c.args.name.now c.requires (sym c.index_of.ensures ∙ c.in_default.is))

pub returns-in_default-clause-notes : goal.returns-in_default-clause-notes
returns-in_default-clause-notes c = absurd (among_indices c.args.self.now c.args.name.now c.requires (sym c.index_of.ensures ∙ c.in_default.is))

pub returns-in-Some-clause-names : goal.returns-in-Some-clause-names
returns-in-Some-clause-names c = ap keys_of c.set_terminating.ensures.entries ∙ keys_changed terminating c.in-Some.at c.args.self.now.places.entries
