use Rattle.std.proofs.Common.{◌∙◌, refl, ap, arith}
use Rattle.hx_forest.specs.NodeTable.{with_noted}
use Rattle.std.specs.Map.{keys_of}
use Rattle.hx_forest.proofs.Slots.{keys_changed}
use Rattle.hx_forest.proofs.ParentRefs.{parent_refs_changed, nodes_same}
use Rattle.hx_forest.proofs.Notes.{kept_changed}
use Rattle.hx_forest.proofs.nodes.Nodes.set_noted.Goals as goal

pub returns-clause-nodes : goal.returns-clause-nodes
returns-clause-nodes c =
    let old = c.args.self.now in
    nodes_same old (record old { places = c.set_noted.new.self }) c.requires.0 c.args.at (with_noted old.epoch) c.requires.1 c.set_noted.ensures.entries (λ p. refl)

pub returns-clause-parent_refs : goal.returns-clause-parent_refs
returns-clause-parent_refs c = λ links.
    let old = c.args.self.now in
    parent_refs_changed old (record old { places = c.set_noted.new.self }) c.requires.0 c.args.at (with_noted old.epoch) c.requires.1 c.set_noted.ensures.entries refl (λ p. refl)
    (λ p there. (links.parent_refs c.requires.0 p there, links.ups c.requires.0 p there)) links

pub returns-clause-notes : goal.returns-clause-notes
returns-clause-notes c = λ notes.
    let old = c.args.self.now in
    kept_changed old (record old { places = c.set_noted.new.self }) c.requires.0 c.args.at (with_noted old.epoch) c.requires.1 c.set_noted.ensures.entries refl (returns-clause-nodes c)
    (λ p there pos. (omega arith, λ _. c.requires.2)) notes

pub returns-clause-names : goal.returns-clause-names
returns-clause-names c = ap keys_of c.set_noted.ensures.entries ∙ keys_changed (with_noted c.args.self.now.epoch) c.args.at c.args.self.now.places.entries
