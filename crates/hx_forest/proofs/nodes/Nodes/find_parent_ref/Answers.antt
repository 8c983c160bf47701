use Rattle.std.proofs.Common.{◌≡◌, ◌∙◌, Option, Some, ap, sym, refl}
use Rattle.std.specs.Prelude.{option_and_then}
use Rattle.hx_forest.specs.NodeTable.{Place, with_up}
use Rattle.hx_forest.specs.ParentRefs.{place_of, number_at, index_at, place_in, parent_in}
use Rattle.std.specs.Map.{keys_of}
use Rattle.hx_forest.proofs.Slots.{keys_changed}
use Rattle.hx_forest.proofs.ParentRefs.{place_at_name, up_by_number, parent_refs_changed, nodes_same}
use Rattle.hx_forest.proofs.Notes.{kept_changed}
use Rattle.hx_forest.proofs.nodes.Nodes.find_parent_ref.Goals as goal

pub returns-clause-nodes : goal.returns-clause-nodes
returns-clause-nodes c =
    let old = c.args.self.now in
    let at : index_at old (Some c.args.name.now) ≡ Some c.in-Some.at = sym c.index_of.ensures ∙ c.in-Some.is in
    nodes_same old (record old { places = c.set_up.new.self }) c.args.name.now c.in-Some.at (with_up c.parent_ref_to-up.result) at c.set_up.ensures.entries (λ p. refl)

pub returns-clause-parent_refs : goal.returns-clause-parent_refs
returns-clause-parent_refs c = λ links.
    let old = c.args.self.now in
    let name = c.args.name.now in
    let up = c.parent_ref_to-up.result in
    let at : index_at old (Some name) ≡ Some c.in-Some.at = sym c.index_of.ensures ∙ c.in-Some.is in
    parent_refs_changed old (record old { places = c.set_up.new.self }) name c.in-Some.at (with_up up) at c.set_up.ensures.entries refl (λ p. refl)
    (λ p there.
    let named : parent_in old (Some c.in-Some.at) ≡ p.node.parent =
    ap (λ (o : Option Place). option_and_then (λ p. p.node.parent) o) (ap (place_in old) (sym at) ∙ place_at_name old (Some name) ∙ there) in
    let found = up_by_number (place_of old) old.drawn (with_up up p) (c.parent_ref_to-up.ensures ∙ ap (number_at old) (c.parent_in.ensures ∙ named)) links in
    (found.1, found.0)) links

pub returns-clause-notes : goal.returns-clause-notes
returns-clause-notes c = λ notes.
    let old = c.args.self.now in
    let name = c.args.name.now in
    let at : index_at old (Some name) ≡ Some c.in-Some.at = sym c.index_of.ensures ∙ c.in-Some.is in
    kept_changed old (record old { places = c.set_up.new.self }) name c.in-Some.at (with_up c.parent_ref_to-up.result) at c.set_up.ensures.entries refl (returns-clause-nodes c) (notes.each name) notes

pub returns-clause-names : goal.returns-clause-names
returns-clause-names c = ap keys_of c.set_up.ensures.entries ∙ keys_changed (with_up c.parent_ref_to-up.result) c.in-Some.at c.args.self.now.places.entries
