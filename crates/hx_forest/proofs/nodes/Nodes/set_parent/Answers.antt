use Rattle.std.proofs.Common.{◌≡◌, ◌∙◌, ap, refl}
use Rattle.std.specs.Map.{keys_of}
use Rattle.hx_model.specs.declared.node.Node.{Node}
use Rattle.hx_forest.specs.NodeTable.{changed_at, with_up, below}
use Rattle.hx_forest.specs.ParentRefs.{place_of, number_at}
use Rattle.hx_forest.proofs.Placing.{changed_twice}
use Rattle.hx_forest.proofs.Slots.{keys_changed}
use Rattle.hx_forest.proofs.ParentRefs.{up_by_number, parent_refs_changed, nodes_changed}
use Rattle.hx_forest.proofs.Notes.{later_changed}
use Rattle.hx_forest.proofs.nodes.Nodes.set_parent.Goals as goal

pub returns-clause-nodes : goal.returns-clause-nodes
returns-clause-nodes c = λ n at.
    let old = c.args.self.now in
    let i = c.args.at in
    let parent = c.args.parent in
    let up = c.parent_ref_to-up.result in
    let is : c.set_up.new.self.entries ≡ changed_at (λ p. with_up up (below parent p)) i old.places.entries =
    c.set_up.ensures.entries ∙ ap (changed_at (with_up up) i) c.set_parent-old.ensures.entries ∙ changed_twice (below parent) (with_up up) i old.places.entries in
    nodes_changed old (record old { places = c.set_up.new.self; epoch = c.epoch_after-self.result }) n i (λ p. with_up up (below parent p)) at is (λ (n : Node). record n { parent = parent }) (λ p. refl)

pub returns-clause-names : goal.returns-clause-names
returns-clause-names c =
    let i = c.args.at in
    ap keys_of c.set_up.ensures.entries ∙ keys_changed (with_up c.parent_ref_to-up.result) i c.set_parent-old.new.self.entries ∙ ap keys_of c.set_parent-old.ensures.entries ∙ keys_changed (below c.args.parent) i c.args.self.now.places.entries

pub returns-clause-parent_refs : goal.returns-clause-parent_refs
returns-clause-parent_refs c = λ n at links.
    let old = c.args.self.now in
    let i = c.args.at in
    let parent = c.args.parent in
    let up = c.parent_ref_to-up.result in
    let is : c.set_up.new.self.entries ≡ changed_at (λ p. with_up up (below parent p)) i old.places.entries =
    c.set_up.ensures.entries ∙ ap (changed_at (with_up up) i) c.set_parent-old.ensures.entries ∙ changed_twice (below parent) (with_up up) i old.places.entries in
    parent_refs_changed old (record old { places = c.set_up.new.self; epoch = c.epoch_after-self.result }) n i (λ p. with_up up (below parent p)) at is refl (λ p. refl)
    (λ p there. let found = up_by_number (place_of old) old.drawn (with_up up (below parent p)) (c.parent_ref_to-up.ensures ∙ ap (number_at old) c.as_ref.ensures.value) links in (found.1, found.0)) links

pub returns-clause-notes : goal.returns-clause-notes
returns-clause-notes c = λ n at.
    let old = c.args.self.now in
    let i = c.args.at in
    let parent = c.args.parent in
    let up = c.parent_ref_to-up.result in
    let is : c.set_up.new.self.entries ≡ changed_at (λ p. with_up up (below parent p)) i old.places.entries =
    c.set_up.ensures.entries ∙ ap (changed_at (with_up up) i) c.set_parent-old.ensures.entries ∙ changed_twice (below parent) (with_up up) i old.places.entries in
    later_changed old (record old { places = c.set_up.new.self; epoch = c.epoch_after-self.result }) n i (λ p. with_up up (below parent p)) at is c.epoch_after-self.ensures (λ p. refl)
