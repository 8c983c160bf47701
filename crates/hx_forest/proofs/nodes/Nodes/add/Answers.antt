use Rattle.std.proofs.Common.{◌≡◌, ◌∙◌, ◌++◌, ◌∷◌, [], cond, length, Some, ap, sym, subst, ℕ, ◌<◌, ◌≤◌, arith}
use Rattle.std.specs.Map.{keys_of, lookup}
use Rattle.std.specs.Str.{bytes_eq}
use Rattle.std.proofs.lemmas.Option.{same_Some}
use Rattle.hx_forest.specs.NodeTable.{Place, index_in}
use Rattle.hx_forest.specs.ParentRefs.{place_of, number_at}
use Rattle.hx_forest.proofs.Placing.{look_added}
use Rattle.hx_model.proofs.Climbing.{same_itself}
use Rattle.hx_forest.proofs.Slots.{keys_push, index_push, index_none}
use Rattle.hx_forest.proofs.ParentRefs.{absent_place, put_nodes, parent_refs_add, up_by_number}
use Rattle.hx_forest.proofs.Notes.{notes_later}
use Rattle.hx_forest.proofs.nodes.Nodes.add.Goals as goal

pub add-requires-clause-absent : goal.add-requires-clause-absent
add-requires-clause-absent c = ap (λ m. lookup (bytes_eq c.args.name) m.entries) c.draw-number.ensures.places ∙ absent_place c.args.self.now c.args.name c.requires.absent

pub returns-clause-nodes : goal.returns-clause-nodes
returns-clause-nodes c =
    let name = c.args.name in
    let old = c.args.self.now in
    let place : Place = record { node = c.args.node; number = c.draw-number.result; up = c.parent_ref_to-up.result; noted = 0 } in
    let found = look_added c.add.new.self.entries c.draw-number.new.self.places.entries old.places.entries name place c.add.ensures.entries (ap (λ m. m.entries) c.draw-number.ensures.places) (absent_place old name c.requires.absent) in
    put_nodes c.add.new.self.entries old.places.entries name place found

pub returns-clause-parent_refs : goal.returns-clause-parent_refs
returns-clause-parent_refs c = λ links.
    let old = c.args.self.now in
    let name = c.args.name in
    let place : Place = record { node = c.args.node; number = c.draw-number.result; up = c.parent_ref_to-up.result; noted = 0 } in
    let found = look_added c.add.new.self.entries c.draw-number.new.self.places.entries old.places.entries name place c.add.ensures.entries (ap (λ m. m.entries) c.draw-number.ensures.places) (absent_place old name c.requires.absent) in
    let parent_ref : place.up.number ≡ number_at old place.node.parent = c.parent_ref_to-up.ensures ∙ ap (number_at old) c.as_ref.ensures.value in
    let up = up_by_number (place_of old) old.drawn place parent_ref links in
    parent_refs_add (place_of old) (place_of (record { places = c.add.new.self; drawn = c.draw-number.new.self.drawn; epoch = c.epoch_after-self.result })) old.drawn c.draw-number.new.self.drawn name place found
    c.draw-number.ensures.grows c.draw-number.ensures.within c.draw-number.ensures.fresh up.1 up.0 links

pub returns-clause-notes : goal.returns-clause-notes
returns-clause-notes c =
    let old = c.args.self.now in
    let name = c.args.name in
    let place : Place = record { node = c.args.node; number = c.draw-number.result; up = c.parent_ref_to-up.result; noted = 0 } in
    let found = look_added c.add.new.self.entries c.draw-number.new.self.places.entries old.places.entries name place c.add.ensures.entries (ap (λ m. m.entries) c.draw-number.ensures.places) (absent_place old name c.requires.absent) in
    notes_later old (record { places = c.add.new.self; drawn = c.draw-number.new.self.drawn; epoch = c.epoch_after-self.result }) name (Some place) found
    (subst (λ (s : ℕ). 0 < c.epoch_after-self.result → (0 < s) × (s < c.epoch_after-self.result)) c.draw-number.ensures.epoch c.epoch_after-self.ensures)
    (λ p same pos. subst (λ (x : Place). x.noted ≤ old.epoch) (same_Some place p same) (omega arith))

pub returns-clause-at : goal.returns-clause-at
returns-clause-at c =
    let old = c.args.self.now.places.entries in
    let name = c.args.name in
    let names : keys_of c.add.new.self.entries ≡ keys_of old ++ name ∷ [] = ap keys_of c.add.ensures.entries ∙ keys_push c.draw-number.new.self.places.entries name _ ∙ ap (λ m. keys_of m.entries ++ name ∷ []) c.draw-number.ensures.places in
    index_push old c.add.new.self.entries name name names (index_none old name (absent_place c.args.self.now name c.requires.absent))
    ∙ ap (λ b. cond b (Some (length old)) (index_in old name)) (same_itself name) ∙ ap Some (sym c.len-at.ensures.len)
