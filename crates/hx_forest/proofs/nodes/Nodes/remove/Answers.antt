use Rattle.std.proofs.Common.{None}
use Rattle.std.proofs.lemmas.Option.{none-some}
use Rattle.hx_forest.specs.ParentRefs.{place_of}
use Rattle.hx_forest.proofs.ParentRefs.{cut_nodes, parent_refs_cut}
use Rattle.hx_forest.proofs.Notes.{notes_later}
use Rattle.hx_forest.proofs.nodes.Nodes.remove.Goals as goal

pub returns-in_err-remove-clause-nodes : goal.returns-in_err-remove-clause-nodes
returns-in_err-remove-clause-nodes c = λ n at. cut_nodes c.remove.new.self.entries c.args.self.now.places.entries n (c.remove.ensures.entries n at)

pub returns-in_err-remove-clause-parent_refs : goal.returns-in_err-remove-clause-parent_refs
returns-in_err-remove-clause-parent_refs c = λ n at. parent_refs_cut (place_of c.args.self.now) (place_of (record { places = c.remove.new.self; drawn = c.args.self.now.drawn; epoch = c.epoch_after-self.result })) c.args.self.now.drawn n (c.remove.ensures.entries n at)

pub returns-in_err-remove-clause-notes : goal.returns-in_err-remove-clause-notes
returns-in_err-remove-clause-notes c = λ n at. notes_later c.args.self.now (record { places = c.remove.new.self; drawn = c.args.self.now.drawn; epoch = c.epoch_after-self.result }) n None (c.remove.ensures.entries n at) c.epoch_after-self.ensures (λ p none. absurd (none-some p none))

pub returns-clause-nodes : goal.returns-clause-nodes
returns-clause-nodes c = λ n at. cut_nodes c.remove.new.self.entries c.args.self.now.places.entries n (c.remove.ensures.entries n at)

pub returns-clause-parent_refs : goal.returns-clause-parent_refs
returns-clause-parent_refs c = λ n at. parent_refs_cut (place_of c.args.self.now) (place_of (record { places = c.remove.new.self; drawn = c.args.self.now.drawn; epoch = c.epoch_after-self.result })) c.args.self.now.drawn n (c.remove.ensures.entries n at)

pub returns-clause-notes : goal.returns-clause-notes
returns-clause-notes c = λ n at. notes_later c.args.self.now (record { places = c.remove.new.self; drawn = c.args.self.now.drawn; epoch = c.epoch_after-self.result }) n None (c.remove.ensures.entries n at) c.epoch_after-self.ensures (λ p none. absurd (none-some p none))
