use Rattle.hx_forest.proofs.Readiness.{ready_named}
use Rattle.hx_forest.proofs.forest.Forest.note.Goals as goal

pub invariant_of-self : goal.invariant_of-self
invariant_of-self c =
    let inside = c.self.inside in
    (ready_named inside.nodes c.note.new.self inside.children inside.staged.items c.note.ensures.names c.note.ensures.nodes c.note.ensures.room c.self.invariant.0, c.note.ensures.parent_refs, c.note.ensures.notes)
