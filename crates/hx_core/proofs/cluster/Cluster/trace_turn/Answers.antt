use Rattle.std.proofs.Common.{◌++◌, ◌∷◌, [], refl, ap, ◌∙◌, subst}
use Rattle.hx_core.specs.Settling.{IsTurn}
use Rattle.hx_core.proofs.Settled.{trace_lacks, trace_over, trace_none, trace_some}
use Rattle.hx_core.proofs.Simulating.{HasWorld-after}
use Rattle.hx_core.proofs.Turning.{loses}
use Rattle.hx_core.proofs.cluster.Cluster.trace_turn.Goals as goal

pub returns-then-is_err-clause-end : goal.returns-then-is_err-clause-end
returns-then-is_err-clause-end g c = trace_lacks c.args.self.now c.args.trace.now.items c.reserve.new.self.items (loses c.args.self.now c.args.self.now 0 c.law_of_worlds.ensures.world refl) c.reserve.ensures.items

-- a turn was made
pub returns-in-Made-clause-turn : goal.returns-in-Made-clause-turn
returns-in-Made-clause-turn g c =
    let made = subst (λ r. IsTurn c.args.self.now r c.turn.new.self) c.in-Made.is c.turn.ensures in
    trace_none c.args.self.now c.turn.new.self c.args.trace.now.items c.note.new.trace.items c.in-Made.turned made.simulates made.leaves (c.note.ensures ∙ ap (λ xs. xs ++ c.in-Made.turned ∷ []) c.reserve.ensures.items) made.counts c.end_of.result c.end_of.ensures

pub returns-in-Made-clause-end : goal.returns-in-Made-clause-end
returns-in-Made-clause-end g c =
    let made = subst (λ r. IsTurn c.args.self.now r c.turn.new.self) c.in-Made.is c.turn.ensures in
    trace_some c.args.self.now c.turn.new.self c.args.trace.now.items c.note.new.trace.items c.in-Made.turned made.simulates made.leaves (c.note.ensures ∙ ap (λ xs. xs ++ c.in-Made.turned ∷ []) c.reserve.ensures.items) made.counts c.end_of.result c.end_of.ensures
    (loses c.turn.new.self c.turn.new.self 0 (HasWorld-after c.args.self.now c.turn.new.self _ made.simulates) refl)

-- none was
pub returns-in-Over-clause-end : goal.returns-in-Over-clause-end
returns-in-Over-clause-end g c =
    let over = subst (λ r. IsTurn c.args.self.now r c.turn.new.self) c.in-Over.is c.turn.ensures in
    trace_over c.args.self.now c.turn.new.self c.args.trace.now.items c.reserve.new.self.items c.in-Over.end over.simulates over.leaves over.over c.reserve.ensures.items
