use Rattle.std.proofs.Common.{◌≡◌, ◌≢◌, [], Err, ap, rules}
use Rattle.hx_core.specs.Inside.{view_of}
use Rattle.hx_core.proofs.Asking.{asks_refused, asks_passed, asks_landed, asks_lost, marks_refused, marks_passed, marks_landed, marks_lost, passes_orderly}
use Rattle.hx_core.proofs.cluster.Cluster.request.Goals as goal

pub returns-in-Err-clause-simulates : goal.returns-in-Err-clause-simulates
returns-in-Err-clause-simulates g c =
    rw (← c.self.view_is) (asks_refused (view_of c.self.inside.state.state c.self.inside.workers.seen (g.K.Keeper.shown c.self.inside.keeper)) c.args.ask c.in-Err.refusal c.self.invariant.sound.world c.in-Err.ensures.refused)

pub returns-then-is_empty-clause-simulates : goal.returns-then-is_empty-clause-simulates
returns-then-is_empty-clause-simulates g c =
    let none : c.in-Ok.field-0.writes.items ≡ [] = search rules in
    rw (← c.self.view_is) (asks_passed (view_of c.self.inside.state.state c.self.inside.workers.seen (g.K.Keeper.shown c.self.inside.keeper)) c.args.ask c.in-Ok.field-0.writes.items c.in-Ok.field-0.answer c.self.invariant.sound.world c.in-Ok.ensures.passes none)

pub write-requires-clause-orderly : goal.write-requires-clause-orderly
write-requires-clause-orderly g c =
    rw (← c.self.view_is) (passes_orderly c.self.inside.state.state c.args.ask c.in-Ok.field-0.writes.items c.in-Ok.field-0.answer c.self.invariant.sound.valid c.in-Ok.ensures.passes)

pub returns-in-Ok-write-clause-simulates : goal.returns-in-Ok-write-clause-simulates
returns-in-Ok-write-clause-simulates g c =
    let landed = rw (← c.self.view_is) at c.in-Ok-write.ensures.landed in
    let marked = rw (← c.self.view_is) at c.in-Ok-write.ensures.marked in
    rw (← c.self.view_is) (asks_landed (view_of c.self.inside.state.state c.self.inside.workers.seen (g.K.Keeper.shown c.self.inside.keeper)) c.write.new.self c.args.ask c.in-Ok.field-0.writes.items c.in-Ok.field-0.answer c.self.invariant.sound.world c.in-Ok.ensures.passes landed marked)

pub returns-in-Err-write-clause-simulates : goal.returns-in-Err-write-clause-simulates
returns-in-Err-write-clause-simulates g c =
    let some : c.in-Ok.field-0.writes.items ≢ [] = search rules in
    let memory = rw (← c.self.view_is) at c.in-Err-write.ensures.memory in
    let failed = rw (← c.self.view_is) at c.in-Err-write.ensures.fault in
    let workers = rw (← c.self.view_is) at c.in-Err-write.ensures.workers in
    rw (← c.self.view_is) (asks_lost (view_of c.self.inside.state.state c.self.inside.workers.seen (g.K.Keeper.shown c.self.inside.keeper)) c.write.new.self c.args.ask c.in-Ok.field-0.writes.items c.in-Ok.field-0.answer c.in-Err-write.fault c.lost.result
    c.self.invariant.sound.world c.in-Ok.ensures.passes some (λ e. memory (ap Err e)) (λ e. failed (ap Err e)) workers c.lost.ensures.keeper c.lost.ensures.memory)

-- the keys that are marked
pub returns-in-Err-clause-marked : goal.returns-in-Err-clause-marked
returns-in-Err-clause-marked g c = rw (← c.self.view_is) (marks_refused c.self.inside.state.state c.self.inside.workers.seen c.args.ask c.in-Err.refusal c.in-Err.ensures.refused)

pub returns-then-is_empty-clause-marked : goal.returns-then-is_empty-clause-marked
returns-then-is_empty-clause-marked g c =
    let none : c.in-Ok.field-0.writes.items ≡ [] = search rules in
    rw (← c.self.view_is) (marks_passed c.self.inside.state.state c.self.inside.workers.seen c.args.ask c.in-Ok.field-0.writes.items c.in-Ok.field-0.answer c.in-Ok.ensures.passes none)

pub returns-in-Ok-write-clause-marked : goal.returns-in-Ok-write-clause-marked
returns-in-Ok-write-clause-marked g c =
    let marked = rw (← c.self.view_is) at c.in-Ok-write.ensures.marked in
    rw (← c.self.view_is) (marks_landed c.self.inside.state.state c.self.inside.workers.seen c.write.new.self.workers c.args.ask c.in-Ok.field-0.writes.items c.in-Ok.field-0.answer c.in-Ok.ensures.passes marked)

pub returns-in-Err-write-clause-marked : goal.returns-in-Err-write-clause-marked
returns-in-Err-write-clause-marked g c =
    let workers = rw (← c.self.view_is) at c.in-Err-write.ensures.workers in
    rw (← c.self.view_is) (marks_lost c.self.inside.state.state c.self.inside.workers.seen c.write.new.self.workers c.args.ask c.in-Err-write.fault c.lost.result workers c.lost.ensures.keeper c.lost.ensures.memory)
