use Rattle.std.proofs.Common.{◌≡◌, ◌+◌, ◌∷◌, [], Err, ap, ◌∙◌}
use Rattle.std.specs.Prelude.{option_copied}
use Rattle.hx_model.specs.Hands.{versioned}
use Rattle.hx_core.specs.Inside.{view_of}
use Rattle.hx_core.proofs.Attempting.{hand_of_state, make_orderly, may_make, own_wants_none, some_write, tried_written, tried_failed}
use Rattle.hx_core.proofs.cluster.Cluster.make.Goals as goal

pub write-requires-clause-may : goal.write-requires-clause-may
write-requires-clause-may g c =
    let requires = rw (← c.self.view_is) at c.requires in
    let is : c.in-Ok.writes.items ≡ versioned (c.self.inside.state.state.last + 1) c.args.write ∷ [] = c.in-Ok.ensures ∙ ap (λ n. versioned (n + 1) c.args.write ∷ []) c.version-last.ensures in
    rw (← c.self.view_is) (may_make c.self.inside.state.state c.args.worker c.args.brief.now c.args.write c.in-Ok.writes.items (hand_of_state c.self.inside.state.state c.args.worker c.self.inside.workers.seen.hands c.args.brief.now c.self.invariant.sound.taken requires.hand) requires.planned requires.may requires.fits is)

pub write-requires-clause-orderly : goal.write-requires-clause-orderly
write-requires-clause-orderly g c =
    let requires = rw (← c.self.view_is) at c.requires in
    let is : c.in-Ok.writes.items ≡ versioned (c.self.inside.state.state.last + 1) c.args.write ∷ [] = c.in-Ok.ensures ∙ ap (λ n. versioned (n + 1) c.args.write ∷ []) c.version-last.ensures in
    rw (← c.self.view_is) (make_orderly c.self.inside.state.state c.args.worker c.args.brief.now c.args.write c.in-Ok.writes.items (hand_of_state c.self.inside.state.state c.args.worker c.self.inside.workers.seen.hands c.args.brief.now c.self.invariant.sound.taken requires.hand) requires.planned requires.may is)

pub write-requires-clause-some : goal.write-requires-clause-some
write-requires-clause-some g c = some_write c.in-Ok.writes.items (versioned (c.version-last.result + 1) c.args.write) c.in-Ok.ensures

pub write-requires-clause-own : goal.write-requires-clause-own
write-requires-clause-own g c =
    let requires = rw (← c.self.view_is) at c.requires in
    let is : c.in-Ok.writes.items ≡ versioned (c.self.inside.state.state.last + 1) c.args.write ∷ [] = c.in-Ok.ensures ∙ ap (λ n. versioned (n + 1) c.args.write ∷ []) c.version-last.ensures in
    let own = rw (c.version-last.ensures) at c.own_of.ensures in
    rw (← c.self.view_is) (own_wants_none c.self.inside.state.state c.args.worker c.args.brief.now c.args.write c.in-Ok.writes.items (option_copied c.own_of.result) c.self.invariant.sound.valid (hand_of_state c.self.inside.state.state c.args.worker c.self.inside.workers.seen.hands c.args.brief.now c.self.invariant.sound.taken requires.hand) requires.planned is own)

pub returns-in-Ok-write : goal.returns-in-Ok-write
returns-in-Ok-write g c =
    let requires = rw (← c.self.view_is) at c.requires in
    let is : c.in-Ok.writes.items ≡ versioned (c.self.inside.state.state.last + 1) c.args.write ∷ [] = c.in-Ok.ensures ∙ ap (λ n. versioned (n + 1) c.args.write ∷ []) c.version-last.ensures in
    let landed = rw (← c.self.view_is) at c.in-Ok-write.ensures.landed in
    let marked = rw (← c.self.view_is) at c.in-Ok-write.ensures.marked in
    rw (← c.self.view_is) (tried_written (view_of c.self.inside.state.state c.self.inside.workers.seen (g.K.Keeper.shown c.self.inside.keeper)) c.write.new.self c.args.worker c.args.brief.now c.args.write c.in-Ok.writes.items (c.version-last.result + 1) (hand_of_state c.self.inside.state.state c.args.worker c.self.inside.workers.seen.hands c.args.brief.now c.self.invariant.sound.taken requires.hand) requires.planned requires.may requires.fits
    (ap (λ n. n + 1) c.version-last.ensures) is landed marked)

pub returns-in-Err-write : goal.returns-in-Err-write
returns-in-Err-write g c =
    let requires = rw (← c.self.view_is) at c.requires in
    let is : c.in-Ok.writes.items ≡ versioned (c.self.inside.state.state.last + 1) c.args.write ∷ [] = c.in-Ok.ensures ∙ ap (λ n. versioned (n + 1) c.args.write ∷ []) c.version-last.ensures in
    let memory = rw (← c.self.view_is) at c.in-Err-write.ensures.memory in
    let failed = rw (← c.self.view_is) at c.in-Err-write.ensures.fault in
    let workers = rw (← c.self.view_is) at c.in-Err-write.ensures.workers in
    rw (← c.self.view_is) (tried_failed (view_of c.self.inside.state.state c.self.inside.workers.seen (g.K.Keeper.shown c.self.inside.keeper)) c.write.new.self c.args.worker c.args.brief.now c.args.write c.in-Ok.writes.items c.in-Err-write.fault c.lost_by.result requires.may requires.fits is (λ e. memory (ap Err e)) (λ e. failed (ap Err e)) workers c.lost_by.ensures.keeper c.lost_by.ensures.memory)
