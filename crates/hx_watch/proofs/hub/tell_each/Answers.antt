use Rattle.std.proofs.Common.{[], ◌∷◌, arith}
use Rattle.hx_watch.proofs.Following.{told-next}
use Rattle.hx_watch.proofs.hub.tell_each.Goals as goal

pub loop-i-preserved : goal.loop-i-preserved
loop-i-preserved g c =
    let next = told-next (c.args.event.now ∷ []) c.args.members.now c.loop-i.members c.loop-i.i c.index-members-i.result c.tell.new.self (omega arith) c.tell.ensures c.loop-i.invariant.told c.loop-i.invariant.rest in
    record { told = next.0; rest = next.1 }
