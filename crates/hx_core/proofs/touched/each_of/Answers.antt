use Rattle.std.proofs.Common.{refl}
use Rattle.std.specs.Prelude.{option_copied}
use Rattle.hx_model.specs.State.{state_after}
use Rattle.hx_core.proofs.Reached.{ranks_same, ready_each, scope_same}
use Rattle.hx_core.proofs.touched.each_of.Goals as goal

pub returns-clause-ready : goal.returns-clause-ready
returns-clause-ready c =
    let after = state_after c.args.state.now.state c.args.writes.now in
    ready_each c.args.state.now.state c.args.writes.now (option_copied c.args.own) c.in_ok-keys.keys.items c.keys_of.new.workers c.in_ok-keys.ensures.keys c.in_ok-keys.ensures.room
    (scope_same after after c.outdate_for.new.workers.scope c.keys_of.new.workers.scope refl c.keys_of.ensures.scope (c.outdate_for.ensures.after c.args.state.now.state c.requires.scope))
    (ranks_same after after c.outdate_for.new.workers.ranks c.keys_of.new.workers.ranks refl c.keys_of.ensures.ranks (c.outdate_for.ensures.ranked_after c.args.state.now.state c.requires.ranks))
