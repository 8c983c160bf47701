use Rattle.std.specs.Prelude.{option_copied}
use Rattle.hx_core.proofs.Committing.{sound_committed, marked_committed, same_committed}
use Rattle.hx_core.proofs.cluster.Cluster.write.Goals as goal

pub invariant_of-self : goal.invariant_of-self
invariant_of-self g c =
    let requires = rw (← c.self.view_is) at c.requires in
    record {
      sound = sound_committed c.self.inside.state.state c.write_marked.new.state.state c.self.inside.workers.seen c.write_marked.new.workers.seen c.args.writes.items (option_copied c.args.own) (g.K.Keeper.shown c.self.inside.keeper) (g.K.Keeper.shown c.write_marked.new.keeper)
          c.self.inside.state.staged c.write_marked.new.state.staged c.write_marked.result c.self.invariant.sound requires.may requires.orderly requires.some requires.own c.write_marked.ensures.staged c.write_marked.ensures.landed c.write_marked.ensures.marked c.write_marked.ensures.seen
          c.write_marked.ensures.state c.write_marked.ensures.keeper c.write_marked.ensures.fault;
      scope = c.write_marked.ensures.scope;
      ranks = c.write_marked.ensures.ranks;
    }

pub returns-clause-marked : goal.returns-clause-marked
returns-clause-marked g c =
    let requires = rw (← c.self.view_is) at c.requires in
    rw (← c.self.view_is) (marked_committed c.self.inside.state.state c.self.inside.workers.seen c.write_marked.new.workers.seen c.args.writes.items (option_copied c.args.own) c.write_marked.result requires.orderly requires.some c.write_marked.ensures.marked)

pub returns-clause-memory : goal.returns-clause-memory
returns-clause-memory g c =
    rw (← c.self.view_is) (same_committed c.self.inside.state.state c.write_marked.new.state.state c.self.inside.workers.seen c.write_marked.new.workers.seen (g.K.Keeper.shown c.self.inside.keeper) (g.K.Keeper.shown c.write_marked.new.keeper)
    c.write_marked.result c.write_marked.ensures.seen c.write_marked.ensures.state c.write_marked.ensures.keeper)
