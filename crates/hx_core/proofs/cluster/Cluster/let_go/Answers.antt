use Rattle.std.proofs.Common.{refl}
use Rattle.hx_core.proofs.Keeping.{sound_let, let_by, let_some, let_none, released, empty_after}
use Rattle.hx_core.proofs.Reached.{ranks_same, scope_same}
use Rattle.hx_core.proofs.cluster.Cluster.let_go.Goals as goal

pub invariant_of-self : goal.invariant_of-self
invariant_of-self g c =
    let requires = rw (← c.self.view_is) at c.requires in
    record {
      sound = sound_let c.self.inside.state.state c.self.inside.workers.seen c.let_go.new.self.seen (g.K.Keeper.shown c.self.inside.keeper) c.self.inside.state.staged c.args.worker c.args.waits c.self.invariant.sound
          (let_by c.self.inside.workers.seen c.let_go.new.self.seen c.args.worker c.args.waits c.let_go.result c.let_go.ensures.none c.let_go.ensures.some) requires;
      scope = scope_same c.self.inside.state.state c.self.inside.state.state c.self.inside.workers.scope c.let_go.new.self.scope refl c.let_go.ensures.scope c.self.invariant.scope;
      ranks = ranks_same c.self.inside.state.state c.self.inside.state.state c.self.inside.workers.ranks c.let_go.new.self.ranks refl c.let_go.ensures.ranks c.self.invariant.ranks;
    }

pub returns-clause-released : goal.returns-clause-released
returns-clause-released g c =
    rw (← c.self.view_is) (released c.self.inside.state.state c.self.inside.workers.seen c.let_go.new.self.seen (g.K.Keeper.shown c.self.inside.keeper) c.args.worker c.args.waits
    (let_by c.self.inside.workers.seen c.let_go.new.self.seen c.args.worker c.args.waits c.let_go.result c.let_go.ensures.none c.let_go.ensures.some))

pub returns-clause-some : goal.returns-clause-some
returns-clause-some g c = rw (← c.self.view_is) (let_some c.self.inside.workers.seen c.let_go.new.self.seen c.args.worker c.args.waits c.let_go.result c.let_go.ensures.some)

pub returns-clause-none : goal.returns-clause-none
returns-clause-none g c = rw (← c.self.view_is) (let_none c.self.inside.workers.seen c.let_go.new.self.seen c.args.worker c.let_go.result c.let_go.ensures.none)

pub returns-clause-empty : goal.returns-clause-empty
returns-clause-empty g c =
    empty_after c.self.inside.workers.seen c.let_go.new.self.seen c.args.worker c.args.waits
    (let_by c.self.inside.workers.seen c.let_go.new.self.seen c.args.worker c.args.waits c.let_go.result c.let_go.ensures.none c.let_go.ensures.some)
