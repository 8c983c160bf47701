use Rattle.std.proofs.Common.{refl, ap, sym, subst}
use Rattle.hx_model.specs.Tree.{forest_of}
use Rattle.hx_core.specs.Inside.{IsSound, view_of}
use Rattle.hx_core.proofs.Keeping.{next_in}
use Rattle.hx_core.proofs.Reached.{ranked_tree, scope_same}
use Rattle.hx_queue.specs.Workers.{WorkersView}
use Rattle.hx_core.proofs.cluster.Cluster.next.Goals as goal

pub next-requires : goal.next-requires
next-requires g c = ranked_tree (forest_of c.self.inside.state.state) c.forest.result.now.nodes c.self.inside.workers.ranks c.forest.ensures c.self.invariant.ranks

pub invariant_of-self : goal.invariant_of-self
invariant_of-self g c =
    record {
      sound = subst (λ (v : WorkersView). IsSound c.self.inside.state.state v (g.K.Keeper.shown c.self.inside.keeper) c.self.inside.state.staged) (sym c.next.ensures.seen) c.self.invariant.sound;
      scope = scope_same c.self.inside.state.state c.self.inside.state.state c.self.inside.workers.scope c.next.new.self.scope refl c.next.ensures.scope c.self.invariant.scope;
      ranks = ranked_tree c.forest.result.now.nodes (forest_of c.self.inside.state.state) c.next.new.self.ranks (sym c.forest.ensures) c.next.ensures.ranks;
    }

pub returns-clause-same : goal.returns-clause-same
returns-clause-same g c = rw (← c.self.view_is) (ap (λ (v : WorkersView). view_of c.self.inside.state.state v (g.K.Keeper.shown c.self.inside.keeper)) c.next.ensures.seen)

pub returns-clause-some : goal.returns-clause-some
returns-clause-some g c = rw (← c.self.view_is) (next_in c.forest.result.now.nodes (forest_of c.self.inside.state.state) c.self.inside.workers.seen c.next.result c.law_apart.ensures c.forest.ensures c.next.ensures.first c.next.ensures.free)

pub returns-clause-none : goal.returns-clause-none
returns-clause-none g c = rw (← c.self.view_is) c.next.ensures.none
