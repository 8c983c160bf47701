use Rattle.std.proofs.Common.{subst, sym}
use Rattle.hx_model.specs.State.{State}
use Rattle.hx_core.specs.Inside.{view_of}
use Rattle.hx_core.specs.Working.{IsGiven, IsGivenBy}
use Rattle.hx_core.proofs.Keeping.{sound_given, sound_ready}
use Rattle.hx_core.proofs.Reached.{ranks_kept, scope_same}
use Rattle.hx_core.proofs.Turning.{given_by}
use Rattle.hx_core.proofs.cluster.Cluster.give.Goals as goal

pub invariant_of-self : goal.invariant_of-self
invariant_of-self g c =
    let requires = rw (← c.self.view_is) at c.requires in
    let ready = sound_ready c.self.inside.state.state c.make_ready.new.state.state c.self.inside.workers.seen (g.K.Keeper.shown c.self.inside.keeper) c.self.inside.state.staged c.make_ready.new.state.staged c.make_ready.ensures.state c.make_ready.ensures.staged c.self.invariant.sound in
    record {
      sound = sound_given c.make_ready.new.state.state c.self.inside.workers.seen c.give_to.new.workers.seen (g.K.Keeper.shown c.self.inside.keeper) c.make_ready.new.state.staged c.args.worker c.args.key c.give_to.result ready requires.empty requires.free c.law_apart.ensures c.give_to.ensures.given;
      scope = scope_same c.self.inside.state.state c.make_ready.new.state.state c.self.inside.workers.scope c.give_to.new.workers.scope c.make_ready.ensures.state c.give_to.ensures.scope c.self.invariant.scope;
      ranks = ranks_kept c.self.inside.state.state c.make_ready.new.state.state c.self.inside.workers.ranks c.give_to.new.workers.ranks c.make_ready.ensures.state c.give_to.ensures.ranks c.self.invariant.ranks;
    }

pub returns : goal.returns
returns g c =
    let given = subst (λ (s : State). IsGivenBy c.args.worker c.args.key s c.self.inside.workers.seen c.give_to.result c.give_to.new.workers.seen) c.make_ready.ensures.state c.give_to.ensures.given in
    let same = given_by c.self.inside.state.state c.self.inside.workers.seen c.give_to.new.workers.seen (g.K.Keeper.shown c.self.inside.keeper) c.args.worker c.args.key c.give_to.result given in
    rw (← c.self.view_is) (subst (λ (s : State). IsGiven c.args.worker c.args.key (view_of c.self.inside.state.state c.self.inside.workers.seen (g.K.Keeper.shown c.self.inside.keeper)) c.give_to.result (view_of s c.give_to.new.workers.seen (g.K.Keeper.shown c.self.inside.keeper))) (sym c.make_ready.ensures.state) same)
