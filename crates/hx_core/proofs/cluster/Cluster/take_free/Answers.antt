use Rattle.std.proofs.Common.{◌≡◌, sym, ap, ◌∙◌, subst}
use Rattle.hx_model.specs.Hands.{hand_of}
use Rattle.hx_core.specs.Inside.{view_of}
use Rattle.hx_core.specs.Refinement.{ClusterView}
use Rattle.hx_core.specs.Working.{IsGiven, IsTake}
use Rattle.hx_core.specs.declared.turns.Take.TheVariants as take
use Rattle.hx_core.proofs.Turning.{take_idle, take_lost, take_given}
use Rattle.hx_core.proofs.cluster.Cluster.take_free.Goals as goal

pub returns-in-Err : goal.returns-in-Err
returns-in-Err g c = subst (λ (v : ClusterView). IsTake c.args.worker c.args.self.now take.NoMemory v) (sym c.next.ensures.same) (take_lost c.args.self.now c.args.worker c.law_of_worlds.ensures.world)

pub returns-in-Ok-None : goal.returns-in-Ok-None
returns-in-Ok-None g c =
    let none = rw (c.in-Ok-None.field-0-is) at c.in-Ok-None.ensures.none in
    let same : view_of c.self.inside.state.state c.self.inside.workers.seen (g.K.Keeper.shown c.self.inside.keeper) ≡ c.args.self.now = c.self.view_is ∙ c.next.ensures.same in
    subst (λ (v : ClusterView). IsTake c.args.worker c.args.self.now take.Idle v) c.self.view_is
    (subst (λ (v : ClusterView). IsTake c.args.worker v take.Idle (view_of c.self.inside.state.state c.self.inside.workers.seen (g.K.Keeper.shown c.self.inside.keeper))) same
    (take_idle (view_of c.self.inside.state.state c.self.inside.workers.seen (g.K.Keeper.shown c.self.inside.keeper)) c.args.worker c.self.invariant.sound.world c.self.invariant.sound.covered c.law_apart.ensures
    (ap (λ (v : ClusterView). v.workers.waiting) same ∙ none) (ap (λ (v : ClusterView). hand_of c.args.worker v.workers.hands) same ∙ c.requires)))

pub returns-in-Ok-Some : goal.returns-in-Ok-Some
returns-in-Ok-Some g c =
    let next = rw (c.in-Ok-Some.field-0-is) at c.in-Ok-Some.ensures.some in
    take_given c.args.self.now c.give.new.self c.args.worker c.in-Ok-Some.key c.give.result c.law_of_worlds.ensures.world c.requires next
    (subst (λ (v : ClusterView). IsGiven c.args.worker c.in-Ok-Some.key v c.give.result c.give.new.self) c.next.ensures.same c.give.ensures)
