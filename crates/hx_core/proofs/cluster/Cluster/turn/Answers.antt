use Rattle.std.proofs.Common.{subst}
use Rattle.hx_core.specs.Refinement.{ClusterView}
use Rattle.hx_core.specs.Settling.{IsRest, IsTurn}
use Rattle.hx_core.proofs.Settled.{turn_rests, turn_lacks}
use Rattle.hx_core.proofs.Turning.{loses}
use Rattle.hx_core.proofs.cluster.Cluster.turn.Goals as goal

pub returns-in-Err : goal.returns-in-Err
returns-in-Err g c = turn_lacks c.args.self.now c.next.new.self c.next.ensures.same c.requires (loses c.args.self.now c.next.new.self 0 c.law_of_worlds.ensures.world c.next.ensures.same)

pub returns-in-Ok-None : goal.returns-in-Ok-None
returns-in-Ok-None g c =
    let none = rw (c.in-Ok-None.field-0-is) at c.in-Ok-None.ensures.none in
    turn_rests c.args.self.now c.next.new.self c.rest.result c.next.ensures.same none c.requires (subst (λ (v : ClusterView). IsRest v c.rest.result) c.next.ensures.same c.rest.ensures)

pub returns-in-Ok-Some : goal.returns-in-Ok-Some
returns-in-Ok-Some g c = subst (λ (v : ClusterView). IsTurn v c.turn_next.result c.turn_next.new.self) c.next.ensures.same c.turn_next.ensures
