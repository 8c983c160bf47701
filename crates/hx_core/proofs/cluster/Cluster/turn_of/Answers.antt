use Rattle.std.proofs.Common.{subst}
use Rattle.hx_core.specs.Working.{IsGiven}
use Rattle.hx_core.proofs.Bounding.{turn_counts}
use Rattle.hx_core.proofs.Settled.{turn_lacks, turn_made}
use Rattle.hx_core.proofs.Turning.{given_lost, given_same, hand_stands}
use Rattle.hx_core.proofs.cluster.Cluster.turn_of.Goals as goal

pub returns-in-Job : goal.returns-in-Job
returns-in-Job g c =
    let job = subst (λ a. IsGiven 0 c.args.key c.args.self.now a c.give.new.self) c.in-Job.is c.give.ensures in
    turn_made c.args.self.now c.give.new.self c.complete-end.new.self c.args.key c.args.taken c.in-Job.brief c.complete-end.result c.law_of_worlds.ensures.world c.requires.nothing c.requires.next c.requires.same job
    c.complete-end.ensures.simulates c.complete-end.ensures.leaves c.complete-end.ensures.empty
    (turn_counts c.args.self.now c.give.new.self c.complete-end.new.self c.args.key c.args.taken c.in-Job.brief c.complete-end.result (hand_stands 0 c.args.self.now.state c.in-Job.brief job.stands) c.law_of_worlds.ensures.valid c.law_of_worlds.ensures.apart c.requires.next c.requires.same job
    c.complete-end.ensures.simulates c.complete-end.ensures.leaves c.law_of_worlds-in-Job.ensures.covered c.law_of_worlds-in-Job.ensures.apart)

pub returns-in_default : goal.returns-in_default
returns-in_default g c =
    turn_lacks c.args.self.now c.give.new.self (given_same c.args.self.now c.give.new.self 0 c.args.key c.give.result c.give.ensures c.in_default.not-Job) c.requires.nothing
    (given_lost c.args.self.now c.give.new.self 0 c.args.key c.give.result c.law_of_worlds.ensures.world c.give.ensures c.in_default.not-Job)
