use Rattle.hx_core.proofs.Bounding.{bound_reached}
use Rattle.hx_core.proofs.Settled.{run_start, run_turn, ends_run, rests_run, turn_in, all_made}
use Rattle.hx_core.proofs.cluster.Cluster.settle.Goals as goal

pub loop-made-init : goal.loop-made-init
loop-made-init g c = run_start c.args.self.now c.args.trace.now.items c.law_of_worlds.ensures.world c.requires

pub trace_turn-requires : goal.trace_turn-requires
trace_turn-requires g c = c.loop-made.invariant.empty

pub loop-made-preserved : goal.loop-made-preserved
loop-made-preserved g c =
    run_turn c.args.self.now c.loop-made.self c.trace_turn.new.self c.args.trace.now.items c.loop-made.trace.items c.trace_turn.new.trace.items c.loop-made._made c.loop-made.invariant (turn_in c.trace_turn.result c.in_default.not-Some c.trace_turn.ensures.turn) c.trace_turn.ensures.empty

pub returns-in-Some-clause-made : goal.returns-in-Some-clause-made
returns-in-Some-clause-made g c =
    ends_run c.args.turns c.args.self.now c.loop-made.self c.trace_turn.new.self c.args.trace.now.items c.loop-made.trace.items c.trace_turn.new.trace.items c.loop-made._made c.in-Some.end c.loop-made-test.true c.loop-made.invariant c.in-Some.ensures.end

pub returns-clause-made : goal.returns-clause-made
returns-clause-made g c =
    rests_run c.args.turns c.args.self.now c.loop-made.self c.args.trace.now.items c.loop-made.trace.items c.loop-made._made c.rest.result (all_made c.loop-made._made c.args.turns c.loop-made.auto._made-end c.loop-made-test.false) c.loop-made.invariant c.rest.ensures

pub returns-clause-empty : goal.returns-clause-empty
returns-clause-empty g c = c.loop-made.invariant.empty

-- no key is left where the bound is no more than the turns
pub returns-in-Some-clause-bound : goal.returns-in-Some-clause-bound
returns-in-Some-clause-bound g c = λ none enough left. c.in-Some.ensures.end.all (c.loop-made.invariant.counted none).hands left

pub returns-clause-bound : goal.returns-clause-bound
returns-clause-bound g c =
    λ none enough left.
    bound_reached c.args.self.now c.loop-made.self c.loop-made._made c.args.turns c.law_of_worlds.ensures.covered c.law_of_worlds.ensures.apart c.loop-made.invariant.counted (all_made c.loop-made._made c.args.turns c.loop-made.auto._made-end c.loop-made-test.false) none enough
