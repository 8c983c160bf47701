use Rattle.std.proofs.Common.{◌≡◌, ◌∙◌, [], ap, arith, refl, sym}
use Rattle.hx_core.specs.Refinement.{ClusterView}
use Rattle.hx_core.proofs.Bounding.{bound_reached, counted_start, over_leaves}
use Rattle.hx_script.proofs.Saying.{Said-none, Said-of}
use Rattle.hx_script.proofs.Settling.{MadeTurns-more, Serves-cut, Serves-lost, Serves-over, ends_left, ends_over, not_lost}
use Rattle.hx_script.proofs.Simulating.{Simulates-none}
use Rattle.hx_script.proofs.serving.settle.Goals as goal

pub loop-made-init : goal.loop-made-init
loop-made-init g c = record {
  idle = c.requires;
  made = record { turns = []; many = refl; whole = tt; simulates = Simulates-none c.args.cluster.now; counted = counted_start c.args.cluster.now; said = Said-none (g.W.Sink.shown c.args.sink.now) };
}

pub loop-made-preserved : goal.loop-made-preserved
loop-made-preserved g c = record {
  idle = c.turn.ensures.empty;
  made = MadeTurns-more c.loop-made._made c.in-Made.turned _ c.loop-made.cluster c.turn.new.self _ _ _ c.loop-made.invariant.made (not_lost c.in-Made.turned.end c.end_of-end.result c.end_of-end.ensures c.in_default.not-Some) c.in-Made.ensures.simulates c.in-Made.ensures.counts (Said-of _ _ _ _ c.in_ok-said-in-Made.ensures);
}

-- the lines of a turn weren't written
pub returns-in_err-said-in-Made-clause-serves : goal.returns-in_err-said-in-Made-clause-serves
returns-in_err-said-in-Made-clause-serves g c =
    Serves-cut _ c.args.turns c.loop-made._made c.in-Made.turned _ c.loop-made.cluster c.turn.new.self _ _ _ _ c.from_residual.result c.loop-made.invariant.made c.loop-made-test.true c.in-Made.ensures.simulates c.from_residual.ensures.1 c.in_err-said-in-Made.ensures

-- it was lost
pub returns-in-Some-clause-serves : goal.returns-in-Some-clause-serves
returns-in-Some-clause-serves g c =
    Serves-lost c.args.turns c.loop-made._made c.in-Made.turned c.in-Some.end _ c.loop-made.cluster c.turn.new.self _ _ _ _ c.say_settled.result c.loop-made.invariant.made c.loop-made-test.true (sym c.in-Some.ensures) c.in-Made.ensures.simulates (Said-of _ _ _ _ c.in_ok-said-in-Made.ensures) c.say_settled.ensures

-- none was made
pub returns-in-Over-clause-serves : goal.returns-in-Over-clause-serves
returns-in-Over-clause-serves g c =
    let over = c.in-Over.ensures.over in
    Serves-over c.args.turns c.loop-made._made c.in-Over.end _ c.loop-made.cluster c.turn.new.self _ _ _ c.say_settled-in-Over.result c.loop-made.invariant.made c.loop-made.auto._made-end (λ turns _. ends_over c.turn.new.self.workers c.in-Over.end over c.args.turns turns) c.in-Over.ensures.simulates
    (λ none enough. over_leaves c.turn.new.self.workers c.in-Over.end over (ap (λ (v : ClusterView). v.workers.hands) c.in-Over.ensures.leaves ∙ (c.loop-made.invariant.made.counted none).hands))
    c.say_settled-in-Over.ensures

-- all were
pub returns-clause-serves : goal.returns-clause-serves
returns-clause-serves g c =
    let all : c.loop-made._made ≡ c.args.turns = omega (arith, c.loop-made.auto._made-end, c.loop-made-test.false) in
    Serves-over c.args.turns c.loop-made._made c.rest-end.result _ c.loop-made.cluster c.loop-made.cluster _ _ _ c.say_settled-2.result c.loop-made.invariant.made c.loop-made.auto._made-end (λ turns many. ends_left c.loop-made.cluster.workers c.rest-end.result c.rest-end.ensures.left c.args.turns turns (many ∙ all)) c.rest-end.ensures.simulates
    (λ none enough left. bound_reached c.args.cluster.now c.loop-made.cluster c.loop-made._made c.args.turns c.law_of_worlds.ensures.covered c.law_of_worlds.ensures.apart c.loop-made.invariant.made.counted all none enough)
    c.say_settled-2.ensures
