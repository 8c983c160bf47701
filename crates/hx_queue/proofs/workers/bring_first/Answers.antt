use Rattle.hx_queue.proofs.Fronts.{brings_lined, brings_ranked, brings_rest, front_all, front_early}
use Rattle.hx_queue.proofs.workers.bring_first.Goals as goal

pub returns-then-is_early-clause-brings : goal.returns-then-is_early-clause-brings
returns-then-is_early-clause-brings c = brings_ranked c.args.forest.now.nodes c.args.queue.now c.rank.new.self c.args.spread.now c.rank.ensures

pub returns-then-is_early-clause-front : goal.returns-then-is_early-clause-front
returns-then-is_early-clause-front c =
    front_early c.args.forest.now.nodes c.args.queue.now c.rank.new.self c.args.spread.now c.is_early.result c.rank.ensures c.is_early.ensures.some c.is_early.ensures.none c.if-is_early.true

pub returns-in_err-line_up_all-clause-brings : goal.returns-in_err-line_up_all-clause-brings
returns-in_err-line_up_all-clause-brings c =
    brings_lined c.args.forest.now.nodes c.args.queue.now c.rank.new.self c.line_up_all.new.queue c.args.spread.now c.line_up_all.new.spread c.rank.ensures c.line_up_all.ensures.lines_up

pub returns-clause-brings : goal.returns-clause-brings
returns-clause-brings c =
    brings_rest c.args.forest.now.nodes c.args.queue.now c.rank.new.self c.line_up_all.new.queue c.rank-2.new.self c.args.spread.now c.line_up_all.new.spread c.rank.ensures c.line_up_all.ensures.lines_up c.rank-2.ensures

pub returns-clause-front : goal.returns-clause-front
returns-clause-front c = front_all c.args.forest.now.nodes c.line_up_all.new.queue c.rank-2.new.self c.line_up_all.new.spread c.rank-2.ensures c.in_ok-line_up_all.ensures.none
