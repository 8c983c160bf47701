use Rattle.std.proofs.Common.{List, subst}
use Rattle.std.specs.Prelude.{option_copied}
use Rattle.hx_model.specs.State.{state_after}
use Rattle.hx_model.specs.Tree.{forest_of}
use Rattle.hx_model.specs.declared.key.Write.{Write}
use Rattle.hx_line.specs.Line.{IsRanked}
use Rattle.hx_core.specs.Reaching.{IsReady}
use Rattle.hx_core.proofs.Reached.{marked_ready, ranks_after}
use Rattle.hx_core.proofs.commit.write_marked.Goals as goal

pub returns-in-Ok-clause-marked : goal.returns-in-Ok-clause-marked
returns-in-Ok-clause-marked g c =
    let s = c.args.state.now.state in
    marked_ready s c.args.writes.items (option_copied c.args.own) c.in-Ok.marks.keys.items c.in-Ok.marks.spread c.args.workers.now.seen c.write_marks.new.workers.seen c.marks_of.new.workers c.write_marks.result
    (subst (λ (ws : List Write). IsReady s ws (option_copied c.args.own) c.in-Ok.marks.keys.items c.in-Ok.marks.spread c.marks_of.new.workers) c.as_slice.ensures.value c.in-Ok.ensures.ready) c.in-Ok.ensures.seen c.write_marks.ensures.marked

pub returns-in-Ok-clause-ranks : goal.returns-in-Ok-clause-ranks
returns-in-Ok-clause-ranks g c =
    ranks_after c.args.state.now.state c.write_marks.new.state.state c.args.writes.items (g.K.Keeper.shown c.args.keeper.now) (g.K.Keeper.shown c.write_marks.new.keeper) c.marks_of.new.workers.ranks c.write_marks.new.workers.ranks c.write_marks.result
    c.in-Ok.ensures.ranks (subst (λ (ws : List Write). IsRanked (forest_of (state_after c.args.state.now.state ws)) c.marks_of.new.workers.ranks) c.as_slice.ensures.value c.in-Ok.ensures.ready.ranks) c.write_marks.ensures.ranks
    c.write_marks.ensures.landed c.write_marks.ensures.state c.write_marks.ensures.fault
