use Rattle.hx_marks.specs.Before.{marks_before_among}
use Rattle.hx_marks.specs.Reads.{state_in}
use Rattle.hx_marks.proofs.Adding.{carried}
use Rattle.hx_marks.proofs.writes.marks_of_all.Goals as goal

pub loop-write-preserved : goal.loop-write-preserved
loop-write-preserved c =
    carried (marks_before_among (state_in c.args.current.now) c.args.endings.now) c.args.writes.now c.loop-write.write-index c.write-item.result
    c.marks_among.new.keys.items c.loop-write.keys.items _ c.loop-write-test.true c.write-item.is c.in_ok-marks_among.ensures c.loop-write.invariant
