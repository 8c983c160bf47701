use Rattle.hx_marks.proofs.Adding.{grown_twice}
use Rattle.hx_marks.proofs.kinds.made_marks.Goals as goal

pub returns : goal.returns
returns c =
    grown_twice c.created_usage.result c.created_usage.new.keys.items c.created_reports.new.keys.items c.created_marks.new.keys.items c.args.keys.now.items _ _ _
    c.in_ok-created_marks.ensures c.in_ok-created_reports.ensures c.created_usage.ensures
