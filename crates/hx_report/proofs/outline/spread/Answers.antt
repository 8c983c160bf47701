use Rattle.hx_report.specs.Inside.{list_at}
use Rattle.hx_report.proofs.Opening.{begun, written, one_less}
use Rattle.hx_report.proofs.outline.spread.Goals as goal

pub loop-line-init : goal.loop-line-init
loop-line-init c = begun (list_at c.args.places.now) c.args.most _ _ _ _ _ c.new-lines.ensures.items c.new-opened.ensures.items c.as_slice.ensures.value c.in_ok-open_all.ensures

pub loop-line-smaller : goal.loop-line-smaller
loop-line-smaller c = one_less (list_at c.args.places.now) c.args.most _ _ _ c.in-Some.line c.in-Some.ensures.items c.in_ok-open_below.ensures

pub loop-line-preserved : goal.loop-line-preserved
loop-line-preserved c = written (list_at c.args.places.now) c.args.most _ _ _ _ _ _ c.in-Some.line c.in-Some.ensures.items c.in_ok-open_below.ensures c.in_ok-push.ensures.items c.loop-line.invariant
