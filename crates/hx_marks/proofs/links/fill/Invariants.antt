use Rattle.hx_marks.specs.Links.{AreLinks}
use Rattle.hx_marks.proofs.links.fill.Given as goal

-- what is known so far
abbrev pub invariant-loop-member : goal.invariant-loop-member
invariant-loop-member l = AreLinks l.current.store.now.objects l.kinds l.current.forest.now.nodes l.top l.above l.links
