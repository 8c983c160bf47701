use Rattle.hx_marks.specs.Links.{AreLive}
use Rattle.hx_marks.proofs.live.Live.fill.Given as goal

-- what is known so far
abbrev pub invariant-loop-member : goal.invariant-loop-member
invariant-loop-member l = AreLive l.forest.nodes l.top l.self
