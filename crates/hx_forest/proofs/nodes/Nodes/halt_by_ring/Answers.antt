use Rattle.std.proofs.Common.{sym, ◌∙◌}
use Rattle.hx_forest.specs.ParentRefs.{forest_of}
use Rattle.hx_forest.proofs.Reasons.{ring_above}
use Rattle.hx_forest.proofs.nodes.Nodes.halt_by_ring.Goals as goal

pub returns-in-None : goal.returns-in-None
returns-in-None c = ring_above (forest_of c.args.self.now) c.args.name.now c.requires.ring (sym c.own_halt.ensures ∙ c.in-None.is)
