use Rattle.std.proofs.Common.{◌-◌, subst, length, min}
use Rattle.indexmap.specs.IndexMap.{spare}
use Rattle.hx_queue.specs.Kept.{AreApart}
use Rattle.hx_queue.proofs.queue.Queue.law_apart.Goals as goal

pub returns : goal.returns
returns c = subst AreApart c.self.view_is (c.self.invariant.apart (min (c.self.inside.line.room - length c.self.inside.slots.entries) (spare c.self.inside.slots)))
