use Rattle.std.proofs.Common.{ap}
use Rattle.hx_queue.specs.Tied.{hands_of}
use Rattle.hx_queue.proofs.Whole.{whole_none}
use Rattle.hx_queue.proofs.workers.Workers.new.Goals as goal

pub returns-clause-seen : goal.returns-clause-seen
returns-clause-seen c = whole_none (hands_of c.new-3.result.items) c.new.result c.new-2.result (ap hands_of c.new-3.ensures.items) c.new.ensures.waiting c.new.ensures.held c.new-2.ensures.ids
