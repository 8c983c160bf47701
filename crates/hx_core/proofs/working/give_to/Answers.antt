use Rattle.hx_core.proofs.Keeping.{given_job}
use Rattle.hx_core.proofs.working.give_to.Goals as goal

pub returns-in-Ok-clause-given : goal.returns-in-Ok-clause-given
returns-in-Ok-clause-given c =
    given_job c.args.state.now.state c.args.workers.now.seen c.ready_job.new.workers.seen c.take.new.self.seen c.args.worker c.args.key c.in-Ok.brief c.in-Ok.shared c.in-Ok.ensures.seen c.in-Ok.ensures.same c.in-Ok.ensures.key c.in-Ok.ensures.stands c.in-Ok.ensures.short c.take.ensures.taken
