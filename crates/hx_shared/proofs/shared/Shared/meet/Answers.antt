use Rattle.std.proofs.Common.{rules}
use Rattle.hx_shared.proofs.Seating.{met_by, legal_at}
use Rattle.hx_shared.proofs.shared.Shared.meet.Goals as goal

pub returns-clause-meets : goal.returns-clause-meets
returns-clause-meets g c = search (rules, met_by)

pub returns-clause-legal : goal.returns-clause-legal
returns-clause-legal g c =
    let s = c.join.ensures.stood in
    legal_at c.join.new.pass.me.0 s.1 s.0.cluster.value s.2 s.3
