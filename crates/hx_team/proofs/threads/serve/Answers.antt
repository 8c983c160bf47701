use Rattle.std.proofs.Common.{rules}
use Rattle.hx_team.specs.Team.{IsServedOut}
use Rattle.hx_team.proofs.Teaming.{serving_calm, serving_ends, serving_failed}
use Rattle.hx_team.proofs.threads.serve.Goals as goal

pub returns-in-Ok-clause-ends : goal.returns-in-Ok-clause-ends
returns-in-Ok-clause-ends g c =
    let out : IsServedOut c.args.plan.links (g.D.Door.shown c.args.door) c.serve_beside.result.end (g.D.Door.shown c.serve_beside.result.door) = search rules in
    serving_ends c.args.plan.links (g.D.Door.shown c.args.door) c.serve_beside.result.end (g.D.Door.shown c.serve_beside.result.door) out

pub returns-in-Ok-clause-failed : goal.returns-in-Ok-clause-failed
returns-in-Ok-clause-failed g c =
    let out : IsServedOut c.args.plan.links (g.D.Door.shown c.args.door) c.serve_beside.result.end (g.D.Door.shown c.serve_beside.result.door) = search rules in
    serving_failed c.args.plan.links (g.D.Door.shown c.args.door) c.serve_beside.result.end (g.D.Door.shown c.serve_beside.result.door) out

pub returns-in-Ok-clause-calm : goal.returns-in-Ok-clause-calm
returns-in-Ok-clause-calm g c =
    let out : IsServedOut c.args.plan.links (g.D.Door.shown c.args.door) c.serve_beside.result.end (g.D.Door.shown c.serve_beside.result.door) = search rules in
    serving_calm c.args.plan.links (g.D.Door.shown c.args.door) c.serve_beside.result.end (g.D.Door.shown c.serve_beside.result.door) out

pub returns-clause-ends : goal.returns-clause-ends
returns-clause-ends g c =
    let out : IsServedOut c.args.plan.links (g.D.Door.shown c.args.door) c.serve_by_one.result.end (g.D.Door.shown c.serve_by_one.result.door) = search rules in
    serving_ends c.args.plan.links (g.D.Door.shown c.args.door) c.serve_by_one.result.end (g.D.Door.shown c.serve_by_one.result.door) out

pub returns-clause-failed : goal.returns-clause-failed
returns-clause-failed g c =
    let out : IsServedOut c.args.plan.links (g.D.Door.shown c.args.door) c.serve_by_one.result.end (g.D.Door.shown c.serve_by_one.result.door) = search rules in
    serving_failed c.args.plan.links (g.D.Door.shown c.args.door) c.serve_by_one.result.end (g.D.Door.shown c.serve_by_one.result.door) out

pub returns-clause-calm : goal.returns-clause-calm
returns-clause-calm g c =
    let out : IsServedOut c.args.plan.links (g.D.Door.shown c.args.door) c.serve_by_one.result.end (g.D.Door.shown c.serve_by_one.result.door) = search rules in
    serving_calm c.args.plan.links (g.D.Door.shown c.args.door) c.serve_by_one.result.end (g.D.Door.shown c.serve_by_one.result.door) out
