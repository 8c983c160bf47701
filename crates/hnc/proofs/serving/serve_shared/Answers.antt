use Rattle.std.proofs.Common.{◌≡◌, ◌∙◌, ap, subst, sym}
use Rattle.std.specs.Prelude.{IsErr, IsOk}
use Rattle.hx_ports.specs.Causes.{Rose}
use Rattle.hnc.proofs.Linking.{calm_ok, ends_of, err_of, ok_of, served_shared}
use Rattle.hnc.proofs.serving.serve_shared.Given.{Over}
use Rattle.hnc.proofs.serving.serve_shared.Goals as goal

-- the keeper that is given back is the cluster's
back : (g : Over) (c : goal.After-end_with g) → g.K.Keeper.shown c.end_with.result.keeper ≡ c.close-cluster.result.keeper
back g c = ap g.K.Keeper.shown c.end_with.ensures.1 ∙ c.close.ensures.keeper

pub returns-clause-served : goal.returns-clause-served
returns-clause-served g c = λ e opened is.
    served_shared IsOk c.args.plan.links opened c.close-cluster.result c.args.seat.me.0 c.serve-seat.result.seat.me.0 (g.D.Door.shown c.args.door) (g.D.Door.shown c.serve-seat.result.door) (g.D.Door.shown c.end_with.result.door) c.serve-seat.result.end _ is
    c.serve-seat.ensures.stayed c.close-cluster.ensures (ok_of c.serve-seat.result.end c.status_of_serving.result c.status_of_serving.ensures (sym c.end_with.ensures.0 ∙ e)) c.serve-seat.ensures.served c.serve-seat.ensures.ends
    (ap g.D.Door.shown c.end_with.ensures.3) (back g c)

pub returns-clause-left : goal.returns-clause-left
returns-clause-left g c = λ e opened is.
    served_shared IsErr c.args.plan.links opened c.close-cluster.result c.args.seat.me.0 c.serve-seat.result.seat.me.0 (g.D.Door.shown c.args.door) (g.D.Door.shown c.serve-seat.result.door) (g.D.Door.shown c.end_with.result.door) c.serve-seat.result.end _ is
    c.serve-seat.ensures.stayed c.close-cluster.ensures (err_of c.serve-seat.result.end c.status_of_serving.result c.status_of_serving.ensures (sym c.end_with.ensures.0 ∙ e)) c.serve-seat.ensures.served c.serve-seat.ensures.ends
    (ap g.D.Door.shown c.end_with.ensures.3) (back g c)

pub returns-clause-ends : goal.returns-clause-ends
returns-clause-ends g c = ends_of c.serve-seat.result.end c.status_of_serving.result _ c.status_of_serving.ensures c.end_with.ensures.0

pub returns-clause-door_fault : goal.returns-clause-door_fault
returns-clause-door_fault g c = λ e.
    subst (λ d. Rose (g.D.Door.shown c.args.door).faults d.faults) (sym (ap g.D.Door.shown c.end_with.ensures.3))
    (c.serve-seat.ensures.failed (err_of c.serve-seat.result.end c.status_of_serving.result c.status_of_serving.ensures (sym c.end_with.ensures.0 ∙ e)))

pub returns-clause-door_calm : goal.returns-clause-door_calm
returns-clause-door_calm g c = λ other.
    ap (λ d. d.faults) (ap g.D.Door.shown c.end_with.ensures.3)
    ∙ c.serve-seat.ensures.calm (calm_ok c.serve-seat.result.end c.status_of_serving.result c.status_of_serving.ensures (λ e. other (c.end_with.ensures.0 ∙ e)))
