use Rattle.std.proofs.Common.{◌≡◌, ◌∙◌, ap, subst, sym}
use Rattle.std.specs.Prelude.{IsErr, IsOk}
use Rattle.hx_ports.specs.Causes.{Rose}
use Rattle.hnc.proofs.Linking.{calm_of, ends_of, err_of, ok_of, rose_of, served_in_turn}
use Rattle.hnc.proofs.serving.serve_alone.Given.{Over}
use Rattle.hnc.proofs.serving.serve_alone.Goals as goal

-- the keeper that is given back is the cluster's
back : (g : Over) (c : goal.After-end_with g) → g.K.Keeper.shown c.end_with.result.keeper ≡ c.serve-end.new.service.keeper
back g c = ap g.K.Keeper.shown c.end_with.ensures.1 ∙ c.close.ensures.keeper ∙ ap (λ v. v.keeper) c.into_cluster.ensures.same

pub returns-clause-served : goal.returns-clause-served
returns-clause-served g c = λ e.
    served_in_turn IsOk c.args.links c.args.cluster c.new-service.result c.serve-end.new.service (g.D.Door.shown c.args.door) (g.D.Door.shown c.serve-end.new.door) (g.D.Door.shown c.end_with.result.door) c.serve-end.result _
    c.new-service.ensures (ok_of c.serve-end.result c.status_of_serving.result c.status_of_serving.ensures (sym c.end_with.ensures.0 ∙ e)) c.serve-end.ensures.serves
    (ap g.D.Door.shown c.end_with.ensures.3) (back g c)

pub returns-clause-left : goal.returns-clause-left
returns-clause-left g c = λ e.
    served_in_turn IsErr c.args.links c.args.cluster c.new-service.result c.serve-end.new.service (g.D.Door.shown c.args.door) (g.D.Door.shown c.serve-end.new.door) (g.D.Door.shown c.end_with.result.door) c.serve-end.result _
    c.new-service.ensures (err_of c.serve-end.result c.status_of_serving.result c.status_of_serving.ensures (sym c.end_with.ensures.0 ∙ e)) c.serve-end.ensures.serves
    (ap g.D.Door.shown c.end_with.ensures.3) (back g c)

pub returns-clause-ends : goal.returns-clause-ends
returns-clause-ends g c = ends_of c.serve-end.result c.status_of_serving.result _ c.status_of_serving.ensures c.end_with.ensures.0

pub returns-clause-door_fault : goal.returns-clause-door_fault
returns-clause-door_fault g c = λ e.
    subst (λ d. Rose (g.D.Door.shown c.args.door).faults d.faults) (sym (ap g.D.Door.shown c.end_with.ensures.3))
    (rose_of _ _ c.serve-end.result c.serve-end.ensures.cause (err_of c.serve-end.result c.status_of_serving.result c.status_of_serving.ensures (sym c.end_with.ensures.0 ∙ e)))

pub returns-clause-door_calm : goal.returns-clause-door_calm
returns-clause-door_calm g c = λ other.
    ap (λ d. d.faults) (ap g.D.Door.shown c.end_with.ensures.3)
    ∙ calm_of _ _ c.serve-end.result c.status_of_serving.result c.serve-end.ensures.cause c.status_of_serving.ensures (λ e. other (c.end_with.ensures.0 ∙ e))
