use Rattle.std.proofs.Common.{◌∙◌, inr, subst, sym}
use Rattle.std.specs.Prelude.{IsErr, IsOk}
use Rattle.hx_ports.specs.Causes.{Rose}
use Rattle.hnc.proofs.Linking.{alone_as, beside_as, listening}
use Rattle.hnc.proofs.serving.serve_at.Goals as goal

pub returns-then-is_alone-clause-served : goal.returns-then-is_alone-clause-served
returns-then-is_alone-clause-served g c = λ e.
    alone_as IsOk c.args.serving.now c.args.cluster (g.D.Door.shown c.args.door) (g.D.Door.shown c.listen.new.self) (g.D.Door.shown c.serve_alone.result.door) _
    (listening (g.D.Door.shown c.args.door) (g.D.Door.shown c.listen.new.self) c.in_default.ensures.same c.in_default.ensures.cause.still) (c.serve_alone.ensures.served e)

pub returns-then-is_alone-clause-left : goal.returns-then-is_alone-clause-left
returns-then-is_alone-clause-left g c = λ e.
    inr (alone_as IsErr c.args.serving.now c.args.cluster (g.D.Door.shown c.args.door) (g.D.Door.shown c.listen.new.self) (g.D.Door.shown c.serve_alone.result.door) _
    (listening (g.D.Door.shown c.args.door) (g.D.Door.shown c.listen.new.self) c.in_default.ensures.same c.in_default.ensures.cause.still) (c.serve_alone.ensures.left e))

pub returns-then-is_alone-clause-door_fault : goal.returns-then-is_alone-clause-door_fault
returns-then-is_alone-clause-door_fault g c = λ e. subst (λ n. Rose n (g.D.Door.shown c.serve_alone.result.door).faults) c.in_default.ensures.cause.still (c.serve_alone.ensures.door_fault e)

pub returns-then-is_alone-clause-door_calm : goal.returns-then-is_alone-clause-door_calm
returns-then-is_alone-clause-door_calm g c = λ other. c.serve_alone.ensures.door_calm other ∙ c.in_default.ensures.cause.still

pub returns-clause-served : goal.returns-clause-served
returns-clause-served g c = λ e.
    beside_as IsOk c.args.serving.now _ c.args.cluster (g.D.Door.shown c.args.door) (g.D.Door.shown c.listen.new.self) (g.D.Door.shown c.serve_links.result.door) _ (sym c.is_alone.ensures ∙ c.if-is_alone.false) c.plan_of.ensures.links
    (listening (g.D.Door.shown c.args.door) (g.D.Door.shown c.listen.new.self) c.in_default.ensures.same c.in_default.ensures.cause.still) (c.serve_links.ensures.served e)

pub returns-clause-left : goal.returns-clause-left
returns-clause-left g c = λ e.
    inr (beside_as IsErr c.args.serving.now _ c.args.cluster (g.D.Door.shown c.args.door) (g.D.Door.shown c.listen.new.self) (g.D.Door.shown c.serve_links.result.door) _ (sym c.is_alone.ensures ∙ c.if-is_alone.false) c.plan_of.ensures.links
    (listening (g.D.Door.shown c.args.door) (g.D.Door.shown c.listen.new.self) c.in_default.ensures.same c.in_default.ensures.cause.still) (c.serve_links.ensures.left e))

pub returns-clause-door_fault : goal.returns-clause-door_fault
returns-clause-door_fault g c = λ e. subst (λ n. Rose n (g.D.Door.shown c.serve_links.result.door).faults) c.in_default.ensures.cause.still (c.serve_links.ensures.door_fault e)

pub returns-clause-door_calm : goal.returns-clause-door_calm
returns-clause-door_calm g c = λ other. c.serve_links.ensures.door_calm other ∙ c.in_default.ensures.cause.still
