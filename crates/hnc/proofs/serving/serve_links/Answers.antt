use Rattle.std.proofs.Common.{ap, inl, refl}
use Rattle.std.specs.Prelude.{IsErr, IsOk}
use Rattle.hnc.proofs.Linking.{served_as}
use Rattle.hnc.proofs.serving.serve_links.Goals as goal

pub returns-in-Ok-clause-served : goal.returns-in-Ok-clause-served
returns-in-Ok-clause-served g c = λ e. c.serve_shared.ensures.served e c.args.cluster (ap (λ m. m.0.opening) c.in-Ok.ensures.first)

pub returns-in-Ok-clause-left : goal.returns-in-Ok-clause-left
returns-in-Ok-clause-left g c = λ e. c.serve_shared.ensures.left e c.args.cluster (ap (λ m. m.0.opening) c.in-Ok.ensures.first)

pub returns-in-Err-clause-served : goal.returns-in-Err-clause-served
returns-in-Err-clause-served g c = λ e. served_as IsOk c.args.plan.links c.args.plan.links c.in-Err.cluster c.args.cluster _ _ _ _ refl c.in-Err.ensures.refused refl (inl (c.serve_alone.ensures.served e))

pub returns-in-Err-clause-left : goal.returns-in-Err-clause-left
returns-in-Err-clause-left g c = λ e. served_as IsErr c.args.plan.links c.args.plan.links c.in-Err.cluster c.args.cluster _ _ _ _ refl c.in-Err.ensures.refused refl (inl (c.serve_alone.ensures.left e))
