use Rattle.std.proofs.Common.{◌≡◌, IfOk, subst}
use Rattle.hx_core.proofs.Listed.{all_listed}
use Rattle.hx_core.proofs.objects.all_objects.Goals as goal

pub returns : goal.returns
returns c = subst (λ os. IfOk c.listed.result (λ objects. objects.items ≡ os)) (all_listed c.args.store.now.objects c.requires) c.listed.ensures
