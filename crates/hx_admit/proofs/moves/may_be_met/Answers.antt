use Rattle.std.proofs.Common.{ℕ, List, subst}
use Rattle.hx_store.specs.Sources.{HasNoneBeside}
use Rattle.hx_admit.proofs.Moved.{met_none}
use Rattle.hx_admit.proofs.moves.may_be_met.Goals as goal

pub returns : goal.returns
returns c = λ out. met_none c.args.store.now.objects c.args.object.now.id.kind c.args.object.now.id.name c.args.name.now
    (subst (λ (m : List ℕ). HasNoneBeside c.args.store.now.objects c.args.object.now.id.kind c.args.object.now.id.name m) c.as_str-2.ensures.value
    (subst (λ (n : List ℕ). HasNoneBeside c.args.store.now.objects c.args.object.now.id.kind n c.as_str-2.result.now) c.as_str.ensures.value (c.may_lie_beside.ensures out)))
