use Rattle.std.proofs.Common.{◌≡◌, ◌∙◌, sym, ap, Some, None, rules}
use Rattle.std.specs.Prelude.{option_copied}
use Rattle.hx_model.specs.Propagation.{id_in}
use Rattle.hx_model.specs.State.{object_at}
use Rattle.hx_admit.proofs.Conflicting.{down_found, down_none}
use Rattle.hx_admit.proofs.conflicts.goes_down.Goals as goal

pub returns-in-Some : goal.returns-in-Some
returns-in-Some c =
    let at : object_at c.args.state.now.state.objects (id_in c.args.kind c.args.name.now c.args.ancestor.now) ≡ option_copied c.find.result =
    rw (← c.store.ensures.objects) ((λ i. object_at c.store.result.now.objects (id_in c.args.kind ((sym c.as_str-2.ensures.value) i) ((sym c.as_str.ensures.value) i))) ∙ sym c.find.ensures) in
    let is : option_copied c.find.result ≡ Some c.object.result.now = ap option_copied c.in-Some.is ∙ ap Some (sym c.object.ensures) in
    down_found c.args.state.now.state c.args.mode c.args.ns.now c.args.kind c.args.name.now c.args.ancestor.now c.object.result.now c.goes_at.result (at ∙ is) c.goes_at.ensures

pub returns-in-None : goal.returns-in-None
returns-in-None c =
    let at : object_at c.args.state.now.state.objects (id_in c.args.kind c.args.name.now c.args.ancestor.now) ≡ None = rw (← c.store.ensures.objects) (search rules) in
    down_none c.args.state.now.state c.args.mode c.args.ns.now c.args.kind c.args.name.now c.args.ancestor.now at
