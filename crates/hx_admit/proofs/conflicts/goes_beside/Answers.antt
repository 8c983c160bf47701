use Rattle.std.proofs.Common.{◌≡◌, ◌∙◌, sym}
use Rattle.std.specs.Str.{bytes_eq}
use Rattle.hx_object.specs.declared.object.Mode.TheVariants.{Propagate}
use Rattle.hx_admit.specs.Conflicting.{goes_down, goes_beside}
use Rattle.hx_admit.proofs.Conflicting.{beside_home, beside_other}
use Rattle.hx_admit.proofs.conflicts.goes_beside.Goals as goal

pub returns-then-eq : goal.returns-then-eq
returns-then-eq c = beside_home c.args.state.now.state c.args.home.now c.args.ns.now c.args.kind c.args.name.now c.args.ancestor.now ((λ i. bytes_eq ((sym c.as_str.ensures.value) i) ((sym c.as_str-2.ensures.value) i)) ∙ sym c.eq.ensures ∙ c.if-eq.true)

pub returns : goal.returns
returns c =
    let is : goes_down c.args.state.now.state Propagate c.args.ns.now c.args.kind c.args.name.now c.args.ancestor.now ≡ goes_beside c.args.state.now.state c.args.home.now c.args.ns.now c.args.kind c.args.name.now c.args.ancestor.now =
    beside_other c.args.state.now.state c.args.home.now c.args.ns.now c.args.kind c.args.name.now c.args.ancestor.now ((λ i. bytes_eq ((sym c.as_str.ensures.value) i) ((sym c.as_str-2.ensures.value) i)) ∙ sym c.eq.ensures ∙ c.if-eq.false) in
    rw (← is) c.goes_down.ensures
