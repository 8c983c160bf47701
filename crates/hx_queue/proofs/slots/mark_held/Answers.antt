use Rattle.std.proofs.Common.{◌≡◌, true, Some, None, sym, ap, ◌∙◌, is_some}
use Rattle.std.specs.Option.{option_copied_mut}
use Rattle.std.specs.Map.{lookup}
use Rattle.hx_model.specs.Keys.{same_key}
use Rattle.hx_queue.specs.Slots.{held_of}
use Rattle.hx_queue.proofs.Holding.{is_held_at, again_set, again_absent}
use Rattle.hx_queue.proofs.slots.mark_held.Goals as goal

pub returns-in-Some-clause-held : goal.returns-in-Some-clause-held
unfolding same_key
returns-in-Some-clause-held c =
    let at : lookup (same_key c.args.key.now) c.args.slots.now.entries ≡ Some c.in-Some.slot.now = sym c.get_mut.ensures.value ∙ ap option_copied_mut c.in-Some.is in
    sym (is_held_at c.args.key.now c.args.slots.now.entries ∙ ap is_some at)

pub returns-in-Some-clause-marked : goal.returns-in-Some-clause-marked
unfolding same_key
returns-in-Some-clause-marked c =
    let at : lookup (same_key c.args.key.now) c.args.slots.now.entries ≡ Some c.in-Some.slot.now = sym c.get_mut.ensures.value ∙ ap option_copied_mut c.in-Some.is in
    ap held_of (c.get_mut.follows.holds (record c.in-Some.slot.now { again = true })).0 ∙ again_set c.args.key.now c.in-Some.slot.now c.args.slots.now.entries c.get_mut.ensures.unique at

pub returns-in-None-clause-held : goal.returns-in-None-clause-held
unfolding same_key
returns-in-None-clause-held c =
    let at : lookup (same_key c.args.key.now) c.args.slots.now.entries ≡ None = sym c.get_mut.ensures.value ∙ ap option_copied_mut c.in-None.is in
    sym (is_held_at c.args.key.now c.args.slots.now.entries ∙ ap is_some at)

pub returns-in-None-clause-marked : goal.returns-in-None-clause-marked
unfolding same_key
returns-in-None-clause-marked c =
    let at : lookup (same_key c.args.key.now) c.args.slots.now.entries ≡ None = sym c.get_mut.ensures.value ∙ ap option_copied_mut c.in-None.is in
    ap (λ m. held_of m.entries) (c.get_mut.follows.holds-at-none) ∙ sym (again_absent c.args.key.now c.args.slots.now.entries at)
