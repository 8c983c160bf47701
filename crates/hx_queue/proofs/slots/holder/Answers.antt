use Rattle.std.proofs.Common.{◌≡◌, Some, None, sym, ap, ◌∙◌}
use Rattle.std.specs.Prelude.{option_map}
use Rattle.std.specs.Option.{option_copied}
use Rattle.std.specs.Map.{lookup}
use Rattle.hx_model.specs.Keys.{same_key}
use Rattle.hx_queue.specs.declared.slots.Slot.{Slot}
use Rattle.hx_queue.proofs.Holding.{worker_at}
use Rattle.hx_queue.proofs.slots.holder.Goals as goal

pub returns-in-Some : goal.returns-in-Some
unfolding same_key
returns-in-Some c =
    let at : lookup (same_key c.args.key.now) c.args.slots.now.entries ≡ Some c.in-Some.slot.now = sym c.get.ensures.value ∙ ap option_copied c.in-Some.is in
    sym (worker_at c.args.key.now c.args.slots.now.entries ∙ ap (option_map (λ (s : Slot). s.worker)) at)

pub returns-in-None : goal.returns-in-None
unfolding same_key
returns-in-None c =
    let at : lookup (same_key c.args.key.now) c.args.slots.now.entries ≡ None = sym c.get.ensures.value ∙ ap option_copied c.in-None.is in
    sym (worker_at c.args.key.now c.args.slots.now.entries ∙ ap (option_map (λ (s : Slot). s.worker)) at)
