use Rattle.std.proofs.Common.{◌≡◌, Some, sym, ap, ◌∙◌}
use Rattle.std.specs.Prelude.{option_map}
use Rattle.std.specs.Map.{lookup}
use Rattle.hx_model.specs.Keys.{same_key}
use Rattle.hx_queue.specs.declared.slots.Slot.{Slot}
use Rattle.hx_queue.proofs.Holding.{is_held_at, again_at, some_from, stored_is, let_go_held}
use Rattle.hx_queue.proofs.slots.let_go.Goals as goal

pub unwrap-key-requires : goal.unwrap-key-requires
unfolding same_key
unwrap-key-requires c = some_from (λ p. p.1) c.swap_remove_entry.result _ c.swap_remove_entry.ensures.value (sym (is_held_at c.args.key.now c.args.slots.now.entries) ∙ c.requires)

pub returns-clause-key : goal.returns-clause-key
unfolding same_key
returns-clause-key c = stored_is c.args.key.now c.unwrap-key.result.0 c.args.slots.now.entries (sym c.swap_remove_entry.ensures.key ∙ ap (option_map (λ p. p.0)) c.unwrap-key.ensures)

pub returns-clause-again : goal.returns-clause-again
unfolding same_key
returns-clause-again c =
    let at : lookup (same_key c.args.key.now) c.args.slots.now.entries ≡ Some c.unwrap-key.result.1 = sym c.swap_remove_entry.ensures.value ∙ ap (option_map (λ p. p.1)) c.unwrap-key.ensures in
    again_at c.args.key.now c.args.slots.now.entries ∙ ap (option_map (λ (s : Slot). s.again)) at

pub returns-clause-held : goal.returns-clause-held
unfolding same_key
returns-clause-held c = let_go_held c.args.key.now c.args.slots.now c.swap_remove_entry.new.self c.len-len.ensures.unique c.swap_remove_entry.ensures.unique c.swap_remove_entry.ensures.updates.0
