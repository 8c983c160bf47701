use Rattle.std.proofs.Common.{◌∙◌}
use Rattle.hx_model.specs.Keys.{same_key}
use Rattle.indexmap.proofs.CallerLemmas.{insert_entry-new}
use Rattle.hx_queue.proofs.Holding.{none_at, on_ok}
use Rattle.hx_queue.proofs.slots.put.Goals as goal

pub returns-clause-entries : goal.returns-clause-entries
unfolding same_key
returns-clause-entries c =
    let none = none_at c.args.key c.args.slots.now.entries c.requires.free in
    on_ok c.insert-held.result _ (c.insert-held.ensures.succeeds c.requires.room) c.insert-held.ensures.entries ∙ insert_entry-new same_key c.args.slots.now c.args.key c.args.slot none
