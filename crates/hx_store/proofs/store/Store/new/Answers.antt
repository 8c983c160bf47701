use Rattle.std.proofs.Common.{true≢false, ap, sym, ◌∙◌}
use Rattle.std.specs.Prelude.{is_some, slice_get}
use Rattle.hx_model.specs.State.{objects_from}
use Rattle.hx_store.proofs.Indexing.{empty_index, none_staged}
use Rattle.hx_store.proofs.Writing.{empty_objects, empty_sound, none_placed}
use Rattle.hx_store.proofs.store.Store.new.Goals as goal

pub invariant_of-result : goal.invariant_of-result
invariant_of-result c = record {
  ready = record {
    sound = empty_sound c.new.result c.new.ensures.long c.new.ensures.empty;
    there = λ i w e. absurd (true≢false (sym (ap is_some (sym (ap (λ ws. slice_get ws i) c.new-3.ensures.items) ∙ e))));
    awaited = λ id e. absurd (true≢false (sym (ap is_some (sym (none_placed c.new.result c.new.ensures.long c.new.ensures.empty id) ∙ e))));
  };
  index = empty_index c.new.result c.new-2.result c.new.ensures.long c.new.ensures.empty c.new-2.ensures.long c.new-2.ensures.empty;
  awaited = none_staged c.new-2.result c.new-3.result.items c.new-3.ensures.items;
}

pub returns-clause-objects : goal.returns-clause-objects
returns-clause-objects c = ap objects_from (empty_objects c.new.result.kinds c.new.ensures.empty)
