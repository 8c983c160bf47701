use Rattle.std.proofs.Common.{◌≡◌, ap, ◌∙◌}
use Rattle.hx_store.specs.ObjectTable.{is_written}
use Rattle.hx_store.proofs.Indexing.{none_staged}
use Rattle.hx_store.proofs.Waiting.{none_awaited, none_ready}
use Rattle.hx_store.proofs.Writing.{same_objects}
use Rattle.hx_store.proofs.store.Store.discard.Goals as goal

pub returns-clause-objects : goal.returns-clause-objects
returns-clause-objects c = same_objects c.self.inside.places c.sweep_places.new.places c.self.invariant.ready.sound c.sweep_places.ensures.sound c.sweep_places.ensures.same ∙ ap (λ s. s.objects) c.self.view_is

pub invariant_of-self : goal.invariant_of-self
invariant_of-self c =
    let all : c.deref.result.now ≡ c.self.inside.staged.items = c.deref.ensures.value ∙ ap (λ v. v.items) c.replace-changes.ensures.value in
    let none = ap (λ v. v.items) c.replace-changes.ensures.after ∙ c.new.ensures.items in
    record {
      ready = none_ready c.sweep_places.new.places c.replace-changes.new.dest.items none c.sweep_places.ensures.sound
          (none_awaited c.self.inside.places c.sweep_places.new.places c.self.inside.staged.items c.deref.result.now (λ id. ap (λ ws. is_written ws id) all)
          c.self.invariant.ready.awaited c.sweep_places.ensures.others c.sweep_places.ensures.swept);
      index = c.sweep_places.ensures.index;
      awaited = none_staged c.sweep_places.new.by_name c.replace-changes.new.dest.items none;
    }
