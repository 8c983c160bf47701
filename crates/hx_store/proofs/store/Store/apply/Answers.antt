use Rattle.std.proofs.Common.{◌≡◌, ◌++◌, drop, length, sym, take, ap, subst, ◌∙◌}
use Rattle.std.proofs.Math.Seq.{take-append_seam}
use Rattle.hx_model.specs.State.{after_writes}
use Rattle.hx_store.specs.ObjectTable.{AreAwaited, is_written, objects_at}
use Rattle.hx_store.specs.ByName.{HasEntries}
use Rattle.hx_store.proofs.Indexing.{none_staged}
use Rattle.hx_store.proofs.Waiting.{more_awaited, none_awaited, none_ready}
use Rattle.hx_store.proofs.Writing.{same_objects}
use Rattle.hx_store.proofs.store.Store.apply.Goals as goal

all : (c : goal.After-drop-changes) → c.deref_mut.result.now ≡ c.self.inside.staged.items
all c = c.deref_mut.ensures.value ∙ ap (λ v. v.items) c.replace-changes.ensures.value

pub sweep_places-requires-clause-index : goal.sweep_places-requires-clause-index
sweep_places-requires-clause-index c =
    let by_name = c.self.inside.by_name in
    c.make_writes.ensures.index by_name c.self.invariant.index (subst (HasEntries by_name) (sym (c.deref_mut.ensures.value ∙ ap (λ v. v.items) c.replace-changes.ensures.value)) c.self.invariant.awaited)

pub returns-clause-objects : goal.returns-clause-objects
returns-clause-objects c =
    same_objects c.make_writes.new.places c.sweep_places.new.places c.make_writes.ensures.sound c.sweep_places.ensures.sound c.sweep_places.ensures.same
    ∙ c.make_writes.ensures.objects ∙ ap (λ ws. after_writes ws (objects_at c.self.inside.places)) (all c) ∙ ap (λ s. after_writes s.staged s.objects) c.self.view_is

pub invariant_of-self : goal.invariant_of-self
invariant_of-self c =
    let changes = c.make_writes.new.changes in
    let rest = drop (length changes) c.replace-changes.result.items in
    let swept : c.deref.result.now ≡ changes = c.deref.ensures.value ∙ ap (λ n. take n (changes ++ rest)) (sym (c.make_writes.auto.changes ∙ c.deref_mut.ensures.len)) ∙ take-append_seam changes rest in
    let none = ap (λ v. v.items) c.replace-changes.ensures.after ∙ c.new.ensures.items in
    let awaited : AreAwaited c.make_writes.new.places c.deref_mut.result.now = more_awaited c.self.inside.places c.make_writes.new.places c.self.inside.staged.items c.deref_mut.result.now
    (λ id e. ap (λ ws. is_written ws id) (all c) ∙ e) c.self.invariant.ready.awaited c.make_writes.ensures.others in
    record {
      ready = none_ready c.sweep_places.new.places c.replace-changes.new.dest.items none c.sweep_places.ensures.sound
          (none_awaited c.make_writes.new.places c.sweep_places.new.places c.deref_mut.result.now c.deref.result.now (λ id. ap (λ ws. is_written ws id) swept ∙ c.make_writes.ensures.ids id)
          awaited c.sweep_places.ensures.others c.sweep_places.ensures.swept);
      index = c.sweep_places.ensures.index;
      awaited = none_staged c.sweep_places.new.by_name c.replace-changes.new.dest.items none;
    }
