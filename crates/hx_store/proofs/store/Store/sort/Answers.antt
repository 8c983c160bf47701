use Rattle.std.proofs.Common.{◌≡◌, ap, ◌∙◌}
use Rattle.hx_object.specs.declared.object.Id.{Id}
use Rattle.hx_store.specs.ObjectTable.{IsObjectTable, found, objects_at, place_at}
use Rattle.hx_store.proofs.Indexing.{index_places}
use Rattle.hx_store.proofs.Waiting.{stay_ready}
use Rattle.hx_store.proofs.Writing.{same_objects}
use Rattle.hx_store.proofs.store.Store.sort.Goals.{After-sort}
use Rattle.hx_store.proofs.store.Store.sort.Goals as goal

distinct : (c : After-sort) → IsObjectTable c.sort.new.self
distinct c = c.sort.ensures.places c.self.invariant.ready.sound.distinct

same : (c : After-sort) (id : Id) → place_at c.sort.new.self id ≡ place_at c.self.inside.places id
same c = c.sort.ensures.same c.self.invariant.ready.sound.distinct

pub invariant_of-self : goal.invariant_of-self
invariant_of-self c = record {
  ready = stay_ready c.self.inside.places c.sort.new.self c.self.inside.staged.items (distinct c) (same c) c.self.invariant.ready;
  index = index_places c.self.inside.by_name c.self.inside.places c.sort.new.self (λ id. ap found (same c id)) c.self.invariant.index;
  awaited = c.self.invariant.awaited;
}

pub returns : goal.returns
returns c =
    let ready = stay_ready c.self.inside.places c.sort.new.self c.self.inside.staged.items (distinct c) (same c) c.self.invariant.ready in
    let objects : objects_at c.sort.new.self ≡ objects_at c.self.inside.places = same_objects c.self.inside.places c.sort.new.self c.self.invariant.ready.sound ready.sound (λ id. ap found (same c id)) in
    (λ i. record { objects = objects i; version = c.self.inside.version; staged = c.self.inside.staged.items }) ∙ c.self.view_is
