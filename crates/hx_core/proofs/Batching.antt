-- A loop that makes the batch of writes.
--     Batched          the objects and the identities are those of the first writes
--     batched_none     nothing is made yet
--     batched_put      an object more is put
--     batched_cut      an identity more is cut
--     cloned           an identity whose parts are another's
--     batch_whole      the objects and the identities are those of all writes
--     shared_next      one event more is shared
use Rattle.std.proofs.Common.{◌≡◌, ◌<◌, ◌≤◌, ◌+◌, ℕ, List, [], ◌∷◌, ◌++◌, Some, None, refl, sym, ap, ◌∙◌, take, length, slice_index_or}
use Rattle.std.proofs.lemmas.List.{take_more, take_all, append-nil}
use Rattle.hx_object.specs.declared.object.Id.{Id}
use Rattle.hx_object.specs.declared.object.Object.{Object}
use Rattle.hx_ports.specs.declared.keeper.Batch.{Batch}
use Rattle.hx_model.specs.declared.event.Event.{Event}
use Rattle.hx_model.specs.declared.key.Write.{Write}
use Rattle.hx_model.specs.declared.key.Write.TheVariants.{Put, Cut}
use Rattle.hx_store.specs.Changes.{id_of, object_of}
use Rattle.hx_core.specs.Rows.{objects_put, ids_cut, batch_of}

-- the objects and the identities of the first writes
pub record Batched (writes : List Write) (index : ℕ) (puts : List Object) (cuts : List Id) : Type 0 where
  pub objects : puts ≡ objects_put (take index writes)
  pub ids : cuts ≡ ids_cut (take index writes)

pub batched_none : (writes : List Write) (puts : List Object) (cuts : List Id) → puts ≡ [] → cuts ≡ [] → Batched writes 0 puts cuts
batched_none writes puts cuts objects ids = record { objects = objects; ids = ids }

objects_then : (writes : List Write) (write : Write) → objects_put (writes ++ write ∷ []) ≡ objects_put writes ++ objects_put (write ∷ [])
objects_then [] write = refl
objects_then (Put x ∷ writes) write = ap (λ objects. x ∷ objects) (objects_then writes write)
objects_then (Cut id ∷ writes) write = objects_then writes write

ids_then : (writes : List Write) (write : Write) → ids_cut (writes ++ write ∷ []) ≡ ids_cut writes ++ ids_cut (write ∷ [])
ids_then [] write = refl
ids_then (Put x ∷ writes) write = ids_then writes write
ids_then (Cut id ∷ writes) write = ap (λ ids. id ∷ ids) (ids_then writes write)

-- the items up to the next one
up_to : {A : Type 0} (items : List A) (index : ℕ) (item : A) → index < length items → item ≡ slice_index_or items index item → take (index + 1) items ≡ take index items ++ item ∷ []
up_to items index item less at = take_more items index item less ∙ ap (λ i. take index items ++ i ∷ []) (sym at)

-- one event more is shared
pub shared_next : (events : List Event) (index : ℕ) (shared shared' : List Event) (event copy : Event) → shared ≡ take index events → index < length events → event ≡ slice_index_or events index event → copy ≡ event → shared' ≡ shared ++ copy ∷ [] → shared' ≡ take (index + 1) events
shared_next events index shared shared' event copy old less at is grown = grown ∙ (λ i. old i ++ is i ∷ []) ∙ sym (up_to events index event less at)

more_objects : (writes : List Write) (index : ℕ) (write : Write) → index < length writes → write ≡ slice_index_or writes index write → objects_put (take (index + 1) writes) ≡ objects_put (take index writes) ++ objects_put (write ∷ [])
more_objects writes index write less at = ap objects_put (up_to writes index write less at) ∙ objects_then (take index writes) write

more_ids : (writes : List Write) (index : ℕ) (write : Write) → index < length writes → write ≡ slice_index_or writes index write → ids_cut (take (index + 1) writes) ≡ ids_cut (take index writes) ++ ids_cut (write ∷ [])
more_ids writes index write less at = ap ids_cut (up_to writes index write less at) ∙ ids_then (take index writes) write

-- a write of an object, and one of an identity
put_by : (write : Write) (x : Object) → Some x ≡ object_of write → write ≡ Put x
put_by (Put y) x e = let h : x ≡ y = cc in ap Put (sym h)
put_by (Cut id) x e = absurd (let h = e in cc)

cut_by : (write : Write) → None ≡ object_of write → write ≡ Cut (id_of write)
cut_by (Put y) e = absurd (let h = e in cc)
cut_by (Cut id) e = refl

pub batched_put : (writes : List Write) (index : ℕ) (puts puts' : List Object) (cuts : List Id) (write : Write) (x y : Object) → Batched writes index puts cuts → index < length writes → write ≡ slice_index_or writes index write → Some x ≡ object_of write
    → y ≡ x → puts' ≡ puts ++ y ∷ [] → Batched writes (index + 1) puts' cuts
batched_put writes index puts puts' cuts write x y old less at found is grown =
    let one = put_by write x found in record {
      objects = grown ∙ ap (λ xs. xs ++ y ∷ []) old.objects ∙ ap (λ z. objects_put (take index writes) ++ z ∷ []) is ∙ ap (λ w. objects_put (take index writes) ++ objects_put (w ∷ [])) (sym one) ∙ sym (more_objects writes index write less at);
      ids = old.ids ∙ sym (append-nil (ids_cut (take index writes))) ∙ ap (λ w. ids_cut (take index writes) ++ ids_cut (w ∷ [])) (sym one) ∙ sym (more_ids writes index write less at);
    }

-- the parts of an identity are those of another
pub cloned : (a b id : Id) → (a.kind ≡ b.kind) × ((a.ns ≡ b.ns) × (a.name ≡ b.name)) → b ≡ id → a ≡ id
cloned a b id parts is = (λ i. record { kind = parts.0 i; ns = parts.1.0 i; name = parts.1.1 i }) ∙ is

pub batched_cut : (writes : List Write) (index : ℕ) (puts : List Object) (cuts cuts' : List Id) (write : Write) (id : Id) → Batched writes index puts cuts → index < length writes → write ≡ slice_index_or writes index write → None ≡ object_of write
    → id ≡ id_of write → cuts' ≡ cuts ++ id ∷ [] → Batched writes (index + 1) puts cuts'
batched_cut writes index puts cuts cuts' write id old less at found is grown =
    let one = cut_by write found in record {
      objects = old.objects ∙ sym (append-nil (objects_put (take index writes))) ∙ ap (λ w. objects_put (take index writes) ++ objects_put (w ∷ [])) (sym one) ∙ sym (more_objects writes index write less at);
      ids = grown ∙ ap (λ ids. ids ++ id ∷ []) old.ids ∙ ap (λ i. ids_cut (take index writes) ++ i ∷ []) is ∙ ap (λ w. ids_cut (take index writes) ++ ids_cut (w ∷ [])) (sym one) ∙ sym (more_ids writes index write less at);
    }

-- the batch of all writes
pub batch_whole : (writes : List Write) (index version : ℕ) (puts puts' : List Object) (cuts cuts' : List Id) (events events' : List Event) → Batched writes index puts cuts → length writes ≤ index → puts' ≡ puts → cuts' ≡ cuts → events' ≡ events
    → ◌≡◌ {A = Batch} (record { version = version; puts = puts'; cuts = cuts'; events = events' }) (batch_of writes version events)
batch_whole writes index version puts puts' cuts cuts' events events' done all same same' told =
    let p = same ∙ done.objects ∙ ap objects_put (take_all index writes all) in
    let k = same' ∙ done.ids ∙ ap ids_cut (take_all index writes all) in
    λ i. record { version = version; puts = p i; cuts = k i; events = told i }
