-- The batches of writes.
--     current_schema       the schema of the rows
--     batch_of             the batch of writes: objects that are put, identities that are cut, and the events that are told
use Rattle.std.specs.Prelude.{ℕ, List, [], ◌∷◌}
use Rattle.hx_object.specs.declared.object.Id.{Id}
use Rattle.hx_object.specs.declared.object.Object.{Object}
use Rattle.hx_model.specs.declared.event.Event.{Event}
use Rattle.hx_model.specs.declared.key.Write.{Write}
use Rattle.hx_model.specs.declared.key.Write.TheVariants.{Put, Cut}
use Rattle.hx_ports.specs.declared.keeper.Batch.{Batch}

-- the schema of the rows
abbrev pub current_schema : ℕ
current_schema = 2

-- the objects that are put
abbrev pub objects_put : List Write → List Object
objects_put [] = []
objects_put (Put x ∷ writes) = x ∷ objects_put writes
objects_put (Cut id ∷ writes) = objects_put writes

-- the identities of those that are cut
abbrev pub ids_cut : List Write → List Id
ids_cut [] = []
ids_cut (Put x ∷ writes) = ids_cut writes
ids_cut (Cut id ∷ writes) = id ∷ ids_cut writes

-- the batch of writes, with their events
abbrev pub batch_of : List Write → ℕ → List Event → Batch
batch_of writes version events = record { version = version; puts = objects_put writes; cuts = ids_cut writes; events = events }
