-- What a change is seen as.
--     write_of key object     the object is put, or that of the key is cut
--     id_of, object_of        the identity that is written, and the object that is put
--     HasItsKey key object    the key is the object's own
use Rattle.std.specs.Prelude.{◌≡◌, Option, Some, None, IfSome}
use Rattle.std.specs.Option.{option_map_or}
use Rattle.std.specs.Coded.{Coded}
use Rattle.hx_object.specs.declared.object.Id.{Id}
use Rattle.hx_object.specs.declared.object.Object.{Object}
use Rattle.hx_model.specs.contracts.key.Write as write
use Rattle.hx_model.specs.declared.key.Write.{Write}
use Rattle.hx_model.specs.declared.key.Write.TheVariants.{Put, Cut}

-- the code of writes
abbrev pub write_code : Coded Write
write_code = (write.the_row).coded

-- the object is put or, where there is none, that of the key is cut
abbrev pub write_of : Id → Option Object → Write
write_of key object = option_map_or (λ x. Put x) object (Cut key)

-- the identity that is written
abbrev pub id_of : Write → Id
id_of (Put x) = x.id
id_of (Cut id) = id

-- the object that is put
abbrev pub object_of : Write → Option Object
object_of (Put x) = Some x
object_of (Cut id) = None

-- the key is the object's own
abbrev pub HasItsKey : Id → Option Object → Type 0
HasItsKey key object = IfSome object (λ x. x.id ≡ key)
