-- What a shared object is seen as.
use Rattle.std.specs.Coded.{Coded}
use Rattle.hx_object.specs.contracts.object.Object as object
use Rattle.hx_object.specs.declared.object.Object.{Object}

-- the code of objects
abbrev pub object_code : Coded Object
object_code = object.the_row.coded
