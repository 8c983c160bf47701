-- Fields that lists ask for.
--     has_fields fields id    the object of an identity has the name and the namespace that are asked for
--     no_fields               none is asked for
use Rattle.std.specs.Prelude.{ℕ, Bool, true, ◌&&◌, List, Option, Some, None}
use Rattle.std.specs.Str.{bytes_eq}
use Rattle.hx_object.specs.declared.object.Id.{Id}
use Rattle.hx_model.specs.declared.fields.Fields.{Fields}

-- none is asked for
abbrev pub no_fields : Fields
no_fields = record { name = None; ns = None }

-- the text is the one that is asked for
abbrev pub is_one : Option (List ℕ) → List ℕ → Bool
is_one None text = true
is_one (Some asked) text = bytes_eq text asked

-- an identity has the name and the namespace that are asked for
abbrev pub has_fields : Fields → Id → Bool
has_fields fields id = is_one fields.name id.name && is_one fields.ns id.ns
