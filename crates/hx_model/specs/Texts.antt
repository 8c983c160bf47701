-- The texts that are stored: the key and the body of each object's row.
--     key_text        the kind's number in two digits, `/`, the namespace or nothing, `/`, the name
--     stored_entry    the key, the version and the body of an object's row
--     rows_of         the stored rows of a state, in the order of their keys by bytes
-- The order of keys isn't that of identities: of the namespaces `a` and `a-b` identities put `a` first, and keys `a-b`, since `-` is less than `/`.
use Rattle.std.specs.Prelude.{ℕ, ◌+◌, ◌/◌, ◌%◌, false, List, [], ◌∷◌, ◌++◌, map, codes}
use Rattle.std.specs.FinMap as finite
use Rattle.hx_object.specs.Json.{object_text}
use Rattle.hx_object.specs.Kinds.{number_of}
use Rattle.hx_object.specs.Texts.{bytes_cmp}
use Rattle.hx_object.specs.declared.object.Id.{Id}
use Rattle.hx_object.specs.declared.object.Object.{Object}
use Rattle.hx_object.specs.declared.object.Payload.TheVariants.{Namespace as NamespacePayload}
use Rattle.hx_model.specs.State.{State, Objects, namespace_id}

-- a number below a hundred in two digits
abbrev pub two_digits : ℕ → List ℕ
two_digits n = (48 + n / 10) ∷ (48 + n % 10) ∷ []

-- the key of an object's row
unfoldable pub key_text : Id → List ℕ
key_text id = two_digits (number_of id.kind) ++ (codes "/" ++ (id.ns ++ (codes "/" ++ id.name)))

-- a namespace as a request gives it: without labels or annotations, and without a version yet
abbrev pub new_namespace : List ℕ → Object
new_namespace name = record { id = namespace_id name; labels = []; annotations = []; payload = NamespacePayload false; version = 0 }

-- the row of an object: its key, its version and its text
abbrev pub stored_entry : Object → List ℕ × (ℕ × List ℕ)
stored_entry x = (key_text x.id, (x.version, object_text x))

-- the stored rows of objects
abbrev pub rows_of_objects : Objects → finite.FinMap bytes_cmp (ℕ × List ℕ)
rows_of_objects objects = finite.from_entries (map stored_entry objects)

-- the stored rows of a state
abbrev pub rows_of : State → finite.FinMap bytes_cmp (ℕ × List ℕ)
rows_of s = rows_of_objects s.objects
