-- Lists of objects and of events as JSON values, and their compact texts.
--     list_text       a list of objects of one kind
--     word_of         the word of what a write did
--     events_text     a list of events
-- Members stand in byte order of their names.
use Rattle.std.specs.Prelude.{ℕ, List, [], ◌∷◌, ◌++◌, codes}
use Rattle.std.specs.Fmt.{decimal}
use Rattle.serde_json.specs.Data.{Data, string, array, object, Items, no_items, item, no_members, member}
use Rattle.serde_json.specs.Written.{compact_text}
use Rattle.hx_object.specs.Json.{object_data}
use Rattle.hx_object.specs.Kinds.{name_of, api_version_of}
use Rattle.hx_object.specs.declared.kind.Kind.{Kind}
use Rattle.hx_object.specs.declared.object.Object.{Object}
use Rattle.hx_model.specs.declared.event.Event.{Event}
use Rattle.hx_model.specs.declared.event.What.{What}
use Rattle.hx_model.specs.declared.event.What.TheVariants.{Added, Changed, Removed}

abbrev pub objects_items : List Object → Items
objects_items [] = no_items
objects_items (x ∷ xs) = item (object_data x) (objects_items xs)

-- a list of objects of one kind, with the version of the store
abbrev pub list_data : Kind → List Object → ℕ → Data
list_data kind objects version =
    object (member (codes "apiVersion") (string (api_version_of kind)) (member (codes "items") (array (objects_items objects)) (member (codes "kind") (string (name_of kind ++ codes "List"))
    (member (codes "metadata") (object (member (codes "resourceVersion") (string (decimal version)) no_members)) no_members))))

unfoldable pub list_text : Kind → List Object → ℕ → List ℕ
list_text kind objects version = compact_text (list_data kind objects version)

-- the word of what a write did, as a Kubernetes watch has it
abbrev pub word_of : What → List ℕ
word_of Added = codes "ADDED"
word_of Changed = codes "MODIFIED"
word_of Removed = codes "DELETED"

-- an event: the object, and what was done to it
abbrev pub event_data : Event → Data
event_data e = object (member (codes "object") (object_data e.object) (member (codes "type") (string (word_of e.what)) no_members))

abbrev pub events_items : List Event → Items
events_items [] = no_items
events_items (e ∷ es) = item (event_data e) (events_items es)

-- a list of events, with the version of the store
abbrev pub events_data : List Event → ℕ → Data
events_data events version =
    object (member (codes "items") (array (events_items events)) (member (codes "kind") (string (codes "ChangeList"))
    (member (codes "metadata") (object (member (codes "resourceVersion") (string (decimal version)) no_members)) no_members)))

unfoldable pub events_text : List Event → ℕ → List ℕ
events_text events version = compact_text (events_data events version)
