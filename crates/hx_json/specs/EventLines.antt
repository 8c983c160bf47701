-- Events as lines of a log, and how code puts them and lists of them together.
--     event_line       an event as a line of JSON
--     event_text       an event of a list
--     event_front      an event up to the word of what was done
--     pushed_events    a list of events: the whole text
use Rattle.std.specs.Prelude.{ℕ, false, List, ◌++◌, codes}
use Rattle.std.specs.Fmt.{decimal}
use Rattle.json.specs.Print.{quoted}
use Rattle.serde_json.specs.Data.{Data, string, object, no_members, member}
use Rattle.serde_json.specs.Written.{compact_text, items_text}
use Rattle.hx_object.specs.Json.{object_data, object_text}
use Rattle.hx_model.specs.Json.{event_data, events_items, word_of}
use Rattle.hx_model.specs.declared.event.Event.{Event}

-- ---- lines

-- an event with its version: the object, and what was done to it
abbrev pub line_data : Event → Data
line_data e =
    object (member (codes "object") (object_data e.object) (member (codes "type") (string (word_of e.what)) (member (codes "version") (string (decimal e.version)) no_members)))

-- an event as a line of compact JSON, with its line feed
unfoldable pub event_line : Event → List ℕ
event_line e = compact_text (line_data e) ++ codes "\n"

-- ---- piece by piece

-- an event of a list
unfoldable pub event_text : Event → List ℕ
event_text e = compact_text (event_data e)

-- an event up to the word of what was done
unfoldable pub event_front : Event → List ℕ
event_front e = codes "{\"object\":" ++ (object_text e.object ++ (codes ",\"type\":" ++ quoted (word_of e.what)))

-- a list of events
unfoldable pub pushed_events : List Event → ℕ → List ℕ
pushed_events events version =
    codes "{\"items\":[" ++ (items_text false (events_items events) ++ (codes ",\"kind\":\"ChangeList\",\"metadata\":{\"resourceVersion\":" ++ (quoted (decimal version) ++ codes "}}")))
