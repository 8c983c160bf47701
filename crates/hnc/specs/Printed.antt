-- What is printed of events.
--     told_text        what was done to an object, under which version; the object itself isn't printed, since a log is no place for Secrets
--     printed_line     the line of an event
use Rattle.std.specs.Prelude.{ℕ, List, ◌++◌, codes}
use Rattle.std.specs.Fmt.{decimal}
use Rattle.hx_object.specs.Kinds.{name_of}
use Rattle.hx_model.specs.Json.{word_of}
use Rattle.hx_model.specs.declared.event.Event.{Event}

-- what was done to an object of a kind, a namespace and a name, under which version
unfoldable pub told_text : List ℕ → ℕ → List ℕ → List ℕ → List ℕ → List ℕ
told_text word version kind ns name =
    codes "{\"type\":\"" ++ (word ++ (codes "\",\"version\":\"" ++ (decimal version ++ (codes "\",\"kind\":\"" ++ (kind ++ (codes "\",\"namespace\":\"" ++ (ns ++ (codes "\",\"name\":\"" ++ (name ++ codes "\"}\n")))))))))

-- the line of an event
abbrev pub printed_line : Event → List ℕ
printed_line e = told_text (word_of e.what) e.version (name_of e.object.id.kind) e.object.id.ns e.object.id.name
