-- Texts of events, each written out by hand.
use Rattle.std.specs.Prelude.{codes}
use Rattle.std.proofs.Common.{◌≡◌, ◌-◌, ◌^◌, ℕ, false, [], ◌∷◌, Some, None, refl}
use Rattle.std.specs.Fmt.{digits}
use Rattle.serde_json.proofs.OnLiterals.{serde_json_on_literals}
use Rattle.hx_object.specs.declared.kind.Kind.TheVariants.{Namespace}
use Rattle.hx_object.specs.declared.object.Payload.TheVariants.{Namespace as NamespaceOf}
use Rattle.hx_model.specs.Json.{events_text}
use Rattle.hx_model.specs.declared.event.Event.{Event}
use Rattle.hx_model.specs.declared.event.What.{What}
use Rattle.hx_model.specs.declared.event.What.TheVariants.{Added, Changed, Removed}
use Rattle.hx_json.specs.EventLines.{event_line}
use Rattle.hx_json.specs.LongDecimals.{long_decimal}

-- what was done to a namespace
abbrev done : What → ℕ → Event
done what version = record {
  version = version;
  what = what;
  object = record { id = record { kind = Namespace; ns = []; name = codes "a" }; labels = []; annotations = []; payload = NamespaceOf false; version = version };
}

text_of_none : events_text [] 4 ≡ codes "{\"items\":[],\"kind\":\"ChangeList\",\"metadata\":{\"resourceVersion\":\"4\"}}"
unfolding events_text digits serde_json_on_literals
text_of_none = refl

text_of_two : events_text (done Added 6 ∷ done Changed 7 ∷ []) 12 ≡ codes "{\"items\":[{\"object\":{\"apiVersion\":\"v1\",\"kind\":\"Namespace\",\"metadata\":{\"name\":\"a\",\"resourceVersion\":\"6\"},\"status\":{\"phase\":\"Active\"}},\"type\":\"ADDED\"},{\"object\":{\"apiVersion\":\"v1\",\"kind\":\"Namespace\",\"metadata\":{\"name\":\"a\",\"resourceVersion\":\"7\"},\"status\":{\"phase\":\"Active\"}},\"type\":\"MODIFIED\"}],\"kind\":\"ChangeList\",\"metadata\":{\"resourceVersion\":\"12\"}}"
unfolding events_text digits serde_json_on_literals
text_of_two = refl

line_of_removal : event_line (done Removed 7) ≡ codes "{\"object\":{\"apiVersion\":\"v1\",\"kind\":\"Namespace\",\"metadata\":{\"name\":\"a\",\"resourceVersion\":\"7\"},\"status\":{\"phase\":\"Active\"}},\"type\":\"DELETED\",\"version\":\"7\"}\n"
unfolding event_line digits serde_json_on_literals
line_of_removal = refl

-- ---- numbers

zero_alone : long_decimal (codes "0") ≡ Some 0
zero_alone = refl

zero_first : long_decimal (codes "07") ≡ None
zero_first = refl

no_digits : long_decimal [] ≡ None
no_digits = refl

-- the largest of 19 digits is over every version, and one digit more is none
largest : long_decimal (codes "9999999999999999999") ≡ Some (10 ^ 19 - 1)
largest = refl

too_long : long_decimal (codes "10000000000000000000") ≡ None
too_long = refl
