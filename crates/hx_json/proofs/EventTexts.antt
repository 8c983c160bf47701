-- Texts of events put together piece by piece are those of the values.
use Rattle.std.proofs.Common.{◌≡◌, ℕ, false, List, ◌++◌, codes, sym, ap, ◌∙◌, append_assoc, decimal}
use Rattle.json.specs.Print.{quoted, escape_byte}
use Rattle.serde_json.specs.Written.{items_text}
use Rattle.hx_object.specs.Json.{object_text}
use Rattle.hx_model.specs.Json.{events_items, events_text, word_of}
use Rattle.hx_model.specs.declared.event.Event.{Event}
use Rattle.hx_json.specs.EventLines.{event_front, event_line, event_text, pushed_events}

pub event_pushed : (e : Event) → event_front e ++ codes "}" ≡ event_text e
unfolding event_front event_text object_text escape_byte
event_pushed e = ap (λ t. codes "{\"object\":" ++ t) (append_assoc (object_text e.object) (codes ",\"type\":" ++ quoted (word_of e.what)) (codes "}"))

pub line_pushed : (e : Event) → event_front e ++ (codes ",\"version\":" ++ (quoted (decimal e.version) ++ codes "}\n")) ≡ event_line e
unfolding event_front event_line object_text escape_byte
line_pushed e =
    let text = object_text e.object in
    let word = quoted (word_of e.what) in
    let number = quoted (decimal e.version) in
    let end = codes ",\"version\":" ++ (number ++ codes "}") in
    ap (λ t. codes "{\"object\":" ++ t)
    (append_assoc text (codes ",\"type\":" ++ word) (codes ",\"version\":" ++ (number ++ codes "}\n"))
    ∙ ap (λ t. text ++ (codes ",\"type\":" ++ (word ++ (codes ",\"version\":" ++ t)))) (sym (append_assoc number (codes "}") (codes "\n")))
    ∙ ap (λ t. text ++ (codes ",\"type\":" ++ t)) (sym (append_assoc word end (codes "\n")))
    ∙ sym (append_assoc text (codes ",\"type\":" ++ (word ++ end)) (codes "\n")))

pub events_pushed : (events : List Event) (version : ℕ) → pushed_events events version ≡ events_text events version
unfolding pushed_events events_text escape_byte
events_pushed events version =
    ap (λ t. codes "{\"items\":[" ++ (items_text false (events_items events) ++ (codes ",\"kind\":\"ChangeList\",\"metadata\":{\"resourceVersion\":" ++ t)))
    (sym (append_assoc (quoted (decimal version)) (codes "}") (codes "}")))
