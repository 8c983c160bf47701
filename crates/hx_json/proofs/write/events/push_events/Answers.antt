use Rattle.std.proofs.Common.{◌∷◌, [], ◌++◌, ◌∙◌, ap, codes, decimal, false, string_bytes}
use Rattle.json.specs.Print.{quoted}
use Rattle.serde_json.specs.Written.{items_text}
use Rattle.hx_model.specs.Json.{events_items}
use Rattle.hx_json.specs.EventLines.{pushed_events}
use Rattle.hx_json.proofs.EventTexts.{events_pushed}
use Rattle.hx_json.proofs.Steps.{glue, last}
use Rattle.hx_json.proofs.write.events.push_events.Goals as goal

pub returns : goal.returns
unfolding pushed_events
returns c =
    last c.push-2.result (λ closed.
    glue (string_bytes c.args.out.now)
    (codes "{\"items\":[" ∷ items_text false (events_items c.args.events.now) ∷
    (codes ",\"kind\":\"ChangeList\",\"metadata\":{\"resourceVersion\":" ++ quoted (decimal c.args.version)) ∷ codes "}}" ∷ [])
    (string_bytes c.push-2.new.out)
    (_, c.in_ok-push.ensures, (_, c.in_ok-push_items.ensures, (_, c.in_ok-push_named_number.ensures, closed)))
    ∙ ap (λ t. string_bytes c.args.out.now ++ t) (events_pushed c.args.events.now c.args.version)) c.push-2.ensures
