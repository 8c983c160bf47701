use Rattle.std.proofs.Common.{◌∷◌, [], ◌++◌, codes, string_bytes}
use Rattle.json.specs.Print.{quoted}
use Rattle.hx_object.specs.Json.{object_text}
use Rattle.hx_model.specs.Json.{word_of}
use Rattle.hx_json.specs.EventLines.{event_front}
use Rattle.hx_json.proofs.Steps.{glue, last, seen}
use Rattle.hx_json.proofs.write.events.push_front.Goals as goal

pub returns : goal.returns
unfolding event_front
returns c =
    let e = c.args.event.now in
    last c.push_named.result (λ named.
    glue (string_bytes c.args.out.now)
    (codes "{\"object\":" ∷ object_text e.object ∷ (codes ",\"type\":" ++ quoted (word_of e.what)) ∷ [])
    (string_bytes c.push_named.new.out)
    (_, c.in_ok-push.ensures, (_, seen (string_bytes c.push.new.out) object_text c.object.ensures c.in_ok-push_object.ensures, seen (string_bytes c.push_object.new.out) (λ t. codes ",\"type\":" ++ quoted t) c.word_of.ensures named))) c.push_named.ensures
