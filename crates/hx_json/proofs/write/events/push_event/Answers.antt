use Rattle.std.proofs.Common.{◌∷◌, [], ◌++◌, ◌∙◌, ap, codes, string_bytes}
use Rattle.hx_json.specs.EventLines.{event_front}
use Rattle.hx_json.proofs.EventTexts.{event_pushed}
use Rattle.hx_json.proofs.Steps.{glue, last}
use Rattle.hx_json.proofs.write.events.push_event.Goals as goal

pub returns : goal.returns
returns c =
    let e = c.args.event.now in
    last c.push.result (λ closed.
    glue (string_bytes c.args.out.now) (event_front e ∷ codes "}" ∷ []) (string_bytes c.push.new.out) (_, c.in_ok-push_front.ensures, closed)
    ∙ ap (λ t. string_bytes c.args.out.now ++ t) (event_pushed e)) c.push.ensures
