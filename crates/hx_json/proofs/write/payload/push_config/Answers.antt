use Rattle.std.proofs.Common.{◌∷◌, [], codes, false, string_bytes}
use Rattle.serde_json.specs.Written.{items_text}
use Rattle.hx_object.specs.Json.{entries_items}
use Rattle.hx_json.specs.Pushed.{config_rest}
use Rattle.hx_json.proofs.Steps.{glue, last}
use Rattle.hx_json.proofs.write.payload.push_config.Goals as goal

pub returns : goal.returns
unfolding config_rest
returns c =
    last c.push-2.result (λ e.
    glue (string_bytes c.args.out.now)
    (codes ",\"spec\":{\"resources\":[" ∷ items_text false (entries_items c.args.entries.now) ∷ codes "}}" ∷ [])
    (string_bytes c.push-2.new.out)
    (_, c.in_ok-push.ensures, (_, c.in_ok-push_entries.ensures, e))) c.push-2.ensures
