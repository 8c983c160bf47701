use Rattle.std.proofs.Common.{◌∷◌, [], ◌++◌, ◌∙◌, ap, sym, codes, false, string_bytes}
use Rattle.serde_json.specs.Written.{items_text}
use Rattle.hx_object.specs.Json.{conditions_items}
use Rattle.hx_json.proofs.Pushes.{conditions_filled}
use Rattle.hx_json.proofs.Steps.{glue, last}
use Rattle.hx_json.proofs.write.payload.push_conditions_alone.Goals as goal

pub returns : goal.returns
returns c =
    last c.push-3.result (λ e.
    glue (string_bytes c.args.out.now)
    (codes ",\"status\":{\"conditions\":[" ∷ items_text false (conditions_items c.args.conditions.now) ∷ codes "}}" ∷ [])
    (string_bytes c.push-3.new.out)
    (_, c.in_ok-push.ensures, (_, c.in_ok-push_conditions.ensures, e))
    ∙ ap (λ t. string_bytes c.args.out.now ++ t) (conditions_filled c.args.conditions.now (sym c.is_empty.ensures ∙ c.if-is_empty.false))) c.push-3.ensures
