use Rattle.std.proofs.Common.{◌∷◌, [], ◌++◌, ◌∙◌, ap, sym, codes, false, string_bytes}
use Rattle.serde_json.specs.Written.{items_text}
use Rattle.hx_object.specs.Json.{texts_items}
use Rattle.hx_json.specs.Pushed.{conditions_behind}
use Rattle.hx_json.proofs.Pushes.{status_filled}
use Rattle.hx_json.proofs.Steps.{glue, last}
use Rattle.hx_json.proofs.write.payload.push_hierarchy_status.Goals as goal

pub returns : goal.returns
returns c =
    last c.push-2.result (λ e.
    glue (string_bytes c.args.out.now)
    (codes ",\"status\":{\"children\":[" ∷ items_text false (texts_items c.args.children.now) ∷ conditions_behind c.args.conditions.now ∷
    codes "}}" ∷ [])
    (string_bytes c.push-2.new.out)
    (_, c.in_ok-push.ensures, (_, c.in_ok-push_texts.ensures, (_, c.in_ok-push_conditions_behind.ensures, e)))
    ∙ ap (λ t. string_bytes c.args.out.now ++ t) (status_filled c.args.children.now c.args.conditions.now (sym c.is_empty.ensures ∙ c.if-is_empty.false))) c.push-2.ensures
