use Rattle.std.proofs.Common.{◌∷◌, [], ◌++◌, ◌∙◌, ap, sym, codes, string_bytes}
use Rattle.hx_json.specs.Pushed.{hard_text, used_text}
use Rattle.hx_json.proofs.Pushes.{usages_filled}
use Rattle.hx_json.proofs.Steps.{glue, last}
use Rattle.hx_json.proofs.write.usages.push_usages.Goals as goal

pub returns : goal.returns
returns c =
    last c.push-4.result (λ e.
    glue (string_bytes c.args.out.now)
    (codes ",\"status\":{\"hard\":{" ∷ hard_text c.args.usages.now ∷ codes ",\"used\":{" ∷ used_text c.args.usages.now ∷ codes "}}" ∷ [])
    (string_bytes c.push-4.new.out)
    (_, c.in_ok-push.ensures, (_, c.in_ok-push_hard.ensures, (_, c.in_ok-push-2.ensures, (_, c.in_ok-push_used.ensures, e))))
    ∙ ap (λ t. string_bytes c.args.out.now ++ t) (usages_filled c.args.usages.now (sym c.is_empty.ensures ∙ c.if-is_empty.false))) c.push-4.ensures
