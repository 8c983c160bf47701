use Rattle.std.proofs.Common.{◌∷◌, [], ◌++◌, ◌∙◌, ap, codes, decimal, string_bytes}
use Rattle.json.specs.Print.{quoted}
use Rattle.hx_json.specs.Pushed.{pushed_deleted}
use Rattle.hx_json.proofs.Pushes.{deleted_pushed}
use Rattle.hx_json.proofs.Steps.{glue, last}
use Rattle.hx_json.proofs.write.status.push_deleted.Goals as goal

pub returns : goal.returns
unfolding pushed_deleted
returns c =
    last c.push.result (λ e.
    glue (string_bytes c.args.out.now)
    ((codes "{\"apiVersion\":\"v1\",\"kind\":\"Status\",\"metadata\":{\"resourceVersion\":" ++ quoted (decimal c.args.version)) ∷
    codes "},\"status\":\"Success\"}" ∷ [])
    (string_bytes c.push.new.out) (_, c.in_ok-push_named_number.ensures, e)
    ∙ ap (λ t. string_bytes c.args.out.now ++ t) (deleted_pushed c.args.version)) c.push.ensures
