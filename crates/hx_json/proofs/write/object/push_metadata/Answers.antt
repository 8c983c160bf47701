use Rattle.std.proofs.Common.{◌∷◌, [], ◌++◌, codes, decimal, string_bytes}
use Rattle.json.specs.Print.{quoted}
use Rattle.hx_json.specs.Pushed.{metadata_text, namespace_text, pairs_front}
use Rattle.hx_json.proofs.Steps.{glue, last}
use Rattle.hx_json.proofs.write.object.push_metadata.Goals as goal

pub returns : goal.returns
unfolding metadata_text
returns c =
    last c.push-2.result (λ e.
    glue (string_bytes c.args.out.now)
    (codes ",\"metadata\":{" ∷ pairs_front (codes "\"annotations\":") c.args.object.now.annotations ∷ pairs_front (codes "\"labels\":") c.args.object.now.labels ∷
    (codes "\"name\":" ++ quoted c.args.object.now.id.name) ∷ namespace_text c.args.object.now.id.ns ∷
    (codes ",\"resourceVersion\":" ++ quoted (decimal c.args.object.now.version)) ∷ codes "}" ∷ [])
    (string_bytes c.push-2.new.out) (_, c.in_ok-push.ensures, (_, c.in_ok-push_front.ensures, (_, c.in_ok-push_front-2.ensures, (_, c.in_ok-push_named_text.ensures, (_, c.in_ok-push_namespace_of.ensures, (_, c.in_ok-push_named_number.ensures, e))))))) c.push-2.ensures
