use Rattle.std.proofs.Common.{◌∷◌, [], ◌++◌, codes, string_bytes}
use Rattle.json.specs.Print.{quoted}
use Rattle.hx_object.specs.Kinds.{name_of, api_version_of}
use Rattle.hx_json.specs.Pushed.{head_text, metadata_text}
use Rattle.hx_json.proofs.Steps.{glue, last}
use Rattle.hx_json.proofs.write.object.push_head.Goals as goal

pub returns : goal.returns
unfolding head_text
returns c =
    last c.push_metadata.result (λ e.
    glue (string_bytes c.args.out.now)
    ((codes "{\"apiVersion\":" ++ quoted (api_version_of c.args.object.now.id.kind)) ∷ (codes ",\"kind\":" ++ quoted (name_of c.args.object.now.id.kind)) ∷
    (codes ",\"metadata\":" ++ metadata_text c.args.object.now) ∷ [])
    (string_bytes c.push_metadata.new.out) (
      _,
      c.in_ok-push_api_version.ensures,
      (_, c.in_ok-push_kind.ensures, e),
    )) c.push_metadata.ensures
