use Rattle.std.proofs.Common.{◌∷◌, [], ◌++◌, codes, string_bytes, length, ◌-◌}
use Rattle.json.specs.Print.{quoted}
use Rattle.hx_object.specs.Kinds.{name_of, api_version_of}
use Rattle.hx_json.specs.Pushed.{front_part, later_part, plain_text, metadata_text}
use Rattle.hx_json.proofs.Steps.{glue, last}
use Rattle.hx_json.proofs.write.object.push_plain.Goals as goal

pub returns : goal.returns
unfolding plain_text
returns c =
    last c.push.result (λ e.
    glue (string_bytes c.args.out.now)
    (front_part c.args.text.now c.args.places.api_version ∷ (codes "\"apiVersion\":" ++ quoted (api_version_of c.args.object.now.id.kind)) ∷
    later_part c.args.text.now c.args.places.api_version c.args.places.kind ∷ (codes ",\"kind\":" ++ quoted (name_of c.args.object.now.id.kind)) ∷
    later_part c.args.text.now c.args.places.kind c.args.places.metadata ∷ (codes ",\"metadata\":" ++ metadata_text c.args.object.now) ∷
    later_part c.args.text.now c.args.places.metadata (length c.args.text.now - 1) ∷ codes "}" ∷ [])
    (string_bytes c.push.new.out) (
      _,
      c.in_ok-push_front_part.ensures,
      (
        _,
        c.in_ok-push_api_version.ensures,
        (
          _,
          c.in_ok-push_later_part.ensures,
          (
            _,
            c.in_ok-push_kind.ensures,
            (
              _,
              c.in_ok-push_later_part-2.ensures,
              (_, c.in_ok-push_metadata.ensures, (_, c.in_ok-push_later_part-3.ensures, e)),
            ),
          ),
        ),
      ),
    )) c.push.ensures
