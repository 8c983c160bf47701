use Rattle.std.proofs.Common.{◌∷◌, [], ◌++◌, ◌∙◌, ap, codes, decimal, false, string_bytes}
use Rattle.json.specs.Print.{quoted}
use Rattle.hx_object.specs.Kinds.{name_of, api_version_of}
use Rattle.serde_json.specs.Written.{items_text}
use Rattle.hx_model.specs.Json.{objects_items}
use Rattle.hx_json.specs.Pushed.{pushed_list}
use Rattle.hx_json.proofs.Pushes.{list_pushed}
use Rattle.hx_json.proofs.Steps.{glue, last, seen}
use Rattle.hx_json.proofs.write.list.push_list.Goals as goal

pub returns : goal.returns
unfolding pushed_list
returns c =
    last c.push-4.result (λ e.
    glue (string_bytes c.args.out.now)
    ((codes "{\"apiVersion\":" ++ quoted (api_version_of c.args.kind)) ∷ codes ",\"items\":[" ∷ items_text false (objects_items c.args.objects.now) ∷
    codes ",\"kind\":\"" ∷ name_of c.args.kind ∷ (codes "List\",\"metadata\":{\"resourceVersion\":" ++ quoted (decimal c.args.version)) ∷ codes "}}" ∷
    [])
    (string_bytes c.push-4.new.out) (
      _,
      c.in_ok-push_api_version.ensures,
      (
        _,
        c.in_ok-push.ensures,
        (
          _,
          c.in_ok-push_objects.ensures,
          (
            _,
            c.in_ok-push-2.ensures,
            (
              _,
              seen (string_bytes c.push-2.new.out) (λ t. t) c.name.ensures c.in_ok-push-3.ensures,
              (_, c.in_ok-push_named_number.ensures, e),
            ),
          ),
        ),
      ),
    )
    ∙ ap (λ t. string_bytes c.args.out.now ++ t) (list_pushed c.args.kind c.args.objects.now c.args.version)) c.push-4.ensures
