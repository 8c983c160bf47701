use Rattle.std.proofs.Common.{◌∷◌, [], codes, false, string_bytes}
use Rattle.serde_json.specs.Written.{members_text}
use Rattle.hx_object.specs.Json.{limits_members}
use Rattle.hx_json.specs.Pushed.{quota_spec}
use Rattle.hx_json.proofs.Steps.{glue, last}
use Rattle.hx_json.proofs.write.payload.push_quota_spec.Goals as goal

pub returns : goal.returns
unfolding quota_spec
returns c =
    last c.push-2.result (λ e.
    glue (string_bytes c.args.out.now)
    (codes ",\"spec\":{\"hard\":{" ∷ members_text false (limits_members c.args.hard.now) ∷ codes "}" ∷ [])
    (string_bytes c.push-2.new.out)
    (_, c.in_ok-push.ensures, (_, c.in_ok-push_limits.ensures, e))) c.push-2.ensures
