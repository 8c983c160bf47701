use Rattle.std.proofs.Common.{◌∷◌, [], ◌++◌, ◌∙◌, ap, codes, decimal, string_bytes}
use Rattle.json.specs.Print.{quoted}
use Rattle.hx_model.specs.Replies.{code_of, message_of, reason_of, reason_row}
use Rattle.hx_json.specs.Pushed.{details_part, pushed_status}
use Rattle.hx_json.proofs.Pushes.{status_pushed}
use Rattle.hx_json.proofs.Steps.{glue, last, seen}
use Rattle.hx_json.proofs.write.status.push_status.Goals as goal

pub returns : goal.returns
unfolding pushed_status
returns c =
    last c.push-2.result (λ e.
    glue (string_bytes c.args.out.now)
    (codes "{\"apiVersion\":\"v1\",\"code\":" ∷ decimal (code_of c.args.refusal.now) ∷ details_part c.args.refusal.now ∷
    (codes ",\"kind\":\"Status\",\"message\":" ++ quoted (message_of c.args.refusal.now)) ∷
    (codes ",\"metadata\":{},\"reason\":" ++ quoted (reason_of c.args.refusal.now)) ∷ codes ",\"status\":\"Failure\"}" ∷ [])
    (string_bytes c.push-2.new.out) (_, c.in_ok-push.ensures, (_, seen (string_bytes c.push.new.out) decimal c.code.ensures c.in_ok-push_number.ensures, (_, c.in_ok-push_details.ensures, (_, seen (string_bytes c.push_details.new.out) (λ t. codes ",\"kind\":\"Status\",\"message\":" ++ quoted t) c.in_ok-message.ensures c.in_ok-push_named_text.ensures, (_, seen (string_bytes c.push_named_text.new.out) (λ t. codes ",\"metadata\":{},\"reason\":" ++ quoted t) (c.name.ensures ∙ ap (λ r. (reason_row r).name) c.reason.ensures) c.in_ok-push_named.ensures, e)))))
    ∙ ap (λ t. string_bytes c.args.out.now ++ t) (status_pushed c.args.refusal.now)) c.push-2.ensures
