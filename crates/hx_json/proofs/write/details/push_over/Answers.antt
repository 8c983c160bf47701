use Rattle.std.proofs.Common.{◌∷◌, [], ◌++◌, codes, string_bytes}
use Rattle.json.specs.Print.{quoted}
use Rattle.hx_json.specs.Pushed.{amount_text, over_text}
use Rattle.hx_json.proofs.Steps.{glue, last, seen}
use Rattle.hx_json.proofs.write.details.push_over.Goals as goal

pub returns : goal.returns
unfolding over_text
returns c =
    last c.push.result (λ e.
    glue (string_bytes c.args.out.now)
    ((codes ",\"details\":{\"asked\":" ++ amount_text c.args.asked) ∷ (codes ",\"hard\":" ++ amount_text c.args.hard) ∷
    (codes ",\"namespace\":" ++ quoted c.args.namespace.now) ∷ (codes ",\"quota\":" ++ quoted c.args.quota.now) ∷ (codes ",\"resource\":" ++ quoted c.args.resource.now) ∷
    (codes ",\"rule\":\"Q1\",\"used\":" ++ amount_text c.args.used) ∷ codes "}" ∷ [])
    (string_bytes c.push.new.out) (_, c.in_ok-push_named_amount.ensures, (_, seen (string_bytes c.push_named_amount.new.out) (λ n. codes ",\"hard\":" ++ amount_text n) c.from.ensures c.in_ok-push_named_amount-2.ensures, (_, c.in_ok-push_named_text.ensures, (_, c.in_ok-push_named_text-2.ensures, (_, c.in_ok-push_named_text-3.ensures, (_, c.in_ok-push_named_amount-3.ensures, e))))))) c.push.ensures
