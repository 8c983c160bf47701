use Rattle.std.proofs.Common.{◌∷◌, [], ◌++◌, codes, string_bytes}
use Rattle.json.specs.Print.{quoted}
use Rattle.hx_model.specs.Replies.{name_of_rule}
use Rattle.hx_json.specs.Pushed.{rule_text}
use Rattle.hx_json.proofs.Steps.{glue, last, seen}
use Rattle.hx_json.proofs.write.details.push_rule.Goals as goal

pub returns : goal.returns
unfolding rule_text
returns c =
    last c.push.result (λ e.
    glue (string_bytes c.args.out.now)
    ((codes ",\"details\":{\"rule\":" ++ quoted (name_of_rule c.args.rule)) ∷ codes "}" ∷ [])
    (string_bytes c.push.new.out) (_, seen (string_bytes c.args.out.now) (λ t. codes ",\"details\":{\"rule\":" ++ quoted t) c.name.ensures c.in_ok-push_named.ensures, e)) c.push.ensures
