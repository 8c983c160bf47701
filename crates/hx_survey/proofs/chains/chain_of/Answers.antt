use Rattle.std.proofs.Common.{◌≡◌, ◌∙◌, ℕ, List, [], Some, IfOk, length, ap, subst}
use Rattle.hx_model.specs.Forest.{climb}
use Rattle.hx_survey.specs.Inside.{name_at}
use Rattle.hx_survey.proofs.Climbed.{climb_names}
use Rattle.hx_survey.proofs.chains.chain_of.Goals as goal

pub returns : goal.returns
returns c =
    let f = c.args.nodes.now in
    subst (λ (names : List (List ℕ)). IfOk c.climb.result (λ chain. chain.items ≡ names))
    (ap (λ at. climb (length f) f [] (name_at f at)) c.place_of.ensures ∙ climb_names (length f) f [] (Some c.args.name.now))
    c.climb.ensures
