use Rattle.std.proofs.Common.{rules, ◌≡◌, ◌∙◌, false, length}
use Rattle.std.specs.Prelude.{replicate}
use Rattle.hx_survey.proofs.Climbed.{none_marked}
use Rattle.hx_survey.proofs.chains.unmarked.Goals as goal

pub returns : goal.returns
returns c =
    let items : c.in_ok-vec.field-0.items ≡ replicate (length c.args.nodes.now) false = c.in_ok-vec.ensures.items_if_clones_equal (λ y same. search rules) in
    items ∙ none_marked c.args.nodes.now
