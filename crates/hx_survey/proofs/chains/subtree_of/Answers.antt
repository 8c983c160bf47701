use Rattle.std.proofs.Common.{◌≡◌, ◌∙◌, ℕ, List, IfOk, subst, sym}
use Rattle.hx_survey.proofs.Walked.{subtree_by, no_subtree}
use Rattle.hx_survey.proofs.chains.subtree_of.Goals as goal

pub returns-in-Some : goal.returns-in-Some
returns-in-Some c =
    subst (λ (names : List (List ℕ)). IfOk c.names_below.result (λ below. below.items ≡ names))
    (subtree_by c.args.nodes.now c.args.ups.now c.requires.ups c.args.ancestor.now c.in-Some.sought (sym c.place_of.ensures ∙ c.in-Some.is))
    c.names_below.ensures

pub returns-in-None : goal.returns-in-None
returns-in-None c = c.new.ensures.items ∙ no_subtree c.args.nodes.now c.args.ancestor.now (sym c.place_of.ensures ∙ c.in-None.is)
