use Rattle.std.proofs.Common.{◌≡◌, ◌∙◌, ◌∷◌, ◌++◌, ◌+◌, drop, sym, ap}
use Rattle.std.proofs.lemmas.List.{drop_more}
use Rattle.hx_audit.specs.Candidates.{least_from, wanting_in, wanting_of}
use Rattle.hx_audit.proofs.Lowest.{least_on}
use Rattle.hx_audit.proofs.first.least_wanting.Goals as goal

pub loop-node-preserved : goal.loop-node-preserved
loop-node-preserved c =
    let v = c.args.survey.now in
    let nodes = c.args.nodes.now in
    let at = c.loop-node.node-index in
    let node = c.node-item.result in
    let best = c.loop-node.best in
    let rest = wanting_in v (drop (at + 1) nodes) in
    let begins : drop at nodes ≡ node ∷ drop (at + 1) nodes = drop_more nodes at node c.loop-node-test.true ∙ ap (λ n. n ∷ drop (at + 1) nodes) (sym c.node-item.is) in
    ap (λ b. least_from b rest) (c.least_of-best.ensures ∙ ap (least_from best) (c.in_ok-push_namespace.ensures ∙ ap (λ keys. keys ++ wanting_of v node.0) c.new-keys.ensures.items))
    ∙ sym (least_on best (wanting_of v node.0) rest)
    ∙ ap (λ ns. least_from best (wanting_in v ns)) (sym begins)
    ∙ c.loop-node.invariant
