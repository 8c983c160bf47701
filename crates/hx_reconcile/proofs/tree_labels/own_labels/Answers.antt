use Rattle.std.proofs.Common.{◌≡◌, true, List, ℕ, not, subst, sym, ap, ◌∙◌, rules, arith}
use Rattle.std.proofs.lemmas.List.{take_all}
use Rattle.hx_object.proofs.Putting.{ascending-filter}
use Rattle.hx_object.specs.Pairs.{has_ascending_keys}
use Rattle.hx_object.specs.Sizes.{is_tree_key}
use Rattle.hx_model.specs.TreeLabels.{own_labels}
use Rattle.hx_reconcile.proofs.tree_labels.own_labels.Goals as goal

pub of-requires : goal.of-requires
of-requires c =
    let pairs = c.as_slice-pair-items.result.now in
    let all = take_all c.loop-pair.pair-index pairs (let past = c.loop-pair-test.false in omega arith) in
    subst (λ (own : List (List ℕ × List ℕ)). has_ascending_keys own ≡ true) (sym (c.loop-pair.invariant ∙ ap own_labels all))
    (ascending-filter (λ pair. not (is_tree_key pair.0)) pairs (search rules))
