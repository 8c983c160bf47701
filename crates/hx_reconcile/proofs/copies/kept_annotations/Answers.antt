use Rattle.std.proofs.Common.{◌≡◌, true, List, ℕ, not, subst, sym, ap, ◌∙◌, rules, arith}
use Rattle.std.proofs.lemmas.List.{take_all}
use Rattle.hx_object.proofs.Putting.{ascending-filter}
use Rattle.hx_object.specs.Pairs.{has_ascending_keys}
use Rattle.hx_model.specs.Propagation.{is_hnc_key, kept_annotations}
use Rattle.hx_reconcile.proofs.copies.kept_annotations.Goals as goal

pub of-requires : goal.of-requires
of-requires c =
    let pairs = c.as_slice-pair-items.result.now in
    let all = take_all c.loop-pair.pair-index pairs (let past = c.loop-pair-test.false in omega arith) in
    subst (λ (kept : List (List ℕ × List ℕ)). has_ascending_keys kept ≡ true) (sym (c.loop-pair.invariant ∙ ap kept_annotations all))
    (ascending-filter (λ pair. not (is_hnc_key pair.0)) pairs (search rules))
