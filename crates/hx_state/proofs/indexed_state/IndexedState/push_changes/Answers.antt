use Rattle.std.proofs.Common.{◌++◌, ap, ◌∙◌}
use Rattle.hx_state.specs.Planning.{listed}
use Rattle.hx_state.proofs.indexed_state.IndexedState.push_changes.Goals as goal

pub returns-clause-tree : goal.returns-clause-tree
returns-clause-tree c = c.in_ok-push_change.ensures ∙ ap (λ change. c.args.tree.now.items ++ listed change) c.in_ok-tree_change.ensures

pub returns-clause-owners : goal.returns-clause-owners
returns-clause-owners c = c.in_ok-push_change-2.ensures ∙ ap (λ change. c.args.owners.now.items ++ listed change) c.in_ok-owner_change.ensures
