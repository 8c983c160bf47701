use Rattle.std.proofs.Common.{◌≡◌, Option, sym, ap, ◌∙◌}
use Rattle.std.specs.List.{list_any}
use Rattle.std.specs.Prelude.{option_copied}
use Rattle.hx_object.specs.declared.object.Id.{Id}
use Rattle.hx_object.specs.declared.object.Object.{Object}
use Rattle.hx_model.specs.Cases.{same_name}
use Rattle.hx_model.specs.Conflicts.{makes_conflict, with_written}
use Rattle.hx_model.specs.Forest.{subtree_of}
use Rattle.hx_model.specs.Moves.{open_chain, open_moved, overwrites_in}
use Rattle.hx_admit.specs.Moves.{IsMovedBy}
use Rattle.hx_admit.proofs.Moved.{if_ok_by, kept_stays, kept_may, kept_moves}
use Rattle.hx_admit.proofs.moves.overwrites_by_move.Goals as goal

pub returns-then-is_same_name : goal.returns-then-is_same_name
returns-then-is_same_name c =
    kept_stays c.args.state.now.state c.law_of_validity.ensures c.forest-forest.result.now.nodes c.forest-forest.ensures c.args.namespace.now (option_copied c.args.parent)
    (sym (ap (λ o. same_name o (option_copied c.args.parent)) c.parent.ensures) ∙ sym c.is_same_name.ensures ∙ c.if-is_same_name.true)

pub overwrites_below-requires : goal.overwrites_below-requires
overwrites_below-requires c = record {
  moves = kept_may c.args.state.now.state c.forest-forest.result.now.nodes c.forest-forest.ensures c.args.namespace.now (option_copied c.args.parent)
      (sym (ap (λ o. same_name o (option_copied c.args.parent)) c.parent.ensures) ∙ sym c.is_same_name.ensures ∙ c.if-is_same_name.false) c.requires.moves;
}

pub returns : goal.returns
returns c =
    if_ok_by
    (λ found. found ≡ list_any (λ m. overwrites_in c.args.state.now.state.objects m (open_moved c.forest-forest.result.now.nodes c.args.namespace.now (option_copied c.args.parent) m) (open_chain c.forest-forest.result.now.nodes m)) (subtree_of c.forest-forest.result.now.nodes c.args.namespace.now))
    (λ makes. (id : Id) → (new : Option Object) → IsMovedBy c.args.state.now.state c.args.namespace.now (option_copied c.args.parent) id new → makes ≡ makes_conflict c.args.state.now.state (with_written c.args.state.now.state id new))
    c.overwrites_below.result
    (λ found is. kept_moves c.args.state.now.state c.law_of_validity.ensures c.forest-forest.result.now.nodes c.forest-forest.ensures c.args.namespace.now (option_copied c.args.parent)
    (sym (ap (λ o. same_name o (option_copied c.args.parent)) c.parent.ensures) ∙ sym c.is_same_name.ensures ∙ c.if-is_same_name.false) c.requires.moves found is)
    (rw c.store.ensures.objects at c.overwrites_below.ensures)
