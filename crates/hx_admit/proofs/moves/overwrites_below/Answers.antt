use Rattle.std.proofs.Common.{◌≡◌, ◌&&◌, Bool, sym, ap, ◌∙◌, subst}
use Rattle.std.specs.Prelude.{IfOk, option_copied}
use Rattle.hx_model.specs.Moves.{is_eligible, is_open_above}
use Rattle.hx_admit.proofs.Moved.{none_below, none_moved, all_moved, ways_apart, and_false}
use Rattle.hx_admit.proofs.moves.overwrites_below.Goals.{then-not-is_eligible-via-then-not-is_eligible, then-not-is_eligible-via-else-not-is_eligible+then-not-is_open_above}
use Rattle.hx_admit.proofs.moves.overwrites_below.Goals as goal

pub returns-then-not-any_may_spread : goal.returns-then-not-any_may_spread
returns-then-not-any_may_spread c =
    none_below c.args.store.now.objects c.args.forest.now.nodes c.args.namespace.now (option_copied c.args.parent) _ (c.any_may_spread.ensures c.if-not-any_may_spread.true)

pub returns-then-not-is_eligible : goal.returns-then-not-is_eligible
returns-then-not-is_eligible c =
    none_moved c.args.store.now.objects c.args.forest.now.nodes c.args.namespace.now (option_copied c.args.parent) _
    (elim c.then-not-is_eligible.branch [
      | then-not-is_eligible-via-then-not-is_eligible w ↦ ap (λ b. b && is_open_above c.args.forest.now.nodes (option_copied c.args.parent)) (sym c.is_eligible.ensures ∙ w.if-not-is_eligible.true)
      | then-not-is_eligible-via-else-not-is_eligible+then-not-is_open_above w ↦ ap (λ b. is_eligible c.args.forest.now.nodes c.args.namespace.now && b) (sym w.is_open_above.ensures ∙ w.if-not-is_open_above.true) ∙ and_false (is_eligible c.args.forest.now.nodes c.args.namespace.now)
    ])

pub returns : goal.returns
returns c =
    subst (λ (b : Bool). IfOk c.any_overwrites.result (λ found. found ≡ b))
    (all_moved c.args.store.now.objects c.args.forest.now.nodes c.args.namespace.now (option_copied c.args.parent) c.deref.result.now c.deref-2.result.now (sym c.is_eligible.ensures ∙ c.if-not-is_eligible.false) (sym c.is_open_above.ensures ∙ c.if-not-is_open_above.false)
    (c.deref.ensures.value ∙ c.in_ok-above.ensures) (c.deref-2.ensures.value ∙ c.in_ok-members.ensures))
    c.any_overwrites.ensures

pub any_overwrites-requires : goal.any_overwrites-requires
any_overwrites-requires c = record {
  apart = ways_apart c.args.forest.now.nodes c.args.namespace.now (option_copied c.args.parent) c.deref.result.now c.deref-2.result.now c.requires.moves
      (c.deref.ensures.value ∙ c.in_ok-above.ensures) (c.deref-2.ensures.value ∙ c.in_ok-members.ensures);
}
