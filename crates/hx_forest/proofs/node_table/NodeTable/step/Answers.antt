use Rattle.std.proofs.Common.{◌∙◌, ℕ, List, option_map, option_copied, ap, sym}
use Rattle.std.specs.Borrow.{Bor}
use Rattle.std.specs.Prelude.{slice_get}
use Rattle.hx_forest.specs.declared.node_table.Standing.{Standing}
use Rattle.hx_forest.specs.declared.node_table.Step.{Step}
use Rattle.hx_forest.specs.NodeTable.{Place, step_of, entry_in}
use Rattle.hx_forest.proofs.Placing.{distinct_seen, item_at, steps_from}
use Rattle.hx_forest.proofs.node_table.NodeTable.step.Goals as goal

pub returns-in_err-step-clause-step : goal.returns-in_err-step-clause-step
returns-in_err-step-clause-step c =
    ap option_copied c.from_residual-in_err-step.ensures
    ∙ ap (λ r. option_map (λ (x : Step × Standing). x.0) (option_map (λ (b : Bor (Step × Standing)). b.now) r)) (sym c.in_err-step.was)
    ∙ ap (option_map (λ (x : Step × Standing). x.0)) (item_at (λ (b : Bor (Step × Standing)). b.now) c.deref.result.now c.in_ok-at.field-0 c.get.result c.get.ensures.lookup ∙ ap (λ (xs : List (Step × Standing)). slice_get xs c.in_ok-at.field-0) c.deref.ensures.value)
    ∙ steps_from c.self.inside.nodes.entries c.self.inside.rungs.items c.in_ok-at.field-0 c.self.invariant.0
    ∙ (λ i. option_map (λ (e : List ℕ × Place). step_of e.1) (entry_in ((c.self.view_is i).entries) (sym c.in_ok-at.was i)))

pub returns-clause-step : goal.returns-clause-step
returns-clause-step c =
    ap (λ r. option_map (λ (x : Step × Standing). x.0) (option_map (λ (b : Bor (Step × Standing)). b.now) r)) (sym c.in_ok-step.was)
    ∙ ap (option_map (λ (x : Step × Standing). x.0)) (item_at (λ (b : Bor (Step × Standing)). b.now) c.deref.result.now c.in_ok-at.field-0 c.get.result c.get.ensures.lookup ∙ ap (λ (xs : List (Step × Standing)). slice_get xs c.in_ok-at.field-0) c.deref.ensures.value)
    ∙ steps_from c.self.inside.nodes.entries c.self.inside.rungs.items c.in_ok-at.field-0 c.self.invariant.0
    ∙ (λ i. option_map (λ (e : List ℕ × Place). step_of e.1) (entry_in ((c.self.view_is i).entries) (sym c.in_ok-at.was i)))

pub returns-in_err-at-clause-unique : goal.returns-in_err-at-clause-unique
returns-in_err-at-clause-unique c = distinct_seen c.self.inside.nodes.entries c.self.inside.rungs.items _ _ c.self.view_is c.self.invariant.0 c.self.invariant.1

pub returns-in_err-step-clause-unique : goal.returns-in_err-step-clause-unique
returns-in_err-step-clause-unique c = distinct_seen c.self.inside.nodes.entries c.self.inside.rungs.items _ _ c.self.view_is c.self.invariant.0 c.self.invariant.1

pub returns-clause-unique : goal.returns-clause-unique
returns-clause-unique c = distinct_seen c.self.inside.nodes.entries c.self.inside.rungs.items _ _ c.self.view_is c.self.invariant.0 c.self.invariant.1
