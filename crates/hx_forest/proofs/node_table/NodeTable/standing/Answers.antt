use Rattle.std.proofs.Common.{◌∙◌, ℕ, List, option_map, option_copied, ap, sym}
use Rattle.std.specs.Borrow.{Bor}
use Rattle.std.specs.Prelude.{slice_get}
use Rattle.hx_forest.specs.declared.node_table.Standing.{Standing}
use Rattle.hx_forest.specs.declared.node_table.Step.{Step}
use Rattle.hx_forest.specs.NodeTable.{Place, standing_of, entry_in}
use Rattle.hx_forest.proofs.Placing.{item_at, standings_from}
use Rattle.hx_forest.proofs.node_table.NodeTable.standing.Goals as goal

pub returns-in_err-standing : goal.returns-in_err-standing
returns-in_err-standing c =
    ap option_copied c.from_residual-in_err-standing.ensures
    ∙ ap (λ r. option_map (λ (x : Step × Standing). x.1) (option_map (λ (b : Bor (Step × Standing)). b.now) r)) (sym c.in_err-standing.was)
    ∙ ap (option_map (λ (x : Step × Standing). x.1)) (item_at (λ (b : Bor (Step × Standing)). b.now) c.deref.result.now c.in_ok-at.field-0 c.get.result c.get.ensures.lookup ∙ ap (λ (xs : List (Step × Standing)). slice_get xs c.in_ok-at.field-0) c.deref.ensures.value)
    ∙ standings_from c.self.inside.nodes.entries c.self.inside.rungs.items c.in_ok-at.field-0 c.self.invariant.0
    ∙ (λ i. option_map (λ (e : List ℕ × Place). standing_of e.1.node) (entry_in ((c.self.view_is i).entries) (sym c.in_ok-at.was i)))

pub returns : goal.returns
returns c =
    ap (λ r. option_map (λ (x : Step × Standing). x.1) (option_map (λ (b : Bor (Step × Standing)). b.now) r)) (sym c.in_ok-standing.was)
    ∙ ap (option_map (λ (x : Step × Standing). x.1)) (item_at (λ (b : Bor (Step × Standing)). b.now) c.deref.result.now c.in_ok-at.field-0 c.get.result c.get.ensures.lookup ∙ ap (λ (xs : List (Step × Standing)). slice_get xs c.in_ok-at.field-0) c.deref.ensures.value)
    ∙ standings_from c.self.inside.nodes.entries c.self.inside.rungs.items c.in_ok-at.field-0 c.self.invariant.0
    ∙ (λ i. option_map (λ (e : List ℕ × Place). standing_of e.1.node) (entry_in ((c.self.view_is i).entries) (sym c.in_ok-at.was i)))
