use Rattle.std.proofs.Common.{◌≡◌, ◌∙◌, Some, None, option_map, ap, sym, refl}
use Rattle.std.specs.Borrow.{MutBor}
use Rattle.std.specs.Prelude.{slice_get}
use Rattle.hx_forest.specs.declared.node_table.Standing.{Standing}
use Rattle.hx_forest.specs.declared.node_table.Step.{Step}
use Rattle.hx_forest.specs.NodeTable.{NodeTableView, changed_at, with_up}
use Rattle.hx_forest.proofs.Placing.{item_at, rung_set, rung_none, standing_rung}
use Rattle.hx_forest.proofs.Restless.{same_restless}
use Rattle.hx_forest.proofs.node_table.NodeTable.set_up.Goals as goal

pub returns-in_default-clause-entries : goal.returns-in_default-clause-entries
returns-in_default-clause-entries c =
    let rs = c.self.inside.rungs.items in
    let change = with_up c.args.up in
    let none : slice_get rs c.args.at ≡ None = sym (item_at (λ (b : MutBor (Step × Standing)). b.now) rs c.args.at c.get_mut.result c.get_mut.ensures.item) ∙ ap (option_map (λ (b : MutBor (Step × Standing)). b.now)) c.in_default.is in
    rung_none change c.args.at c.self.inside.nodes.entries rs none ∙ ap (λ (v : NodeTableView). changed_at change c.args.at v.entries) c.self.view_is

pub invariant_of-self-2 : goal.invariant_of-self-2
invariant_of-self-2 c =
    let rs = c.self.inside.rungs.items in
    let rung = c.in-Some.rung.now in
    let found : slice_get rs c.args.at ≡ Some rung = sym (item_at (λ (b : MutBor (Step × Standing)). b.now) rs c.args.at c.get_mut.result c.get_mut.ensures.item) ∙ ap (option_map (λ (b : MutBor (Step × Standing)). b.now)) c.in-Some.is in
    let new : Step × Standing = (record (rung.0) { up = c.args.up }, rung.1) in
    (standing_rung rung new refl c.args.at c.self.inside.nodes.entries rs c.self.invariant.0 found, c.self.invariant.1, c.self.invariant.2 ∙ sym (same_restless rs c.args.at rung new found refl))

pub returns-clause-entries : goal.returns-clause-entries
returns-clause-entries c =
    let rs = c.self.inside.rungs.items in
    let rung = c.in-Some.rung.now in
    let found : slice_get rs c.args.at ≡ Some rung = sym (item_at (λ (b : MutBor (Step × Standing)). b.now) rs c.args.at c.get_mut.result c.get_mut.ensures.item) ∙ ap (option_map (λ (b : MutBor (Step × Standing)). b.now)) c.in-Some.is in
    rung_set (with_up c.args.up) rung (record (rung.0) { up = c.args.up }, rung.1) (λ n. refl) c.args.at c.self.inside.nodes.entries rs c.self.invariant.0 found
    ∙ ap (λ (v : NodeTableView). changed_at (with_up c.args.up) c.args.at v.entries) c.self.view_is
