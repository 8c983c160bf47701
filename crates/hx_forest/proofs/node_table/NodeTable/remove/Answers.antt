use Rattle.std.proofs.Common.{◌≡◌, ◌∙◌, ℕ, List, Some, None, cond, option_map, length, ap, sym, subst, arith}
use Rattle.std.specs.Prelude.{slice_get, vec_len}
use Rattle.std.specs.Map.{lookup}
use Rattle.std.specs.Str.{bytes_eq}
use Rattle.std.proofs.lemmas.Option.{slice_get-get_or}
use Rattle.hx_model.specs.declared.node.Node.{Node}
use Rattle.hx_forest.specs.NodeTable.{Place, NodeTableView, places_from, index_in, IsCut}
use Rattle.hx_forest.proofs.Placing.{distinct_from, nodes_from, look_cut, places_out, rung_placed, no_place, standing_out}
use Rattle.hx_forest.proofs.Slots.{cut_out}
use Rattle.hx_forest.proofs.Restless.{count_cut}
use Rattle.hx_forest.proofs.node_table.NodeTable.remove.Goals as goal

pub returns-in_err-node-clause-node : goal.returns-in_err-node-clause-node
returns-in_err-node-clause-node c =
    let es = c.self.inside.nodes.entries in
    c.from_residual.ensures
    ∙ ap (option_map (λ (e : List ℕ × Node). e.1)) (sym c.in_err-node.was ∙ c.swap_remove_index.ensures.entry)
    ∙ nodes_from es c.self.inside.rungs.items c.args.at c.self.invariant.0
    ∙ ap (λ (v : NodeTableView). option_map (λ (e : List ℕ × Place). e.1.node) (slice_get v.entries c.args.at)) c.self.view_is

pub returns-in_err-node-clause-entries : goal.returns-in_err-node-clause-entries
returns-in_err-node-clause-entries c = λ n here.
    let none : slice_get c.self.inside.nodes.entries c.args.at ≡ None = sym c.swap_remove_index.ensures.entry ∙ c.in_err-node.was in
    absurd (no_place c.self.inside.nodes.entries c.self.inside.rungs.items c.args.at n c.self.invariant.0 none (ap (λ (v : NodeTableView). index_in v.entries n) c.self.view_is ∙ here))

pub returns-in_err-node-clause-cut : goal.returns-in_err-node-clause-cut
returns-in_err-node-clause-cut c = λ n here.
    let none : slice_get c.self.inside.nodes.entries c.args.at ≡ None = sym c.swap_remove_index.ensures.entry ∙ c.in_err-node.was in
    absurd (no_place c.self.inside.nodes.entries c.self.inside.rungs.items c.args.at n c.self.invariant.0 none (ap (λ (v : NodeTableView). index_in v.entries n) c.self.view_is ∙ here))

pub swap_remove-rung-requires : goal.swap_remove-rung-requires
swap_remove-rung-requires c =
    let es = c.self.inside.nodes.entries in
    let rs = c.self.inside.rungs.items in
    let within = rung_placed es rs c.args.at (c.in_ok-node.field-0-0, c.in_ok-node.node) c.self.invariant.0 (sym c.swap_remove_index.ensures.entry ∙ c.in_ok-node.was) in
    let long : vec_len c.self.inside.rungs ≡ length rs = c.self.inside.rungs.ok.0 in
    omega (arith, within, long)

pub invariant_of-self-2 : goal.invariant_of-self-2
invariant_of-self-2 c =
    let es = c.self.inside.nodes.entries in
    let rs = c.self.inside.rungs.items in
    let e : List ℕ × Node = (c.in_ok-node.field-0-0, c.in_ok-node.node) in
    let at : slice_get es c.args.at ≡ Some e = sym c.swap_remove_index.ensures.entry ∙ c.in_ok-node.was in (
      standing_out es rs c.args.at e c.swap_remove-rung.result c.self.invariant.0 at c.swap_remove-rung.ensures.value c.swap_remove_index.new.self.entries c.swap_remove-rung.new.self.items c.in_ok-node.ensures.entries c.swap_remove-rung.ensures.items,
      c.swap_remove_index.ensures.unique,
      count_cut rs c.swap_remove-rung.new.self.items c.args.at c.swap_remove-rung.result c.self.inside.restless c.one_less-self-inside.result
          (slice_get-get_or rs c.args.at c.swap_remove-rung.result (rung_placed es rs c.args.at e c.self.invariant.0 at) ∙ ap Some (sym c.swap_remove-rung.ensures.value)) c.swap_remove-rung.ensures.items c.self.invariant.2 c.one_less-self-inside.ensures,
    )

pub returns-clause-node : goal.returns-clause-node
returns-clause-node c =
    let es = c.self.inside.nodes.entries in
    ap (option_map (λ (e : List ℕ × Node). e.1)) (sym c.in_ok-node.was ∙ c.swap_remove_index.ensures.entry)
    ∙ nodes_from es c.self.inside.rungs.items c.args.at c.self.invariant.0
    ∙ ap (λ (v : NodeTableView). option_map (λ (e : List ℕ × Place). e.1.node) (slice_get v.entries c.args.at)) c.self.view_is

pub returns-clause-entries : goal.returns-clause-entries
returns-clause-entries c = λ n here q.
    let es = c.self.inside.nodes.entries in
    let rs = c.self.inside.rungs.items in
    let e : List ℕ × Node = (c.in_ok-node.field-0-0, c.in_ok-node.node) in
    look_cut es rs c.args.at e c.swap_remove-rung.result c.self.invariant.0 (sym c.swap_remove_index.ensures.entry ∙ c.in_ok-node.was) c.swap_remove-rung.ensures.value c.swap_remove_index.new.self.entries c.swap_remove-rung.new.self.items
    c.in_ok-node.ensures.entries c.swap_remove-rung.ensures.items c.self.invariant.1 n (ap (λ (v : NodeTableView). index_in v.entries n) c.self.view_is ∙ here) q
    ∙ ap (λ (v : NodeTableView). cond (bytes_eq n q) None (lookup (bytes_eq q) v.entries)) c.self.view_is

pub returns-clause-cut : goal.returns-clause-cut
returns-clause-cut c = λ n.
    let es = c.self.inside.nodes.entries in
    let rs = c.self.inside.rungs.items in
    let fs = c.swap_remove_index.new.self.entries in
    let ss = c.swap_remove-rung.new.self.items in
    let e : List ℕ × Node = (c.in_ok-node.field-0-0, c.in_ok-node.node) in
    let rung = c.swap_remove-rung.result in
    let at : slice_get es c.args.at ≡ Some e = sym c.swap_remove_index.ensures.entry ∙ c.in_ok-node.was in
    let standing = standing_out es rs c.args.at e rung c.self.invariant.0 at c.swap_remove-rung.ensures.value fs ss c.in_ok-node.ensures.entries c.swap_remove-rung.ensures.items in
    subst (λ (v : NodeTableView). index_in v.entries n ≡ Some c.args.at → IsCut v.entries (places_from fs ss) n c.args.at) c.self.view_is (λ here.
    places_out es rs c.args.at e rung c.self.invariant.0 at c.swap_remove-rung.ensures.value fs ss c.in_ok-node.ensures.entries c.swap_remove-rung.ensures.items (λ p there out.
    cut_out (places_from es rs) (places_from fs ss) n c.args.at p (distinct_from fs ss standing c.swap_remove_index.ensures.unique) here out
    (look_cut es rs c.args.at e rung c.self.invariant.0 at c.swap_remove-rung.ensures.value fs ss c.in_ok-node.ensures.entries c.swap_remove-rung.ensures.items c.self.invariant.1 n here)))
