use Rattle.std.proofs.Common.{◌≡◌, ◌∙◌, ℕ, zero, suc, List, [], ◌∷◌, length, Option, Some, None, option_map, ap, sym, refl, arith}
use Rattle.std.specs.Prelude.{vec_len, slice_get, slice_set, option_and_then}
use Rattle.std.specs.Map.{values_of}
use Rattle.std.specs.Option.{option_copied_mut}
use Rattle.indexmap.specs.IndexMap.{set_value_at}
use Rattle.std.proofs.lemmas.Option.{slice_get-get_or}
use Rattle.hx_model.specs.declared.node.Node.{Node}
use Rattle.hx_forest.specs.NodeTable.{Place, NodeTableView, places_from, changed_at, below}
use Rattle.hx_forest.proofs.Placing.{both_set, node_none, rung_there, standing_both, set_keys, nodes_from}
use Rattle.hx_forest.proofs.Restless.{count_set, small_count}
use Rattle.hx_forest.proofs.node_table.NodeTable.set_parent.Goals as goal

at_node : (o : Option (List ℕ × Place)) → option_and_then (λ (n : Node). n.parent) (option_map (λ e. e.1.node) o) ≡ option_and_then (λ p. p.node.parent) (option_map (λ e. e.1) o)
at_node None = refl
at_node (Some e) = refl

at_value : (es : List (List ℕ × Node)) (i : ℕ) → slice_get (values_of es) i ≡ option_map (λ e. e.1) (slice_get es i)
at_value [] i = refl
at_value (e ∷ es) zero = refl
at_value (e ∷ es) (suc i) = at_value es i

pub returns-in_err-node-clause-entries : goal.returns-in_err-node-clause-entries
returns-in_err-node-clause-entries c =
    let es = c.self.inside.nodes.entries in
    let none : slice_get (values_of es) c.args.at ≡ None = sym c.get_index_mut.ensures.value ∙ ap option_copied_mut c.in_err-node.was in
    node_none (below c.args.parent) c.args.at es c.self.inside.rungs.items none ∙ ap (λ (v : NodeTableView). changed_at (below c.args.parent) c.args.at v.entries) c.self.view_is

pub returns-in_err-node-clause-old : goal.returns-in_err-node-clause-old
returns-in_err-node-clause-old c =
    let es = c.self.inside.nodes.entries in
    let rs = c.self.inside.rungs.items in
    let none : slice_get (values_of es) c.args.at ≡ None = sym c.get_index_mut.ensures.value ∙ ap option_copied_mut c.in_err-node.was in
    c.from_residual.ensures
    ∙ ap (λ (o : Option Node). option_and_then (λ (n : Node). n.parent) o) (sym none ∙ at_value es c.args.at ∙ nodes_from es rs c.args.at c.self.invariant.0)
    ∙ at_node (slice_get (places_from es rs) c.args.at)
    ∙ ap (λ (v : NodeTableView). option_and_then (λ (p : Place). p.node.parent) (option_map (λ (e : List ℕ × Place). e.1) (slice_get v.entries c.args.at))) c.self.view_is

pub index-requires : goal.index-requires
index-requires c =
    let es = c.self.inside.nodes.entries in
    let found : slice_get (values_of es) c.args.at ≡ Some c.in_ok-node.node.now = sym c.get_index_mut.ensures.value ∙ ap option_copied_mut c.in_ok-node.was in
    let within = rung_there c.args.at es c.self.inside.rungs.items c.in_ok-node.node.now c.self.invariant.0 found in
    let long : vec_len c.self.inside.rungs ≡ length c.self.inside.rungs.items = c.self.inside.rungs.ok.0 in
    omega (arith, within, long)

pub index_mut-requires : goal.index_mut-requires
index_mut-requires c =
    let es = c.self.inside.nodes.entries in
    let found : slice_get (values_of es) c.args.at ≡ Some c.in_ok-node.node.now = sym c.get_index_mut.ensures.value ∙ ap option_copied_mut c.in_ok-node.was in
    let within = rung_there c.args.at es c.self.inside.rungs.items c.in_ok-node.node.now c.self.invariant.0 found in
    let long : vec_len c.self.inside.rungs ≡ length c.self.inside.rungs.items = c.self.inside.rungs.ok.0 in
    omega (arith, within, long)

pub invariant_of-self-2 : goal.invariant_of-self-2
invariant_of-self-2 c =
    let es = c.self.inside.nodes.entries in
    let rs = c.self.inside.rungs.items in
    let found : slice_get (values_of es) c.args.at ≡ Some c.in_ok-node.node.now = sym c.get_index_mut.ensures.value ∙ ap option_copied_mut c.in_ok-node.was in
    let there : slice_get rs c.args.at ≡ Some c.index.result.now = slice_get-get_or rs c.args.at c.index.result.now (rung_there c.args.at es rs c.in_ok-node.node.now c.self.invariant.0 found) ∙ ap Some (sym c.index.ensures) in
    let node = record (c.in_ok-node.node.now) { parent = c.replace-old.new.dest } in (
      standing_both node (c.index_mut.result.now.0, c.standing_of-standing.result) c.standing_of-standing.ensures c.args.at c.self.inside.nodes.entries c.self.inside.rungs.items c.self.invariant.0,
      set_keys c.args.at c.self.inside.nodes.entries node c.self.invariant.1,
      count_set rs c.args.at c.index.result.now (c.index_mut.result.now.0, c.standing_of-standing.result) c.self.inside.restless c.one_less.result c.one_more-self-inside.result there c.self.invariant.2
          (small_count rs c.self.inside.restless _ _ c.self.invariant.2 c.self.inside.rungs.ok.0 c.self.inside.rungs.ok.1 c.self.inside.rungs.small) c.one_less.ensures c.one_more-self-inside.ensures,
    )

pub returns-clause-entries : goal.returns-clause-entries
returns-clause-entries c =
    let es = c.self.inside.nodes.entries in
    let rs = c.self.inside.rungs.items in
    let node = c.in_ok-node.node.now in
    let found : slice_get (values_of es) c.args.at ≡ Some node = sym c.get_index_mut.ensures.value ∙ ap option_copied_mut c.in_ok-node.was in
    let there : slice_get rs c.args.at ≡ Some c.index_mut.result.now =
    slice_get-get_or rs c.args.at c.index_mut.result.now (rung_there c.args.at es rs node c.self.invariant.0 found) ∙ ap Some (sym c.index_mut.ensures.value) in
    ap (λ (p : Option (List ℕ)). places_from (set_value_at es c.args.at (record node { parent = p })) (slice_set rs c.args.at (c.index_mut.result.now.0, c.standing_of-standing.result))) c.replace-old.ensures.after
    ∙ both_set (below c.args.parent) node (record node { parent = c.args.parent }) c.index_mut.result.now (c.index_mut.result.now.0, c.standing_of-standing.result) refl c.args.at es rs c.self.invariant.0 found there
    ∙ ap (λ (v : NodeTableView). changed_at (below c.args.parent) c.args.at v.entries) c.self.view_is

pub returns-clause-old : goal.returns-clause-old
returns-clause-old c =
    let es = c.self.inside.nodes.entries in
    let rs = c.self.inside.rungs.items in
    let node = c.in_ok-node.node.now in
    let found : slice_get (values_of es) c.args.at ≡ Some node = sym c.get_index_mut.ensures.value ∙ ap option_copied_mut c.in_ok-node.was in
    c.replace-old.ensures.value
    ∙ ap (λ (o : Option Node). option_and_then (λ (n : Node). n.parent) o) (sym found ∙ at_value es c.args.at ∙ nodes_from es rs c.args.at c.self.invariant.0)
    ∙ at_node (slice_get (places_from es rs) c.args.at)
    ∙ ap (λ (v : NodeTableView). option_and_then (λ (p : Place). p.node.parent) (option_map (λ (e : List ℕ × Place). e.1) (slice_get v.entries c.args.at))) c.self.view_is
