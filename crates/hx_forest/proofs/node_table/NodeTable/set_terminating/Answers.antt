use Rattle.std.proofs.Common.{◌≡◌, ◌∙◌, length, true, Some, None, ap, sym, refl, arith}
use Rattle.std.specs.Prelude.{vec_len, slice_get}
use Rattle.std.specs.Map.{values_of}
use Rattle.std.specs.Option.{option_copied_mut}
use Rattle.std.proofs.lemmas.Option.{slice_get-get_or}
use Rattle.hx_forest.specs.NodeTable.{NodeTableView, changed_at, terminating}
use Rattle.hx_forest.proofs.Placing.{both_set, node_none, rung_there, standing_both, set_keys}
use Rattle.hx_forest.proofs.Restless.{count_set, small_count}
use Rattle.hx_forest.proofs.node_table.NodeTable.set_terminating.Goals as goal

pub returns-in_default-clause-entries : goal.returns-in_default-clause-entries
returns-in_default-clause-entries c =
    let es = c.self.inside.nodes.entries in
    let none : slice_get (values_of es) c.args.at ≡ None = sym c.get_index_mut.ensures.value ∙ ap option_copied_mut c.in_default.is in
    node_none terminating c.args.at es c.self.inside.rungs.items none ∙ ap (λ (v : NodeTableView). changed_at terminating c.args.at v.entries) c.self.view_is

pub index-requires : goal.index-requires
index-requires c =
    let es = c.self.inside.nodes.entries in
    let found : slice_get (values_of es) c.args.at ≡ Some c.in-Some.node.now = sym c.get_index_mut.ensures.value ∙ ap option_copied_mut c.in-Some.is in
    let within = rung_there c.args.at es c.self.inside.rungs.items c.in-Some.node.now c.self.invariant.0 found in
    let long : vec_len c.self.inside.rungs ≡ length c.self.inside.rungs.items = c.self.inside.rungs.ok.0 in
    omega (arith, within, long)

pub index_mut-requires : goal.index_mut-requires
index_mut-requires c =
    let es = c.self.inside.nodes.entries in
    let found : slice_get (values_of es) c.args.at ≡ Some c.in-Some.node.now = sym c.get_index_mut.ensures.value ∙ ap option_copied_mut c.in-Some.is in
    let within = rung_there c.args.at es c.self.inside.rungs.items c.in-Some.node.now c.self.invariant.0 found in
    let long : vec_len c.self.inside.rungs ≡ length c.self.inside.rungs.items = c.self.inside.rungs.ok.0 in
    omega (arith, within, long)

pub invariant_of-self-2 : goal.invariant_of-self-2
invariant_of-self-2 c =
    let es = c.self.inside.nodes.entries in
    let rs = c.self.inside.rungs.items in
    let found : slice_get (values_of es) c.args.at ≡ Some c.in-Some.node.now = sym c.get_index_mut.ensures.value ∙ ap option_copied_mut c.in-Some.is in
    let there : slice_get rs c.args.at ≡ Some c.index.result.now = slice_get-get_or rs c.args.at c.index.result.now (rung_there c.args.at es rs c.in-Some.node.now c.self.invariant.0 found) ∙ ap Some (sym c.index.ensures) in
    let node = record (c.in-Some.node.now) { terminating = true } in (
      standing_both node (c.index_mut.result.now.0, c.standing_of-standing.result) c.standing_of-standing.ensures c.args.at c.self.inside.nodes.entries c.self.inside.rungs.items c.self.invariant.0,
      set_keys c.args.at c.self.inside.nodes.entries node c.self.invariant.1,
      count_set rs c.args.at c.index.result.now (c.index_mut.result.now.0, c.standing_of-standing.result) c.self.inside.restless c.one_less.result c.one_more-self-inside.result there c.self.invariant.2
          (small_count rs c.self.inside.restless _ _ c.self.invariant.2 c.self.inside.rungs.ok.0 c.self.inside.rungs.ok.1 c.self.inside.rungs.small) c.one_less.ensures c.one_more-self-inside.ensures,
    )

pub returns-clause-entries : goal.returns-clause-entries
returns-clause-entries c =
    let es = c.self.inside.nodes.entries in
    let rs = c.self.inside.rungs.items in
    let node = c.in-Some.node.now in
    let found : slice_get (values_of es) c.args.at ≡ Some node = sym c.get_index_mut.ensures.value ∙ ap option_copied_mut c.in-Some.is in
    let there : slice_get rs c.args.at ≡ Some c.index_mut.result.now =
    slice_get-get_or rs c.args.at c.index_mut.result.now (rung_there c.args.at es rs node c.self.invariant.0 found) ∙ ap Some (sym c.index_mut.ensures.value) in
    both_set terminating node (record node { terminating = true }) c.index_mut.result.now (c.index_mut.result.now.0, c.standing_of-standing.result) refl c.args.at es rs c.self.invariant.0 found there
    ∙ ap (λ (v : NodeTableView). changed_at terminating c.args.at v.entries) c.self.view_is
