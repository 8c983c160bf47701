use Rattle.std.proofs.Common.{◌≡◌, ◌+◌, ◌-◌, ◌<◌, Some, length, sym, ap, ◌∙◌, arith}
use Rattle.hx_model.specs.Walks.{walk_to}
use Rattle.hx_forest.specs.ParentRefs.{forest_of, index_at, name_in, parent_in}
use Rattle.hx_forest.proofs.Stepping.{counted_on, counted_one, counted_none}
use Rattle.hx_forest.proofs.Indices.{to_begin, to_nowhere, to_found, to_index}
use Rattle.hx_forest.proofs.nodes.Nodes.steps_to.Goals as goal

pub returns-in_err-end : goal.returns-in_err-end
returns-in_err-end c =
    let nodes = c.args.self.now in
    c.from_residual.ensures ∙ sym (to_nowhere (length (forest_of nodes)) nodes (Some c.args.name.now) c.args.above.now (sym c.index_of.ensures ∙ c.in_err-end.was))

pub loop-steps-init : goal.loop-steps-init
loop-steps-init c =
    let nodes = c.args.self.now in
    let f = forest_of nodes in
    let above = c.args.above.now in
    let all : length f - 0 ≡ length f = omega arith in
    counted_none (walk_to (length f - 0) f (name_in nodes c.index_of-at.result) above)
    ∙ (λ i. walk_to (all i) f (name_in nodes (c.index_of-at.ensures i)) above)
    ∙ to_begin (length f) nodes (Some c.args.name.now) above

pub loop-steps-preserved : goal.loop-steps-preserved
loop-steps-preserved c =
    let nodes = c.args.self.now in
    let f = forest_of nodes in
    let above = c.args.above.now in
    let steps = c.loop-steps.steps in
    let here = c.in-Some.here in
    let some_left : 0 < length f - steps = omega (arith, c.loop-steps-test.true, c.len-count.ensures.len) in
    let one_more : length f - (steps + 1) ≡ length f - steps - 1 = omega arith in
    let at : index_at nodes (Some above) ≡ Some c.in_ok-end.end = sym c.index_of.ensures ∙ c.in_ok-end.was in
    let next : c.above-at.result ≡ index_at nodes (parent_in nodes (Some here)) = c.above-at.ensures in
    let on = to_index (length f - steps) nodes here c.in_ok-end.end c.above-at.result above some_left c.len-count.ensures.unique at c.if-here-end.false next in
    ap (λ k. counted_on (steps + 1) (walk_to k f (name_in nodes c.above-at.result) above)) one_more
    ∙ counted_one steps (walk_to (length f - steps - 1) f (name_in nodes c.above-at.result) above)
    ∙ ap (counted_on steps) (sym (ap (λ o. walk_to (length f - steps) f (name_in nodes o) above) c.in-Some.is ∙ on)) ∙ c.loop-steps.invariant

pub returns-then-here-end : goal.returns-then-here-end
returns-then-here-end c =
    let nodes = c.args.self.now in
    let f = forest_of nodes in
    let above = c.args.above.now in
    let steps = c.loop-steps.steps in
    let some_left : 0 < length f - steps = omega (arith, c.loop-steps-test.true, c.len-count.ensures.len) in
    let at : index_at nodes (Some above) ≡ Some c.in-Some.here = sym c.index_of.ensures ∙ c.in_ok-end.was ∙ ap Some (sym c.if-here-end.true) in
    let whole : steps ≡ steps + 0 = omega arith in
    ap Some whole
    ∙ sym (ap (counted_on steps) (ap (λ o. walk_to (length f - steps) f (name_in nodes o) above) c.in-Some.is ∙ to_found (length f - steps) nodes c.in-Some.here above some_left at)) ∙ c.loop-steps.invariant
