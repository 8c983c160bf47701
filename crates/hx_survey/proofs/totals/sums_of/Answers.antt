use Rattle.std.proofs.Common.{◌≡◌, ◌∙◌, ◌+◌, ◌≤◌, ℕ, List, Some, drop, length, refl, sym, ap, subst}
use Rattle.std.specs.Prelude.{slice_get, slice_index_or, slice_set}
use Rattle.std.proofs.lemmas.List.{drop_all, drop_more}
use Rattle.std.proofs.lemmas.Option.{slice_get_read}
use Rattle.hx_model.specs.declared.node.Node.{Node}
use Rattle.hx_survey.specs.Seams.{shared_at}
use Rattle.hx_survey.proofs.Flowing.{IsPassing, one_passed}
use Rattle.hx_survey.proofs.Summing.{IsBegun, all_begun, all_passed, none_begun, one_begun}
use Rattle.hx_survey.proofs.totals.sums_of.Goals as goal

pub loop-place-init : goal.loop-place-init
loop-place-init c = none_begun c.args.objects.now c.args.tree.now c.args.resource c.args.ways.now c.in_ok-sums.sums.items c.in_ok-sums.ensures

pub loop-place-preserved : goal.loop-place-preserved
loop-place-preserved c =
    let objects = c.args.objects.now in
    let f = c.args.tree.now in
    let ways = c.args.ways.now in
    let nodes = c.nodes-nodes.result.now in
    let sums = c.loop-place.sums.items in
    let place = c.loop-place.place in
    let e = c.index-nodes-place.result in
    let here : slice_get f place ≡ Some e = ap (λ (g : List (List ℕ × Node)). slice_get g place) (sym c.nodes-nodes.ensures.nodes) ∙ slice_get_read nodes (length nodes) place e refl c.loop-place-test.true c.index-nodes-place.is in
    subst (λ (new : List ℕ). IsBegun objects f c.args.resource ways new (place + 1))
    (sym (c.in_ok-add.ensures ∙ ap (λ more. slice_set sums place (slice_index_or sums place 0 + more)) c.in_ok-charge_in.ensures))
    (one_begun objects f c.args.resource ways sums place e c.nodes-nodes.ensures.order c.requires.ways here c.loop-place.invariant)

pub loop-lowest-init : goal.loop-lowest-init
loop-lowest-init c =
    all_begun c.args.objects.now c.args.tree.now c.args.resource c.args.ways.now c.loop-place.sums.items c.loop-place.place c.nodes-nodes.ensures.order c.requires.ways
    (subst (λ (g : List (List ℕ × Node)). length g ≤ c.loop-place.place) c.nodes-nodes.ensures.nodes c.loop-place-test.false)
    c.loop-place.invariant

pub loop-lowest-preserved : goal.loop-lowest-preserved
loop-lowest-preserved c =
    let objects = c.args.objects.now in
    let f = c.args.tree.now in
    let ways = c.args.ways.now in
    let order = ways.order.now in
    let sums = c.loop-lowest.sums.items in
    let at = c.loop-lowest.lowest-index in
    let p = slice_index_or order at 0 in
    let left = drop (at + 1) order in
    subst (λ (new : List ℕ). IsPassing objects f c.args.resource (shared_at ways.seams.now) ways.cuts.now new left)
    (sym c.in_ok-pass_on.ensures)
    (one_passed objects f c.args.resource (shared_at ways.seams.now) ways.cuts.now sums p left
    (subst (λ (ps : List ℕ). IsPassing objects f c.args.resource (shared_at ways.seams.now) ways.cuts.now sums ps) (drop_more order at 0 c.loop-lowest-test.true) c.loop-lowest.invariant))

pub returns : goal.returns
returns c =
    all_passed c.args.objects.now c.args.tree.now c.args.resource c.args.ways.now c.loop-lowest.sums.items (drop c.loop-lowest.lowest-index c.args.ways.now.order.now) c.nodes-nodes.ensures.order
    (drop_all c.loop-lowest.lowest-index c.args.ways.now.order.now c.loop-lowest-test.false)
    c.loop-lowest.invariant
