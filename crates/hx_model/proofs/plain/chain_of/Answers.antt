use Rattle.std.proofs.Common.{rules, ◌≡◌, ◌∙◌, ap, option_copied, true}
use Rattle.hx_model.specs.Forest.{goes_on}
use Rattle.hx_model.proofs.Listing.{climb_on}
use Rattle.hx_model.proofs.plain.chain_of.Goals as goal

pub loop-left-preserved : goal.loop-left-preserved
loop-left-preserved c =
    let goes : goes_on c.args.nodes.now c.loop-left.built.items c.in-Some.one.now ≡ true = search rules in
    let copy : c.in_ok-clone.field-0 ≡ c.in-Some.one.now = search rules in
    rw (c.in_ok-push.ensures.items, copy, c.parent_of-next.ensures)
    (climb_on c.loop-left.left c.args.nodes.now c.loop-left.built.items (option_copied c.loop-left.next) c.in-Some.one.now (ap option_copied c.in-Some.is) c.loop-left-test.true goes ∙ c.loop-left.invariant)
