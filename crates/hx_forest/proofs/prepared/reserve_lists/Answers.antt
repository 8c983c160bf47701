use Rattle.std.proofs.Common.{rules, ◌≡◌, ◌∙◌, length, subst, ℕ, arith}
use Rattle.std.specs.List.{AllWithin}
use Rattle.hx_forest.specs.Children.{lists_of}
use Rattle.hx_forest.specs.Staged.{FitsUnder}
use Rattle.hx_forest.proofs.Readiness.{under_same, one_within, all_within}
use Rattle.hx_forest.proofs.prepared.reserve_lists.Goals as goal

pub loop-one-preserved : goal.loop-one-preserved
loop-one-preserved c =
    let room = length c.args.prepared.now in
    let old = lists_of c.args.nodes.now c.loop-one.children in
    let new = lists_of c.args.nodes.now c.reserve_for.new.children in
    record {
      names = λ q. c.reserve_for.ensures.names q ∙ c.loop-one.invariant.names q;
      tied = c.reserve_for.ensures.tied;
      room = omega (arith, c.reserve_for.ensures.room, c.loop-one.invariant.room);
      other_room = omega (arith, c.reserve_for.ensures.other_room, c.loop-one.invariant.other_room);
      fits = one_within (λ p. FitsUnder room old p.link) (λ p. FitsUnder room new p.link) c.args.prepared.now c.loop-one.one-index c.one-item.result c.one-item.is c.loop-one-test.true
          (λ p h. under_same room old new p.link (c.reserve_for.ensures.others room) h) (search rules) c.loop-one.invariant.fits;
    }

pub returns-clause-fits : goal.returns-clause-fits
returns-clause-fits c =
    let room = length c.args.prepared.now in
    let all : c.loop-one.one-index ≡ length c.args.prepared.now = omega arith in
    let lists = lists_of c.args.nodes.now c.loop-one.children in
    all_within (λ p. FitsUnder room lists p.link) c.args.prepared.now
    (subst (λ (i : ℕ). AllWithin (λ p. FitsUnder room lists p.link) c.args.prepared.now 0 i) all c.loop-one.invariant.fits)
