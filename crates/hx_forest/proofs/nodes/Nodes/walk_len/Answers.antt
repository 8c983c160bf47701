use Rattle.std.proofs.Common.{rules, ◌≡◌, ◌∙◌, true, is_some, arith}
use Rattle.hx_forest.specs.ParentRefs.{place_in}
use Rattle.hx_forest.proofs.Indices.{ends_index}
use Rattle.hx_forest.proofs.nodes.Nodes.walk_len.Goals as goal

pub loop-left-preserved : goal.loop-left-preserved
loop-left-preserved c =
    let nodes = c.args.self.now in
    let there : is_some (place_in nodes c.loop-left.at) ≡ true = search rules in
    record {
      whole = ends_index c.loop-left.left nodes c.loop-left.at c.above-at.result c.loop-left.passed c.loop-left-test.true there c.above-at.ensures ∙ c.loop-left.invariant.whole;
      count = omega (arith, c.loop-left.invariant.count, c.loop-left-test.true);
    }
