use Rattle.std.proofs.Common.{rules, ◌≡◌, ◌+◌, ◌∙◌, ◌||◌, true, false, drop, sym, ap, arith}
use Rattle.std.specs.List.{list_any}
use Rattle.std.specs.Str.{bytes_eq}
use Rattle.hx_forest.specs.Inside.{is_over}
use Rattle.hx_forest.proofs.Depths.{over_top, over_none, over_on, any_drop, any_past}
use Rattle.hx_forest.proofs.forest.Forest.+goes_deeper.Goals as goal
use Rattle.hx_forest.proofs.forest.Forest.+goes_deeper.Goals.{then-left-eq0-via-then-left-eq0, then-left-eq0-via-else-left-eq0+then-goes_deeper}

pub loop-child-preserved-then-eq : goal.loop-child-preserved-then-eq
loop-child-preserved-then-eq t c =
    let f = c.args.self.now.nodes in
    let top = c.args.top.now in
    let child = c.child-item.result in
    let back : bytes_eq child top ≡ true = search rules in
    any_past (is_over c.args.left f top) c.children-child-items.result.now c.loop-child.child-index child c.loop-child-test.true c.child-item.is (over_top c.args.left f top child back) ∙ c.loop-child.invariant

pub loop-child-preserved : goal.loop-child-preserved
loop-child-preserved t c =
    let f = c.args.self.now.nodes in
    let top = c.args.top.now in
    let child = c.child-item.result in
    let other : bytes_eq child top ≡ false = search rules in
    any_past (is_over c.args.left f top) c.children-child-items.result.now c.loop-child.child-index child c.loop-child-test.true c.child-item.is
    (over_on c.args.left f top child (omega arith) other ∙ sym c.goes_deeper.ensures ∙ c.if-goes_deeper.false) ∙ c.loop-child.invariant

pub returns-then-left-eq0 : goal.returns-then-left-eq0
returns-then-left-eq0 t c =
    let f = c.args.self.now.nodes in
    let top = c.args.top.now in
    let child = c.child-item.result in
    let xs = c.children-child-items.result.now in
    let i = c.loop-child.child-index in
    let other : bytes_eq child top ≡ false = search rules in
    let over : is_over c.args.left f top child ≡ true = elim c.then-left-eq0.branch [
      | then-left-eq0-via-then-left-eq0 w ↦ over_none c.args.left f top child w.if-left-eq0.true other
      | then-left-eq0-via-else-left-eq0+then-goes_deeper w ↦ over_on c.args.left f top child (let some = w.if-left-eq0.false in omega (arith, some)) other ∙ sym w.goes_deeper.ensures ∙ w.if-goes_deeper.true
    ] in
    sym (any_drop (is_over c.args.left f top) xs i child c.loop-child-test.true c.child-item.is ∙ ap (λ b. b || list_any (is_over c.args.left f top) (drop (i + 1) xs)) over) ∙ c.loop-child.invariant
