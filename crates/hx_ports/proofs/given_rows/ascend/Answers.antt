use Rattle.std.proofs.Common.{◌≡◌, ◌-◌, get_or, arith}
use Rattle.std.specs.Ordering.{is_ge}
use Rattle.hx_object.specs.Texts.{bytes_cmp}
use Rattle.hx_ports.proofs.Placed.{order-is, ascends-not, ascends-next, ascends-all}
use Rattle.hx_ports.proofs.given_rows.ascend.Goals as goal
use Rattle.hx_ports.proofs.given_rows.ascend.Goals.{After-ge}

-- what the test of two neighbours says of their keys
below : (c : After-ge) → c.ge.result ≡ is_ge (bytes_cmp c.index-rows-i.result.key c.index-rows-i-in-loop-i.result.key)
below c =
    let e = order-is is_ge c.ge.result (get_or c.args.rows.now (c.loop-i.i - 1) c.index-rows-i.result).key (get_or c.args.rows.now c.loop-i.i c.index-rows-i-in-loop-i.result).key c.ge.ensures in
    rw (← c.index-rows-i.is, ← c.index-rows-i-in-loop-i.is) at e

pub returns-then-ge : goal.returns-then-ge
returns-then-ge c = ascends-not c.args.rows.now c.loop-i.i c.index-rows-i.result c.index-rows-i-in-loop-i.result c.ge.result
    (omega arith) (omega arith) c.index-rows-i.is c.index-rows-i-in-loop-i.is c.loop-i.invariant (below c.before) c.if-ge.true

pub loop-i-preserved : goal.loop-i-preserved
loop-i-preserved c = ascends-next c.args.rows.now c.loop-i.i c.index-rows-i.result c.index-rows-i-in-loop-i.result c.ge.result
    (omega arith) (omega arith) c.index-rows-i.is c.index-rows-i-in-loop-i.is c.loop-i.invariant (below c.before) c.if-ge.false

pub returns : goal.returns
returns c = ascends-all c.args.rows.now c.loop-i.i (omega arith) c.loop-i.invariant
