use Rattle.std.proofs.Common.{sym, drop, length-drop, arith}
use Rattle.std.proofs.Math.Seq.{take-add}
use Rattle.std.proofs.lemmas.List.{take_rest, take-append-drop}
use Rattle.hx_ports.proofs.Writing.{calm_on, not_stall, Appends-trans, Appends-kept, Keeps-from_none}
use Rattle.hx_ports.proofs.pieces.write_all.Goals as goal

pub loop-at-preserved : goal.loop-at-preserved
loop-at-preserved g c =
    let e = take_rest c.args.bytes.now (c.loop-at).at in
    let bound = rw e at c.in-Ok.ensures.bound in
    let wrote = rw e at c.in-Ok.ensures.bytes in
    record {
      calm = calm_on _ _ _ c.loop-at.invariant.calm (record { faults = c.in-Ok.ensures.cause.still; stalls = c.in-Ok.ensures.stall.still (not_stall _ _ c.in-Ok.count-test.1) });
      within = omega (arith, bound, length-drop (c.loop-at).at c.args.bytes.now);
      written = rw (take-add (c.loop-at).at c.in-Ok.count c.args.bytes.now) (Appends-trans _ _ _ _ _ c.loop-at.invariant.written wrote);
    }

pub returns-in-Ok-eq0-clause-cut : goal.returns-in-Ok-eq0-clause-cut
returns-in-Ok-eq0-clause-cut g c = record { front = _; lacking = drop (c.loop-at).at c.args.bytes.now; whole = sym (take-append-drop (c.loop-at).at c.args.bytes.now); wrote = Appends-kept _ _ _ _ c.loop-at.invariant.written (let none = rw c.in-Ok-eq0.field-0-test at c.in-Ok-eq0.ensures.bytes in Keeps-from_none _ _ none) }

pub returns-in-Err-clause-cut : goal.returns-in-Err-clause-cut
returns-in-Err-clause-cut g c = record { front = _; lacking = drop (c.loop-at).at c.args.bytes.now; whole = sym (take-append-drop (c.loop-at).at c.args.bytes.now); wrote = Appends-kept _ _ _ _ c.loop-at.invariant.written c.in-Err.ensures.bytes }
