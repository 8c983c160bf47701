use Rattle.std.proofs.Common.{length, arith}
use Rattle.hx_json.proofs.Versions.{digit_fits, digit_at}
use Rattle.hx_json.proofs.read.version.number_in.Goals as goal

pub overflow_mul-number : goal.overflow_mul-number
overflow_mul-number c =
    let top = digit_fits c.loop-byte.number c.loop-byte.byte-index (length c.args.text.now) c.loop-byte.invariant.bound c.loop-byte-test.true c.requires.short in omega (arith, top)

pub overflow_add-number : goal.overflow_add-number
overflow_add-number c =
    let top = digit_fits c.loop-byte.number c.loop-byte.byte-index (length c.args.text.now) c.loop-byte.invariant.bound c.loop-byte-test.true c.requires.short in
    let digit = digit_at c.args.text.now c.loop-byte.byte-index c.requires.digits c.loop-byte-test.true in
    grind (arith, top, digit)
