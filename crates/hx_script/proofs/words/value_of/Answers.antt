use Rattle.std.proofs.Common.{◌∙◌, sym, ap, ◌*◌, ◌+◌, ◌-◌, arith, get_or}
use Rattle.hx_script.proofs.Numbers.{grows}
use Rattle.hx_script.proofs.words.value_of.Goals as goal

pub overflow_mul-value : goal.overflow_mul-value
overflow_mul-value c = let g = grows c.args.digits.now c.loop-digit.digit-index c.requires.digits c.requires.few c.loop-digit-test.true in omega (arith, g.few, c.loop-digit.invariant)

pub overflow_add-value : goal.overflow_add-value
overflow_add-value c = let g = grows c.args.digits.now c.loop-digit.digit-index c.requires.digits c.requires.few c.loop-digit-test.true in omega (arith, g.few, c.loop-digit.invariant)

pub loop-digit-preserved : goal.loop-digit-preserved
loop-digit-preserved c = let g = grows c.args.digits.now c.loop-digit.digit-index c.requires.digits c.requires.few c.loop-digit-test.true in ap (λ v. v * 10 + (get_or c.args.digits.now c.loop-digit.digit-index 0 - 48)) c.loop-digit.invariant ∙ sym g.value
