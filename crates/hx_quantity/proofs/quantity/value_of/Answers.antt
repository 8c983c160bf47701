use Rattle.std.proofs.Common.{◌≡◌, ◌<◌, ◌^◌, ◌∙◌, sym, subst, ap, length, ◌*◌, ◌+◌, ◌-◌, arith, get_or}
use Rattle.std.proofs.lemmas.Grind.{common_steps}
use Rattle.std.specs.Str.Parse.{digits_value}
use Rattle.hx_quantity.proofs.Numbers.{below, grows}
use Rattle.hx_quantity.proofs.quantity.value_of.Goals as goal

pub overflow_mul-value : goal.overflow_mul-value
overflow_mul-value c = let g = grows c.args.digits.now c.loop-digit.digit-index c.requires.digits c.requires.few c.loop-digit-test.true in omega (arith, g.few, c.loop-digit.invariant)

pub overflow_add-value : goal.overflow_add-value
overflow_add-value c = let g = grows c.args.digits.now c.loop-digit.digit-index c.requires.digits c.requires.few c.loop-digit-test.true in omega (arith, g.few, c.loop-digit.invariant)

pub loop-digit-preserved : goal.loop-digit-preserved
loop-digit-preserved c = let g = grows c.args.digits.now c.loop-digit.digit-index c.requires.digits c.requires.few c.loop-digit-test.true in ap (λ v. v * 10 + (get_or c.args.digits.now c.loop-digit.digit-index 0 - 48)) c.loop-digit.invariant ∙ sym g.value

pub returns-clause-below : goal.returns-clause-below
returns-clause-below c =
    let whole : c.loop-digit.value ≡ digits_value 10 c.args.digits.now = grind (arith, common_steps) in
    subst (λ value. value < 10 ^ length c.args.digits.now) (sym whole) (below c.args.digits.now c.requires.digits)
