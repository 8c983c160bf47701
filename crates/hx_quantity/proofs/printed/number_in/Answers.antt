use Rattle.std.proofs.Common.{◌≡◌, ◌∙◌, None, rules, sym}
use Rattle.hx_quantity.proofs.Held.{missing, more}
use Rattle.hx_quantity.proofs.printed.number_in.Goals as goal

pub returns-in_err-number : goal.returns-in_err-number
returns-in_err-number c =
    let none : c.from_residual.result ≡ None = search rules in
    none ∙ sym (missing c.args.digits.now c.loop-digit.digit-index c.loop-digit.number c.requires c.loop-digit-test.true c.loop-digit.invariant c.with_digit.result c.with_digit.ensures c.in_err-number.was)

pub loop-digit-preserved : goal.loop-digit-preserved
loop-digit-preserved c =
    more c.args.digits.now c.loop-digit.digit-index c.loop-digit.number c.requires c.loop-digit-test.true c.loop-digit.invariant c.with_digit.result c.in_ok-number.number c.with_digit.ensures c.in_ok-number.was
