use Rattle.std.proofs.Common.{◌*◌, ◌∙◌, ap, sym}
use Rattle.std.specs.Int.{div_ceil}
use Rattle.hx_object.specs.Quantities.{amount_of}
use Rattle.hx_quantity.proofs.Scaling.{not-below, too_large}
use Rattle.hx_quantity.proofs.quantity.scaled.Goals as goal

pub returns-in_default : goal.returns-in_default
returns-in_default c =
    let product = c.args.number * (c.args.factor.times * 1000) in
    let over = c.divisor-over in
    sym (too_large product over.result over.ensures.some over.ensures.few (not-below product (λ below. c.in_default.ensures below)))
    ∙ ap (λ divisor. amount_of (div_ceil product divisor)) over.ensures.value
