use Rattle.std.proofs.Common.{◌<◌, ◌≤◌, ◌*◌, ◌^◌, rules, subst, sym}
use Rattle.hx_quantity.proofs.Scaling.{few, some}
use Rattle.hx_quantity.proofs.quantity.divisor.Goals as goal

pub returns-clause-some : goal.returns-clause-some
returns-clause-some c = subst (λ power. 0 < c.args.factor.over * power) (sym c.pow.ensures) (some c.args.factor.over c.args.places c.requires.over)

pub returns-clause-few : goal.returns-clause-few
returns-clause-few c = subst (λ power. c.args.factor.over * power ≤ 2 ^ 62) (sym c.pow.ensures) (few c.args.factor.over c.args.places (search rules) c.requires.places)
