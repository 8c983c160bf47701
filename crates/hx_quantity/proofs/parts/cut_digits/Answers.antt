use Rattle.std.proofs.Common.{◌≡◌, subst, sym, true, rules, take}
use Rattle.std.specs.List.{list_all}
use Rattle.hx_object.specs.Names.{is_digit}
use Rattle.hx_object.specs.Quantities.{digits_len}
use Rattle.hx_quantity.proofs.Digits.{first-digits}
use Rattle.hx_quantity.proofs.parts.cut_digits.Goals as goal

pub returns-clause-digits : goal.returns-clause-digits
returns-clause-digits c =
    let front : c.split_at.result.0.now ≡ take (digits_len c.args.text.now) c.args.text.now = search rules in
    subst (λ digits. list_all is_digit digits ≡ true) (sym front) (first-digits c.args.text.now)
