use Rattle.std.proofs.Common.{Some, ap, ◌∙◌}
use Rattle.std.specs.Option.{option_eq}
use Rattle.hx_model.specs.Hands.{same_write}
use Rattle.hx_core.proofs.wanted.is_wanted.Goals as goal

pub returns : goal.returns
returns c = c.is_same_as-is_same.ensures ∙ ap (λ o. option_eq same_write o (Some c.args.write.now)) (c.write.ensures.write ∙ c.in_ok-planned.ensures)
