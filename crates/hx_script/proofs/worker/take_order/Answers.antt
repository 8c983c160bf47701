use Rattle.std.proofs.Common.{◌∙◌, sym, ap, option_copied, option_map}
use Rattle.hx_script.specs.Inside.{key_by}
use Rattle.hx_script.proofs.Naming.{takes_named}
use Rattle.hx_script.proofs.worker.take_order.Goals as goal

pub returns-in-Err-clause-lost : goal.returns-in-Err-clause-lost
returns-in-Err-clause-lost c = (
  key_by c.in-Some-key_named.named,
  takes_named c.args.text.now c.cut.result.0.now c.in-Some-rest.rest.now c.in-Some.worker (key_by c.in-Some-key_named.named) c.cut.ensures.word
      (sym c.worker_named.ensures.worker ∙ c.in-Some.is)
      (sym c.cut.ensures.rest ∙ ap option_copied c.in-Some-rest.is)
      (sym c.key_named.ensures ∙ ap (option_map key_by) c.in-Some-key_named.is),
)
