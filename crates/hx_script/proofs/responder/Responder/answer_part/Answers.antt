use Rattle.std.proofs.Common.{◌∙◌, sym}
use Rattle.hx_script.proofs.Running.{Does-quiet}
use Rattle.hx_script.proofs.responder.Responder.answer_part.Goals as goal

pub returns-then-not-is_asking-clause-does : goal.returns-then-not-is_asking-clause-does
returns-then-not-is_asking-clause-does g c = Does-quiet c.args.part.now c.without_return-text.result.now _ _ c.without_return-text.ensures (sym c.is_asking.ensures ∙ c.if-not-is_asking.true)
