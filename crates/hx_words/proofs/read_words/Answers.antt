use Rattle.std.proofs.Common.{◌∙◌, map, string_bytes}
use Rattle.std.proofs.lemmas.Result.{IfOk-weaker}
use Rattle.hx_words.proofs.Reading.{command_of-none, command_of-refused, command_of-taken, has_fault, named}
use Rattle.hx_words.proofs.read_words.Goals as goal

pub returns-in_err-matches-clause-usage : goal.returns-in_err-matches-clause-usage
returns-in_err-matches-clause-usage c =
    λ is. command_of-refused (map string_bytes c.args.words.now) (has_fault c.from_residual.result _ _ c.from_residual.ensures.1 c.in_err-matches.ensures.fails is)

pub returns-in-Some-clause-words : goal.returns-in-Some-clause-words
returns-in-Some-clause-words c =
    let asked = command_of-taken (map string_bytes c.args.words.now) _ _ _ c.in_ok-matches.ensures.fails c.in_ok-matches.ensures.matches (c.in-Some.ensures.name ∙ named c.in_ok-matches.matches) c.in-Some.ensures.rows in
    IfOk-weaker c.asked_by.result _ _ (λ command is. asked ∙ is) c.asked_by.ensures.words

pub returns-in-Some-clause-usage : goal.returns-in-Some-clause-usage
returns-in-Some-clause-usage c =
    let asked = command_of-taken (map string_bytes c.args.words.now) _ _ _ c.in_ok-matches.ensures.fails c.in_ok-matches.ensures.matches (c.in-Some.ensures.name ∙ named c.in_ok-matches.matches) c.in-Some.ensures.rows in
    λ is. asked ∙ c.asked_by.ensures.usage is

pub returns-clause-usage : goal.returns-clause-usage
returns-clause-usage c = λ is. command_of-none (map string_bytes c.args.words.now) _ c.in_ok-matches.ensures.fails c.in_ok-matches.ensures.matches c.in-None.ensures.rows
