use Rattle.std.proofs.Common.{◌∙◌, sym}
use Rattle.hx_select.specs.Tokens.{ends_word}
use Rattle.hx_select.proofs.Lexing.{length-is}
use Rattle.hx_select.proofs.tokens.word_len.Goals as goal

pub returns-in-None-clause-len : goal.returns-in-None-clause-len
returns-in-None-clause-len c = length-is ends_word c.args.bytes.now (sym c.first_end.ensures ∙ c.in-None.is)
