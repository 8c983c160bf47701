use Rattle.hx_select.proofs.Lexing.{no_space}
use Rattle.hx_select.proofs.tokens.Tokens.behind_spaces.Goals as goal

pub returns-clause-first : goal.returns-clause-first
unfolding lib.Utf8.encode
returns-clause-first c = no_space c.loop-next.rest.now c.in_default.ensures.cases
