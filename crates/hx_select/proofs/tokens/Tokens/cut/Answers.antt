use Rattle.std.proofs.Common.{rules}
use Rattle.hx_select.proofs.Lexing.{reads-first}
use Rattle.hx_select.proofs.tokens.Tokens.cut.Goals as goal

pub returns-clause-token : goal.returns-clause-token
returns-clause-token c = λ place.
    let text = c.args.self.rest.now in
    let len = c.token_len.result in
    reads-first c.args.self.end c.args.self.at text place c.requires.some c.requires.first c.kind_of-kind.result c.kind_of-kind.ensures
    len c.token_len.ensures.len _ _ (c.split_at.ensures.front) (c.split_at.ensures.back) _ (search rules)
