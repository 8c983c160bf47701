use Rattle.std.proofs.Common.{◌≡◌, ◌∙◌, arith, get_or}
use Rattle.hx_select.proofs.Lexing.{second-there, sign-ascii, sign-boundary, two_bytes, word-boundary_by}
use Rattle.hx_select.proofs.tokens.token_len.Goals as goal

pub returns-in-Word-clause-boundary : goal.returns-in-Word-clause-boundary
returns-in-Word-clause-boundary c = word-boundary_by c.args.text.now c.as_bytes.result.now c.word_len.result c.as_bytes.ensures.value c.word_len.ensures.len c.requires.some

pub returns-in-EqualEqual-clause-boundary : goal.returns-in-EqualEqual-clause-boundary
returns-in-EqualEqual-clause-boundary c =
    let text = c.args.text.now in
    let is : get_or text 1 0 ≡ 61 = two_bytes (get_or text 0 0) (get_or text 1 0) c.args.kind c.requires.kind c.in-EqualEqual.is in
    sign-boundary text 1 c.utf8.text (second-there text is) (omega arith)

pub returns-in_default-clause-boundary : goal.returns-in_default-clause-boundary
returns-in_default-clause-boundary c =
    let sign = sign-ascii (get_or c.args.text.now 0 0) (get_or c.args.text.now 1 0) (λ is. c.in_default.not-Word (c.requires.kind ∙ is)) in
    sign-boundary c.args.text.now 0 c.utf8.text c.requires.some sign
