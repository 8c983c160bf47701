use Rattle.std.proofs.Common.{arith, length-drop}
use Rattle.hx_http.proofs.Continuing.{read-more, read-uses}
use Rattle.hx_http.proofs.next.next_by_body.Goals as goal

pub returns-then-framing-rest-clause-goes_on : goal.returns-then-framing-rest-clause-goes_on
returns-then-framing-rest-clause-goes_on c = λ more. read-more c.args.bytes.now more c.args.framing c.requires.read

pub returns-clause-uses : goal.returns-clause-uses
returns-clause-uses c =
    let few = c.if-framing-rest.false in
    read-uses c.args.bytes.now c.args.framing c.requires.read (omega (arith, few, length-drop c.args.framing.head_bytes c.args.bytes.now))
