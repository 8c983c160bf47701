use Rattle.hx_json.proofs.RowsBack.{row_key_utf8}
use Rattle.hx_json.proofs.read.BodyReader.read_row.Goals as goal

pub returns-in_default-clause-none : goal.returns-in_default-clause-none
returns-in_default-clause-none c = λ refused x h. c.in_default.ensures.cases.0 (row_key_utf8 c.args.key.now c.args.version c.args.body.now x h)
