use Rattle.std.proofs.Common.{◌∙◌, ap}
use Rattle.hx_object.specs.Json.{object_text}
use Rattle.hx_json.proofs.RowsBack.{body_is, passed, row_key, row_text}
use Rattle.hx_json.proofs.read.row.read_texts.Goals as goal

pub returns-in_err-id-clause-back : goal.returns-in_err-id-clause-back
returns-in_err-id-clause-back c = λ x h.
    passed c.from_residual.result c.in_err-id.field-0.0 x.id x c.from_residual.ensures.1 (c.in_err-id.ensures.back x.id (row_key c.args.key.now c.args.version c.args.body.now x h))

pub returns-in_err-object-clause-back : goal.returns-in_err-object-clause-back
returns-in_err-object-clause-back c = λ x h.
    let same = c.in_ok-id.ensures.back x.id (row_key c.args.key.now c.args.version c.args.body.now x h) in
    passed c.from_residual-in_err-object.result c.in_err-object.field-0.0 x x c.from_residual-in_err-object.ensures.1
    (c.in_err-object.ensures.back x (row_text c.args.key.now c.args.version c.args.body.now x h c.in_ok-id.id same))

pub returns-in_err-check_text-clause-back : goal.returns-in_err-check_text-clause-back
returns-in_err-check_text-clause-back c = λ x h.
    let same = c.in_ok-id.ensures.back x.id (row_key c.args.key.now c.args.version c.args.body.now x h) in
    let object = c.in_ok-object.ensures.back x (row_text c.args.key.now c.args.version c.args.body.now x h c.in_ok-id.id same) in
    passed c.from_residual-in_err-check_text.result c.in_err-check_text.field-0.0 tt x c.from_residual-in_err-check_text.ensures.1
    (c.in_err-check_text.ensures.back (ap object_text object ∙ body_is c.args.key.now c.args.version c.args.body.now x h))

pub returns-clause-back : goal.returns-clause-back
returns-clause-back c = λ x h.
    let same = c.in_ok-id.ensures.back x.id (row_key c.args.key.now c.args.version c.args.body.now x h) in
    c.in_ok-object.ensures.back x (row_text c.args.key.now c.args.version c.args.body.now x h c.in_ok-id.id same)
