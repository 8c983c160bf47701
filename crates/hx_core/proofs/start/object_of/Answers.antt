use Rattle.std.proofs.Common.{◌≤◌, ◌∙◌, Err, ap, arith}
use Rattle.hx_core.proofs.Loading.{takeable, untakeable}
use Rattle.hx_core.proofs.start.object_of.Goals as goal

pub returns-in-Ok-clause-object : goal.returns-in-Ok-clause-object
returns-in-Ok-clause-object c =
    (takeable c.args.state.now.state c.args.row.now c.as_slice.result.now c.as_bytes.result.now c.in-Ok.object c.housed.result c.as_slice.ensures (c.as_bytes.ensures.value ∙ c.as_str-body.ensures.value) c.in-Ok.ensures.object (let given : 1 ≤ c.args.row.now.version = omega (arith, c.if-row-eq0.false) in given) (let known : c.args.row.now.version ≤ c.args.state.now.state.last = omega (arith, c.if-row-version.false, c.version.ensures) in known) c.housed.ensures).0

pub returns-in-Ok-clause-flaw : goal.returns-in-Ok-clause-flaw
returns-in-Ok-clause-flaw c =
    (takeable c.args.state.now.state c.args.row.now c.as_slice.result.now c.as_bytes.result.now c.in-Ok.object c.housed.result c.as_slice.ensures (c.as_bytes.ensures.value ∙ c.as_str-body.ensures.value) c.in-Ok.ensures.object (let given : 1 ≤ c.args.row.now.version = omega (arith, c.if-row-eq0.false) in given) (let known : c.args.row.now.version ≤ c.args.state.now.state.last = omega (arith, c.if-row-version.false, c.version.ensures) in known) c.housed.ensures).1

pub returns-in-Err-NoObject-clause-flaw : goal.returns-in-Err-NoObject-clause-flaw
returns-in-Err-NoObject-clause-flaw c =
    untakeable c.args.state.now.state c.args.row.now c.as_slice.result.now c.as_bytes.result.now c.as_slice.ensures (c.as_bytes.ensures.value ∙ c.as_str-body.ensures.value) c.as_str-body.ensures.utf8 (let given : 1 ≤ c.args.row.now.version = omega (arith, c.if-row-eq0.false) in given) (let known : c.args.row.now.version ≤ c.args.state.now.state.last = omega (arith, c.if-row-version.false, c.version.ensures) in known) (c.in-Err-NoObject.ensures.none (ap Err c.in-Err-NoObject.field-0-is))
