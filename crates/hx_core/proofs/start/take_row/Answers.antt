use Rattle.std.proofs.Common.{ap, ◌∙◌, is_lt}
use Rattle.hx_object.specs.Texts.{bytes_cmp}
use Rattle.std.specs.Ordering.{is_ge}
use Rattle.hx_ports.proofs.Placed.{order-is}
use Rattle.hx_ports.specs.Rows.{Entry}
use Rattle.hx_core.proofs.Loading.{behind_from, ahead_from, is_new, hindered_on}
use Rattle.hx_core.proofs.start.take_row.Goals as goal

pub returns-then-ge-clause-untaken : goal.returns-then-ge-clause-untaken
returns-then-ge-clause-untaken c = ahead_from c.args.key.now c.args.row.now.key c.ge.result (order-is is_ge c.ge.result c.args.key.now c.args.row.now.key c.ge.ensures) c.if-ge.true

pub returns-in_err-object-clause-untaken : goal.returns-in_err-object-clause-untaken
returns-in_err-object-clause-untaken c = hindered_on c.from_residual.result c.in_err-object.field-0.0 c.args.state.now.state c.args.key.now c.args.row.now c.from_residual.ensures.1 c.in_err-object.ensures.flaw

pub load-requires-clause-new : goal.load-requires-clause-new
load-requires-clause-new c =
    let behind = behind_from c.args.key.now c.args.row.now.key c.ge.result (order-is is_ge c.ge.result c.args.key.now c.args.row.now.key c.ge.ensures) c.if-ge.false in
    is_new c.args.key.now c.in_ok-object.object c.args.state.now.state.objects c.requires.last (ap (λ (e : Entry). is_lt (bytes_cmp c.args.key.now e.0)) c.in_ok-object.ensures.object.entry ∙ behind)

pub returns-clause-taken : goal.returns-clause-taken
returns-clause-taken c =
    record { behind = behind_from c.args.key.now c.args.row.now.key c.ge.result (order-is is_ge c.ge.result c.args.key.now c.args.row.now.key c.ge.ensures) c.if-ge.false; object = c.in_ok-object.object; takes = c.in_ok-object.ensures.object; after = c.in_ok-load.ensures.state }
