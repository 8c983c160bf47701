use Rattle.std.proofs.Common.{◌≡◌, ◌∙◌, IfOk, IfErr, Ok, ap, subst, inr}
use Rattle.hx_script.specs.Forms.{reading_of_text}
use Rattle.hx_script.specs.Inside.{IsUnread}
use Rattle.hx_script.proofs.Texts.{reading-utf8, reading-other}
use Rattle.hx_script.proofs.line.read_bytes.Goals as goal

pub returns-in-Ok-clause-orders : goal.returns-in-Ok-clause-orders
returns-in-Ok-clause-orders c =
    let is = c.in-Ok.ensures.cases in
    subst (λ reading. IfOk c.read_text.result (λ order. reading ≡ Ok order)) (ap reading_of_text is.0 ∙ reading-utf8 c.args.line.now is.1) c.read_text.ensures.orders

pub returns-in-Ok-clause-unread : goal.returns-in-Ok-clause-unread
returns-in-Ok-clause-unread c =
    let is = c.in-Ok.ensures.cases in
    subst (λ reading. IfErr c.read_text.result (λ unread. IsUnread reading unread)) (ap reading_of_text is.0 ∙ reading-utf8 c.args.line.now is.1) c.read_text.ensures.unread

pub returns-in-Err-clause-unread : goal.returns-in-Err-clause-unread
returns-in-Err-clause-unread c = inr (reading-other c.args.line.now c.in-Err.ensures.cases.0)
