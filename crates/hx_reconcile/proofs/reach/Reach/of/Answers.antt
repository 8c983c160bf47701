use Rattle.std.proofs.Common.{◌∙◌, sym}
use Rattle.hx_reconcile.proofs.Leaving.{goes_by_both, kept_home, unread}
use Rattle.hx_reconcile.proofs.reach.Reach.of.Goals as goal

pub returns-then-not-may_leave : goal.returns-then-not-may_leave
returns-then-not-may_leave c = kept_home c.args.source.now (sym c.may_leave.ensures ∙ c.if-not-may_leave.true)

pub returns-in_default-2 : goal.returns-in_default-2
returns-in_default-2 c = unread c.args.source.now c.in_ok-tree_select.field-0 c.in_default-2.is c.in_ok-tree_select.ensures

pub returns : goal.returns
returns c =
    goes_by_both c.args.source.now c.in-Some.select c.in-Some-2.tree_select (sym c.may_leave.ensures ∙ c.if-not-may_leave.false)
    c.in_ok-select.field-0 c.in-Some.is c.in_ok-select.ensures c.in_ok-tree_select.field-0 c.in-Some-2.is c.in_ok-tree_select.ensures
