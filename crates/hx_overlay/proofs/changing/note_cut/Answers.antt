use Rattle.std.proofs.Common.{◌∙◌, ap}
use Rattle.hx_overlay.specs.Changes.{changed_by}
use Rattle.hx_overlay.specs.declared.change.Change.TheVariants.{Cut}
use Rattle.hx_overlay.proofs.ChangedBy.{changed_by-push}
use Rattle.hx_overlay.proofs.changing.note_cut.Goals as goal

pub returns-clause-ok : goal.returns-clause-ok
returns-clause-ok c file =
    ap (λ changes. changed_by changes file) c.in_ok-push.ensures.items ∙ changed_by-push c.args.changes.now.items (Cut c.args.len) file
