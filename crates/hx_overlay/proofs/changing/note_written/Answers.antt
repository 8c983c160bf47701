use Rattle.std.proofs.Common.{◌∙◌, ap}
use Rattle.sqlite_disk.specs.Events.{overlaid}
use Rattle.hx_overlay.specs.Changes.{changed_by}
use Rattle.hx_overlay.specs.declared.change.Change.TheVariants.{Written}
use Rattle.hx_overlay.proofs.ChangedBy.{changed_by-push}
use Rattle.hx_overlay.proofs.changing.note_written.Goals as goal

pub returns-clause-ok : goal.returns-clause-ok
returns-clause-ok c file =
    let before = changed_by c.args.changes.now.items file in
    ap (λ changes. changed_by changes file) c.in_ok-push.ensures.items ∙ changed_by-push c.args.changes.now.items (Written c.in_ok-piece.piece) file
    ∙ ap (λ at. overlaid before at c.in_ok-piece.piece.bytes.items) c.in_ok-piece.ensures.0 ∙ ap (overlaid before c.args.at) c.in_ok-piece.ensures.1
