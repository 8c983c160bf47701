use Rattle.std.proofs.Common.{length, refl, sym, subst}
use Rattle.sqlite_disk.specs.Disk.{Torn}
use Rattle.hx_overlay.specs.Changes.{changed_by}
use Rattle.hx_overlay.proofs.Passing.{torn_on, written_on}
use Rattle.hx_overlay.proofs.overlay.OverlayDisk.write_at.Goals as goal

pub returns-clause-written : goal.returns-clause-written
returns-clause-written g c =
    written_on c.count_kept.result (g.D.Disk.seen c.args.self.now.file) c.note_written.result c.args.at c.args.bytes.now c.args.self.now.changes.items c.note_written.new.changes.items
    c.count_kept.ensures.variant c.note_written.ensures.ok

pub returns-clause-others : goal.returns-clause-others
returns-clause-others g c =
    torn_on c.note_written.result (g.D.Disk.seen c.args.self.now.file) c.args.at c.args.bytes.now c.args.self.now.changes.items c.note_written.new.changes.items c.note_written.ensures.ok c.note_written.ensures.err

pub returns-clause-crash : goal.returns-clause-crash
returns-clause-crash g c left may =
    let file = g.D.Disk.seen c.args.self.now.file in
    let old = c.args.self.now.changes.items in (
      changed_by old file,
      refl,
      subst (Torn c.args.at (length c.args.bytes.now) (changed_by old file)) (sym may)
          (torn_on c.note_written.result file c.args.at c.args.bytes.now old c.note_written.new.changes.items c.note_written.ensures.ok c.note_written.ensures.err),
    )
