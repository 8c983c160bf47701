use Rattle.std.proofs.Common.{refl, sym, subst}
use Rattle.sqlite_disk.specs.Disk.{Cut}
use Rattle.hx_overlay.specs.Changes.{changed_by}
use Rattle.hx_overlay.proofs.Passing.{cut_on, length_on}
use Rattle.hx_overlay.proofs.overlay.OverlayDisk.set_len.Goals as goal

pub returns-clause-len : goal.returns-clause-len
returns-clause-len g c =
    length_on c.count_kept.result (g.D.Disk.seen c.args.self.now.file) c.note_cut.result c.args.len c.args.self.now.changes.items c.note_cut.new.changes.items
    c.count_kept.ensures.variant c.note_cut.ensures.ok

pub returns-clause-others : goal.returns-clause-others
returns-clause-others g c =
    cut_on c.note_cut.result (g.D.Disk.seen c.args.self.now.file) c.args.len c.args.self.now.changes.items c.note_cut.new.changes.items c.note_cut.ensures.ok c.note_cut.ensures.err

pub returns-clause-crash : goal.returns-clause-crash
returns-clause-crash g c left may =
    let file = g.D.Disk.seen c.args.self.now.file in
    let old = c.args.self.now.changes.items in
    (changed_by old file, refl, subst (Cut c.args.len (changed_by old file)) (sym may) (cut_on c.note_cut.result file c.args.len old c.note_cut.new.changes.items c.note_cut.ensures.ok c.note_cut.ensures.err))
