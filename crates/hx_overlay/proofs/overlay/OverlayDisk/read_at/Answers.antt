use Rattle.std.proofs.Common.{◌<◌, length, refl}
use Rattle.hx_overlay.specs.Changes.{changed_by}
use Rattle.hx_overlay.proofs.Passing.{counted_on, held_on, read_on}
use Rattle.hx_overlay.proofs.overlay.OverlayDisk.read_at.Goals as goal

pub returns-then-is_unchanged-clause-read : goal.returns-then-is_unchanged-clause-read
returns-then-is_unchanged-clause-read g c =
    let file = g.D.Disk.seen c.args.self.now.file in
    held_on (0 < length c.args.buf.now) c.read_at.result file (changed_by c.args.self.now.changes.items file) c.read_at.new.buf c.args.at c.read_at.ensures.clean (λ before. rw c.read_at.auto.buf (c.if-is_unchanged.ensures refl before)) c.read_at.ensures.read

pub returns-then-is_unchanged-clause-faults : goal.returns-then-is_unchanged-clause-faults
returns-then-is_unchanged-clause-faults g c =
    counted_on c.read_at.result (g.D.Disk.faults c.args.self.now.file) (g.D.Disk.faults c.read_at.new.self) c.args.self.now.faults
    (λ _ before. (c.if-is_unchanged.ensures refl before).there) c.read_at.ensures.faults

pub returns-clause-read : goal.returns-clause-read
returns-clause-read g c =
    rw (c.count_read.ensures.same, ← c.deref.ensures.value) (read_on _ _ (0 < length c.args.buf.now) c.read_changed-outcome.result c.read_changed-outcome.ensures.read)
