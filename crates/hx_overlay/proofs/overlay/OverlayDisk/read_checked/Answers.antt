use Rattle.std.proofs.Common.{length, refl}
use Rattle.hx_overlay.specs.Changes.{changed_by}
use Rattle.hx_overlay.proofs.Passing.{counted_on, detected_on, tested_on, wanted_on}
use Rattle.hx_overlay.proofs.overlay.OverlayDisk.read_checked.Goals as goal

pub read_checked-requires-clause-want : goal.read_checked-requires-clause-want
read_checked-requires-clause-want g c =
    let file = g.D.Disk.seen c.args.self.now.file in
    wanted_on c.args.key c.args.want c.args.at (length c.args.buf.now) file (changed_by c.args.self.now.changes.items file) (c.if-is_unchanged.ensures refl) c.requires.want

pub returns-then-is_unchanged-clause-detects : goal.returns-then-is_unchanged-clause-detects
returns-then-is_unchanged-clause-detects g c before within =
    let file = g.D.Disk.seen c.args.self.now.file in
    let kept = c.if-is_unchanged.ensures refl before in
    detected_on c.args.key c.args.at (length c.args.buf.now) c.read_checked.new.buf file (changed_by c.args.self.now.changes.items file) kept (c.read_checked.ensures.detects before kept.there)

pub returns-then-is_unchanged-clause-read : goal.returns-then-is_unchanged-clause-read
returns-then-is_unchanged-clause-read g c =
    let file = g.D.Disk.seen c.args.self.now.file in
    tested_on c.read_checked.result file (changed_by c.args.self.now.changes.items file) c.read_checked.new.buf c.args.at c.read_checked.ensures.clean
    (λ before. rw c.read_checked.auto.buf (c.if-is_unchanged.ensures refl before)) c.read_checked.ensures.read

pub returns-then-is_unchanged-clause-faults : goal.returns-then-is_unchanged-clause-faults
returns-then-is_unchanged-clause-faults g c =
    counted_on c.read_checked.result (g.D.Disk.faults c.args.self.now.file) (g.D.Disk.faults c.read_checked.new.self) c.args.self.now.faults
    (λ p. (p.0, (c.if-is_unchanged.ensures refl p.0).there)) c.read_checked.ensures.faults
