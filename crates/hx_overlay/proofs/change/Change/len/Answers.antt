use Rattle.std.proofs.Common.{sym, arith}
use Rattle.sqlite_disk.proofs.EventLemmas.{length-padded}
use Rattle.hx_overlay.proofs.ByteByByte.{length-overlaid}
use Rattle.hx_overlay.proofs.change.Change.len.Goals as goal

pub returns-in-Written : goal.returns-in-Written
returns-in-Written c file was =
    rw c.in-Written.is (omega (arith, c.max.ensures, c.end.ensures, length-overlaid file c.in-Written.piece.at c.in-Written.piece.bytes.items))

pub returns-in-Cut : goal.returns-in-Cut
returns-in-Cut c file was = rw c.in-Cut.is (sym (length-padded file c.in-Cut.len))
