use Rattle.std.proofs.Common.{◌≡◌, ◌+◌, length, arith}
use Rattle.hx_overlay.proofs.ChangedBy.{kept_below}
use Rattle.hx_overlay.proofs.overlay.Overlay.is_unchanged.Goals as goal

pub returns-then-end-self : goal.returns-then-end-self
returns-then-end-self g c holds clean =
    let file = g.D.Disk.seen c.args.self.now.file in
    let end = c.in-Some.end in
    let long : c.args.self.now.len ≡ length file = c.args.self.now.measured clean in
    let is : end ≡ c.args.at + c.args.len = c.in-Some.ensures.1 in
    rw (← is, ← c.deref.ensures.value) (kept_below end c.deref.result.now file (c.is_kept_below.ensures holds) (omega (arith, long, c.if-end-self.true)))
