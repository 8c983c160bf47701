use Rattle.std.proofs.Common.{◌≡◌, ◌-◌, length, drop, arith, rules}
use Rattle.std.proofs.lemmas.List.{places}
use Rattle.hx_overlay.proofs.PartRead.{part_read}
use Rattle.hx_overlay.proofs.changing.read_within.Goals as goal

pub returns-clause-read : goal.returns-clause-read
returns-clause-read g c clean =
    let there = c.min-there.result in
    let range = c.args.range.now in
    let got = c.read_at.new.buf in
    let many : length got ≡ there = search (rules, places) in
    let rest : length (drop there range) ≡ length range - there = search (rules, places) in
    part_read (g.D.Disk.seen c.args.file.now) got (drop there range) c.args.len c.args.at there many (omega (arith, rest, c.min-there.ensures, c.saturating_sub.ensures)) (c.in_ok-read_at.ensures.read clean (omega (arith, c.if-there-eq0.false, many)))
