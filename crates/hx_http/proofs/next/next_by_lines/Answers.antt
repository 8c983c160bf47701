use Rattle.std.proofs.Common.{◌≤◌, Err, length, arith, length-take}
use Rattle.hx_http.proofs.Continuing.{lines-of-room, lines-of-more, read-here}
use Rattle.hx_http.proofs.Pieces.{head-found, next-found, more-here, large-here}
use Rattle.hx_http.proofs.next.next_by_lines.Goals as goal

pub go_on-requires : goal.go_on-requires
go_on-requires c = record { searched = lines-of-room c.args.bytes.now c.min-room.result c.args.lines c.min-room.ensures c.requires.searched }

pub next_by_body-requires : goal.next_by_body-requires
next_by_body-requires c =
    let within = c.in-Some.ensures.within in
    let few : c.in-Some.at ≤ c.min-room.result = omega (arith, within, length-take c.min-room.result c.args.bytes.now) in
    let inside : c.in-Some.at ≤ length c.args.bytes.now = omega (arith, within, length-take c.min-room.result c.args.bytes.now) in
    record { read = read-here c.args.bytes.now c.in-Some.at c.in-Ok.framing inside c.in-Ok.ensures.target (head-found c.args.bytes.now c.min-room.result c.in-Some.at c.go_on.new.self.lines _ c.min-room.ensures c.in-Some.ensures.found few c.in-Ok.ensures.decides) }

pub returns-in-Err-clause-next : goal.returns-in-Err-clause-next
returns-in-Err-clause-next c =
    let within = c.in-Some.ensures.within in
    let few : c.in-Some.at ≤ c.min-room.result = omega (arith, within, length-take c.min-room.result c.args.bytes.now) in
    next-found c.args.bytes.now c.in-Some.at _ (head-found c.args.bytes.now c.min-room.result c.in-Some.at c.go_on.new.self.lines (Err c.in-Err.fault) c.min-room.ensures c.in-Some.ensures.found few c.in-Err.ensures.decides)

pub returns-then-bytes-lt-MOST_FRONT_BYTES-clause-next : goal.returns-then-bytes-lt-MOST_FRONT_BYTES-clause-next
returns-then-bytes-lt-MOST_FRONT_BYTES-clause-next c = more-here c.args.bytes.now c.min-room.result c.min-room.ensures c.in-None.ensures.none c.if-bytes-lt-MOST_FRONT_BYTES.true

pub returns-then-bytes-lt-MOST_FRONT_BYTES-clause-goes_on : goal.returns-then-bytes-lt-MOST_FRONT_BYTES-clause-goes_on
returns-then-bytes-lt-MOST_FRONT_BYTES-clause-goes_on c = λ more. lines-of-more c.args.bytes.now more c.min-room.result c.go_on.new.self c.min-room.ensures c.in-None.ensures.searched

pub returns-else-bytes-lt-MOST_FRONT_BYTES-clause-next : goal.returns-else-bytes-lt-MOST_FRONT_BYTES-clause-next
returns-else-bytes-lt-MOST_FRONT_BYTES-clause-next c = large-here c.args.bytes.now c.min-room.result c.min-room.ensures c.in-None.ensures.none c.if-bytes-lt-MOST_FRONT_BYTES.false
