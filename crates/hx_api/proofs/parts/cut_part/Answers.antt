use Rattle.std.proofs.Common.{arith}
use Rattle.hx_api.proofs.Bytes.{cuts_at, first_at, first_nowhere}
use Rattle.hx_api.proofs.Cuts.{cut_at, uncut}
use Rattle.hx_api.proofs.parts.cut_part.Goals as goal

pub returns-in_err-slash : goal.returns-in_err-slash
returns-in_err-slash c = rw (c.from_residual.ensures) (uncut c.args.path.now (first_nowhere 47 c.args.path.now c.as_bytes.result.now c.memchr.result c.memchr.ensures c.as_bytes.ensures.value c.in_err-slash.was))

pub range_from-requires : goal.range_from-requires
range_from-requires c _ =
    let found = first_at 47 c.args.path.now c.as_bytes.result.now c.memchr.result c.in_ok-slash.slash c.memchr.ensures c.as_bytes.ensures.value c.in_ok-slash.was in
    (cuts_at 47 c.args.path.now c.in_ok-slash.slash (omega arith) c.utf8.path found.1 found.2).1

pub returns : goal.returns
returns c =
    let found = first_at 47 c.args.path.now c.as_bytes.result.now c.memchr.result c.in_ok-slash.slash c.memchr.ensures c.as_bytes.ensures.value c.in_ok-slash.was in
    rw (c.range.ensures.value, c.range_from.ensures.value) (cut_at c.args.path.now c.in_ok-slash.slash found.0 found.1)
