use Rattle.hx_sqlite.proofs.Standing.{stands_behind}
use Rattle.hx_sqlite.proofs.closing.close_files.Goals as goal

pub returns-in-Ok : goal.returns-in-Ok
returns-in-Ok g c =
    stands_behind g.met.D.Disk.seen_may_stay c.args.connection c.in-Ok.files c.in-Ok.ensures.copied c.without_log.result c.without_log.ensures.log c.without_log.ensures.db c.without_log.ensures.clean
