use Rattle.hx_ports.proofs.Found.{put-rows_in, sure}
use Rattle.hx_ports.proofs.row_map.hold_row.Goals as goal

pub returns-clause-put : goal.returns-clause-put
returns-clause-put c = put-rows_in c.args.held.now c.replace-had.new.self c.args.row (sure c.replace-had.result (c.replace-had.ensures.succeeds c.requires.room) c.replace-had.ensures.keys)
