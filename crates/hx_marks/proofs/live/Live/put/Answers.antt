use Rattle.hx_marks.proofs.Linking.{put_entry}
use Rattle.hx_marks.proofs.live.Live.put.Goals as goal

pub returns : goal.returns
returns c = put_entry c.in_ok-clone.field-0 c.args.name.now c.args.is_live c.args.self.now.known.entries _ c.in_ok-clone.ensures.cases c.in_ok-insert.ensures.updates.0
