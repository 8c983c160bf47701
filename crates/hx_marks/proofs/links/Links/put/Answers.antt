use Rattle.hx_marks.proofs.Linking.{put_part}
use Rattle.hx_marks.proofs.links.Links.put.Goals as goal

pub returns : goal.returns
returns c = put_part c.in_ok-clone.field-0 c.args.name.now c.args.senders c.args.self.now.known.entries _ (λ v. v.items) c.in_ok-clone.ensures.cases c.in_ok-insert.ensures.updates.0
