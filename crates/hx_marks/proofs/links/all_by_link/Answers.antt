use Rattle.hx_marks.proofs.Adding.{grown}
use Rattle.hx_marks.proofs.Linking.{by_links}
use Rattle.hx_marks.proofs.links.all_by_link.Goals as goal

pub returns-in-Some : goal.returns-in-Some
returns-in-Some c =
    grown c.all_under.result _ _ _ _
    (by_links c.args.current.now.store.now.objects c.args.current.now.forest.now.nodes c.args.top.now c.args.above.now c.args.links.now c.args.member.now c.in-Some.senders.now c.requires c.in-Some.ensures)
    c.all_under.ensures
