use Rattle.std.proofs.Common.{ℕ, List, rules}
use Rattle.hx_marks.specs.Links.{AreLinks, IsLinkAt}
use Rattle.hx_marks.proofs.Linking.{put_links}
use Rattle.hx_marks.proofs.links.fill.Goals as goal

pub loop-member-preserved : goal.loop-member-preserved
loop-member-preserved c =
    let objects = c.args.current.now.store.now.objects in
    let kinds = c.args.kinds.now in
    let f = c.args.current.now.forest.now.nodes in
    let n = c.args.top.now in
    let m = c.member-item.result in
    let found : (above : List (List ℕ)) → AreLinks objects kinds f n above c.loop-member.links → IsLinkAt objects kinds f n above m c.in-Some.senders.items = search rules in
    put_links objects kinds f n c.args.above.now c.loop-member.links c.put.new.self m c.in-Some.senders.items c.loop-member.invariant (found c.args.above.now c.loop-member.invariant) c.in_ok-put.ensures
