use Rattle.std.proofs.Common.{◌≡◌, Some, rules}
use Rattle.std.specs.Prelude.{option_copied}
use Rattle.hx_marks.proofs.Sending.{come_up}
use Rattle.hx_marks.proofs.senders.come_to.Goals as goal

pub returns-in_ok-keep_at-in-Some : goal.returns-in_ok-keep_at-in-Some
returns-in_ok-keep_at-in-Some c =
    let is : option_copied c.args.parent ≡ Some c.in-Some.name.now = search rules in
    come_up c.put_first.result _ _ c.args.current.now.store.now.objects c.args.current.now.forest.now.nodes c.args.kinds.now c.in-Some.name.now (option_copied c.args.parent) (option_copied c.parent.result)
    is c.requires.part c.parent.ensures c.in_ok-keep_at-in-Some.ensures c.put_first.ensures
