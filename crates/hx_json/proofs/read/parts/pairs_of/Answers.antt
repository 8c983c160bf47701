use Rattle.std.proofs.Common.{◌≡◌, subst, true, None}
use Rattle.json.specs.Value.{members_view}
use Rattle.hx_object.specs.Pairs.{has_ascending_keys}
use Rattle.hx_json.proofs.Kept.{ascending, pairs_whole}
use Rattle.hx_json.proofs.read.parts.pairs_of.Goals as goal

pub of-requires : goal.of-requires
of-requires c =
    let all = pairs_whole c.args.members.now c.loop-key.key-index c.loop-key.pairs.items c.loop-key-test.false c.loop-key.invariant in
    subst (λ ps. has_ascending_keys ps ≡ true) all (ascending None (members_view c.args.members.now) c.requires)
