use Rattle.std.proofs.Common.{◌≡◌, [], ◌∷◌, drop, take}
use Rattle.hx_watch.specs.Watching.{HaveFollowed}
use Rattle.hx_watch.proofs.hub.tell_each.Given as goal

abbrev pub invariant-loop-i : goal.invariant-loop-i
invariant-loop-i g l = record {
  told : HaveFollowed (l.event ∷ []) (take l.i l.fn.members) (take l.i l.members);
  rest : drop l.i l.members ≡ drop l.i l.fn.members;
}
