use Rattle.std.proofs.Common.{◌≡◌, drop}
use Rattle.hx_marks.specs.Senders.{is_sender}
use Rattle.hx_marks.proofs.senders.is_sender.Given as goal

-- the kinds that are left tell it
abbrev pub invariant-loop-kind : goal.invariant-loop-kind
invariant-loop-kind l = is_sender l.store.objects (drop l.kind-index l.kinds) l.name ≡ is_sender l.store.objects l.kinds l.name
