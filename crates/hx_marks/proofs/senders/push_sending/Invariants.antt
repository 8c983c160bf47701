use Rattle.std.proofs.Common.{◌≡◌, ◌++◌, drop}
use Rattle.hx_marks.specs.Senders.{senders_of}
use Rattle.hx_marks.proofs.senders.push_sending.Given as goal

-- those so far, and those of the rest
abbrev pub invariant-loop-name : goal.invariant-loop-name
invariant-loop-name l = l.senders.items ++ senders_of l.store.objects l.kinds (drop l.name-index l.names) ≡ l.initial.senders.items ++ senders_of l.store.objects l.kinds l.names
