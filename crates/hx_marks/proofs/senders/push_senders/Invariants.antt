use Rattle.std.proofs.Common.{◌≡◌, ◌++◌}
use Rattle.hx_marks.specs.Senders.{senders_of}
use Rattle.hx_marks.proofs.senders.push_senders.Given as goal

-- those so far, and those of the rest
abbrev pub invariant-loop-name : goal.invariant-loop-name
invariant-loop-name l = l.senders.items ++ senders_of l.store.objects l.kinds l.name-iterator ≡ l.initial.senders.items ++ senders_of l.store.objects l.kinds l.fn.names
