use Rattle.std.proofs.Common.{◌≡◌, ◌++◌, drop}
use Rattle.hx_marks.specs.Usage.{usage_of}
use Rattle.hx_marks.proofs.usage.usage_of.Given as goal

-- the marks so far, and those of the rest
abbrev pub invariant-loop-name : goal.invariant-loop-name
invariant-loop-name l = l.keys.items ++ usage_of l.store.objects (drop l.name-index l.names) ≡ l.initial.keys.items ++ usage_of l.store.objects l.names
