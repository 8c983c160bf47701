use Rattle.std.proofs.Common.{◌≡◌, ◌++◌}
use Rattle.hx_marks.specs.Usage.{usage_of}
use Rattle.hx_marks.proofs.usage.usage_along.Given as goal

-- the marks so far, and those of what is left of the chain
abbrev pub invariant-loop-member : goal.invariant-loop-member
invariant-loop-member l = l.keys.items ++ usage_of l.store.objects l.member-iterator ≡ l.initial.keys.items ++ usage_of l.store.objects l.fn.members
